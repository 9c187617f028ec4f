-- A row would change exactly when it loses a bit.
use mathlib.Core.Path.{◌≡◌, refl, sym, subst, ◌∙◌}
use mathlib.Core.List.{List, []}
use Prim.Native.Nat.{ℕ, ◌≤◌, ◌<◌}
use native.Mathlib.Nat.{pos_of_ne-zero}
use lib.Dec.{T, leb, le→leb, eqb, eqb→eq, eqb_refl}
use borrow.Author.Tests.{lt-leb}
use mathlib.Core.Bool.{not}
use Rattle.std.specs.Prelude.{Option, Some, None}
use Rattle.theory.specs.Limits.{readings_most}
use Rattle.theory.specs.Bound.{first}
use Rattle.theory.specs.BoundLaws.{and_i, and_r, any_i, first_holds, not_i, not_e, T_ext}
use Rattle.theory.specs.Relation.{Rel}
use Rattle.words.specs.Word.{bit, pack}
use Rattle.words.specs.WordLaws.{bit-pack, pack-lt, zero_no}
use Rattle.words.specs.EndLaws.{first_one}
use Rattle.refusal.specs.Said.{says}
use Rattle.table.specs.declared.layout.Row.{Row}
use Rattle.table.specs.Layout.{rel, some_first, some_first_row}
use Rattle.table.specs.LayoutLaws.{rel-narrow}
use Rattle.table.proofs.Search.{none_where}
use Rattle.table.proofs.Says.{row-said, row-passed}
use Rattle.settle.specs.Round.{lost, changed_row, Turned}
use Rattle.settle.specs.Changes.{changed_above, said_changed, after_settled}
use Rattle.settle.specs.ChangesLaws.{changed_e, above_first}

-- no row below the diagonal is looked at
pub changed_below : (n : ℕ) (R : Rel) (i j : ℕ) → j < i → None ≡ some_first readings_most (changed_above n R i j)
unfolding changed_above
changed_below n R i j h = none_where 32 (changed_above n R i j) (λ a l t. rw (lt-leb i j h) at t)

-- a row would change exactly when it loses a bit
pub row_changed : (n : ℕ) (R : Rel) (i j a w : ℕ) → i ≤ j → w ≡ pack 32 (lost n R i j a) → not (eqb w 0) ≡ changed_above n R i j a
unfolding changed_above changed_row
row_changed n R i j a w le e = T_ext (not (eqb w 0)) (changed_above n R i j a) to from
  where
    to : T (not (eqb w 0)) → T (changed_above n R i j a)
    to t =
        let d : w ≡ 0 → ⊥ = λ z. not_e (eqb w 0) t (rw z (eqb_refl 0)) in
        let hb : first 32 (bit w) < 32 = first_one 32 w (pos_of_ne-zero d) (rw e (pack-lt 32 (lost n R i j a))) in
        and_i (leb i j) _ (le→leb i j le)
        (any_i 32 (lost n R i j a) (first 32 (bit w)) hb (rw (bit-pack 32 (lost n R i j a) (first 32 (bit w)) hb) at (subst (λ (x : ℕ). T (bit x (first 32 (bit w)))) e (first_holds 32 (bit w) hb))))

    from : T (changed_above n R i j a) → T (not (eqb w 0))
    from s =
        let (b, hb, u) = changed_e n R i j a (and_r (leb i j) (changed_row n R i j a) s) in
        not_i (eqb w 0) (λ z. zero_no b (rw (sym e ∙ eqb→eq w 0 z) at (rw (sym (bit-pack 32 (lost n R i j a) b hb)) at u)))

-- what the search comes to
pub changed_said : (n : ℕ) (t : List ℕ) → Turned n (rel n t) → (o : Option Row) → o ≡ some_first_row n (changed_above n (rel n t)) → said_changed o ≡ after_settled n (rel n t) (says 0 [])
changed_said n t turn o e = go o (e ∙ above_first n (rel n t) turn (λ i j a b hi hj. rel-narrow n t i j a b))
  where
    go : (o : Option Row) → o ≡ some_first_row n (changed_row n (rel n t)) → said_changed o ≡ after_settled n (rel n t) (says 0 [])
    go (Some r) f = row-said 8 n (changed_row n (rel n t)) (says 0 []) f refl
    go None f = row-passed 8 n (changed_row n (rel n t)) (says 0 []) f refl

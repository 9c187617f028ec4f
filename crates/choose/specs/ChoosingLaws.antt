-- Each check of choosing refuses exactly where its condition does not hold.
use Rattle.std.specs.Prelude.{◌≡◌, Bool, not, ◌&&◌, ◌||◌, List, [], ◌∷◌, ℕ, ◌<◌, T, eqb, ltb, length}
use Rattle.std.proofs.Common.{sym, ◌∙◌, subst, inl, inr, le_refl, le_antisymm, eqb→eq, ltb→lt, lt→ltb, lit≤, lt-ltb, le-ltb}
use Rattle.std.proofs.Math.Dec.{eqb_refl}
use Rattle.theory.specs.BoundLaws.{and_i, and_l, and_r, or_by, or_use, not_e, known, lt_or_ge}
use Rattle.theory.specs.Relation.{Rel, WellFormed, Settled}
use Rattle.theory.proofs.RelationLaws.{pair_small}
use Rattle.theory.specs.Reading.{empty}
use Rattle.theory.specs.Rows.{stands, whole, WholeRows}
use Rattle.theory.proofs.RowsLaws.{whole_i, whole_rows_e}
use Rattle.theory.specs.Choice.{free, Fixed, Allowed, clash_from, clash_to}
use Rattle.theory.proofs.ChoiceLaws.{clash-le, no_clash}
use Rattle.refusal.specs.Said.{says}
use Rattle.table.specs.declared.layout.Row.{Row}
use Rattle.table.specs.Layout.{size_of, table_row, search_rows, search_row, row_number, at}
use Rattle.table.specs.LayoutLaws.{Narrow, row_in, number_in, row_of_number, search_is_table}
use Rattle.table.specs.Checks.{Check}
use Rattle.table.specs.CheckLaws.{both, check_of, check_test, check-first}
use Rattle.table.specs.Shape.{row_place, after_shape}
use Rattle.table.specs.ShapeLaws.{check_shape}
use Rattle.judge.specs.Asked.{broken_row, at_first_broken}
use Rattle.settle.specs.Changes.{after_settled}
use Rattle.settle.specs.ChangesLaws.{check-settled}
use Rattle.settle.specs.Settle.{rel_of}
use Rattle.choose.specs.Choosing.{choice_of, bad_fixed, after_lent, after_empty, after_fixed, after_clash, after_table, after_ready, Ready, Agreed}

pub check-lent : (n held room : ℕ) → Check ((held ≡ n) × (room ≡ n)) (after_lent n held room)
unfolding after_lent
check-lent n held room =
    check_of (λ t. (eqb→eq held n (and_l (eqb held n) (eqb room n) t), eqb→eq room n (and_r (eqb held n) (eqb room n) t)))
    (λ h. and_i (eqb held n) (eqb room n) (rw h.0 (eqb_refl n)) (rw h.1 (eqb_refl n)))
    (check_test (eqb held n && eqb room n) (says 7 []) (lit≤ tt))

pub check-filled : (n : ℕ) (R : Rel) → Check (T (not (empty n R))) (after_empty n R)
unfolding after_empty
check-filled n R = check_test (not (empty n R)) (says 9 []) (lit≤ tt)

pub check-whole : {n : ℕ} {size : ℕ → ℕ} {R : Rel} → WellFormed n size R → Check (WholeRows n size R) (at_first_broken 10 n size R)
unfolding broken_row
check-whole {n} {size} {R} w = check_of rows none (check-first (search_rows n) broken (λ p. says 10 (row_place (search_row n p))) (λ p. lit≤ tt))
  where
    broken : ℕ → Bool
    broken p = at (broken_row size R) (search_row n p)

    rows : ((p : ℕ) → p < search_rows n → T (broken p) → ⊥) → WholeRows n size R
    rows f = whole_rows_e w (λ i j a hi hj ha. elim (known (whole (stands size R j) (R i j a))) [
      | inl t ↦ t
      | inr t ↦ absurd (f (row_number n i j a) (number_in n i j a hi hj ha) (subst (λ (r : Row). T (at (broken_row size R) r))
          (sym (search_is_table n (row_number n i j a) ∙ row_of_number n i j a hj ha)) t))
    ])

    none : WholeRows n size R → (p : ℕ) → p < search_rows n → T (broken p) → ⊥
    none f p h t =
        let r = row_in n p h in
        let s : T (at (broken_row size R) (table_row n p)) = subst (λ (q : Row). T (at (broken_row size R) q)) (search_is_table n p) t in
        not_e (whole (stands size R (table_row n p).j) (R (table_row n p).i (table_row n p).j (table_row n p).a)) s
        (whole_i _ _ (f (table_row n p).i (table_row n p).j (table_row n p).a r.first r.second))

pub check_fixed : (sizes fixed : List ℕ) → Check ((f : ℕ) → f < length sizes → Fixed (choice_of fixed) f → choice_of fixed f < size_of sizes f) (after_fixed sizes fixed)
unfolding after_fixed
check_fixed sizes fixed = check_of below none (check-first (length sizes) (bad_fixed sizes fixed) (λ f. says 11 (f ∷ [])) (λ f. lit≤ tt))
  where
    below : ((f : ℕ) → f < length sizes → T (bad_fixed sizes fixed f) → ⊥) → (f : ℕ) → f < length sizes → Fixed (choice_of fixed) f → choice_of fixed f < size_of sizes f
    below g f h s = elim (known (free (choice_of fixed f) || ltb (choice_of fixed f) (size_of sizes f))) [
      | inl t ↦ ltb→lt (choice_of fixed f) (size_of sizes f) (or_use (free (choice_of fixed f)) _ t s)
      | inr t ↦ absurd (g f h t)
    ]

    none : ((f : ℕ) → f < length sizes → Fixed (choice_of fixed) f → choice_of fixed f < size_of sizes f) → (f : ℕ) → f < length sizes → T (bad_fixed sizes fixed f) → ⊥
    none g f h t = not_e (free (choice_of fixed f) || ltb (choice_of fixed f) (size_of sizes f)) t (or_by (free (choice_of fixed f)) _ (λ s. lt→ltb (choice_of fixed f) (size_of sizes f) (g f h s)))

pub check-clash : {n : ℕ} {size : ℕ → ℕ} {R : Rel} → WellFormed n size R → (fixed : ℕ → ℕ) → Check (Allowed n R fixed) (after_clash n R fixed)
unfolding after_clash
check-clash {n} {size} {R} w fixed = record {
  passes = λ ok rest. let e = (no_clash w fixed).1 ok in rw (e, le-ltb n n (le_refl n));
  decides = elim (lt_or_ge (clash_from n R fixed) n) [
    | inl h ↦ inr (says 12 (clash_from n R fixed ∷ clash_to n R fixed ∷ []), lit≤ tt, λ rest. rw (lt-ltb (clash_from n R fixed) n h))
    | inr h ↦ inl ((no_clash w fixed).0 (le_antisymm (clash-le n R fixed) h))
  ];
}

pub narrow : {n : ℕ} {size : ℕ → ℕ} {R : Rel} → WellFormed n size R → Narrow n R
narrow w i j a b = pair_small w i j a b

-- 8 to 10 refuse exactly what is not settled, empty or broken
pub check-table : {n : ℕ} {size : ℕ → ℕ} {R : Rel} → WellFormed n size R → Check (Settled n R × (T (not (empty n R)) × WholeRows n size R)) (after_table n size R)
check-table {n} {size} {R} w =
    both {A = after_settled n R} (check-settled n R (narrow w)) (λ _. both {A = after_empty n R} (check-filled n R) (λ _. check-whole w))

-- 1 to 11 refuse exactly what is not ready
pub check_ready : (sizes t fixed : List ℕ) (room : ℕ) → Check (Ready sizes t fixed room) (after_ready sizes t fixed room)
check_ready sizes t fixed room =
    check_of
    (λ h. record { good = h.0; held = h.1.0.0; lent = h.1.0.1; settled = h.1.1.0.0; filled = h.1.1.0.1.0; whole = h.1.1.0.1.1; bytes = h.1.1.1 })
    (λ r. (r.good, ((r.held, r.lent), ((r.settled, (r.filled, r.whole)), r.bytes))))
    (both {A = after_shape sizes t} (check_shape sizes t)
    (λ g. both {A = after_lent (length sizes) (length fixed) room} (check-lent (length sizes) (length fixed) room)
    (λ _. both {A = after_table (length sizes) (size_of sizes) (rel_of sizes t)} (check-table g.formed)
    (λ _. check_fixed sizes fixed))))

-- 1 to 12 refuse exactly what is not ready or not agreed
pub check_choose : (sizes t fixed : List ℕ) (room : ℕ) → Check (Ready sizes t fixed room × Agreed sizes t fixed)
    (λ rest. after_ready sizes t fixed room (after_clash (length sizes) (rel_of sizes t) (choice_of fixed) rest))
check_choose sizes t fixed room = both {A = after_ready sizes t fixed room} (check_ready sizes t fixed room) (λ r. check-clash r.good.formed (choice_of fixed))

-- A search for a word that is not 0, and what its end says of the relation.
use mathlib.Core.Path.{◌≡◌, refl, sym, ap, ap₂, subst, ◌∙◌}
use mathlib.Core.Bool.{Bool, true, false, not}
use mathlib.Core.List.{List, []}
use Prim.Native.Nat.{ℕ, zero, suc, ◌+◌, ◌*◌, ◌/◌, ◌%◌, ◌≤◌, ◌<◌, zero-le}
use native.Mathlib.Nat.{not-suc-le-zero, lt_of_lt_of_le, le_refl}
use native.Mathlib.Numerals.{add-one}
use native.Mathlib.Omega.{arith}
use borrow.Author.Count.{below_more}
use lib.Bits.{bit_or, or_zero_l, or_add_and, and_le_l, and_le_r}
use lib.Dec.{T, eqb, eqb→eq, eqb_refl}
use lib.ListN.{length, get_or, take}
use lib.Seq.{take-length}
use denote.Ref.{Bor}
use denote.Param.Members.{Mut, Called}
use Rattle.std.specs.Prelude.{Option, Some, None, IfSome, IsSomeAnd, IsTrue, MatchBool}
use Rattle.std.specs.List.{fold, IsSubsliceAt}
use Rattle.std.specs.Iterator.Runs.{Run, IsChunksExactRun, AllItemsGive, AnyItem, AnyItemGives}
use Rattle.std.proofs.lemmas.List.Sums.{fold_more}
use Rattle.theory.specs.Limits.{readings_most}
use Rattle.theory.specs.Bound.{all}
use Rattle.theory.specs.BoundLaws.{T_ext, all_i, all_e, not_e}
use Rattle.theory.specs.Reading.{holds, empty}
use Rattle.theory.proofs.ReadingLaws.{holds_i, empty_i}
use Rattle.words.specs.Word.{bit}
use Rattle.words.specs.WordLaws.{zero_of, zero_no}
use Rattle.table.specs.Layout.{table_length, table_row, row, row_number, rel}
use Rattle.table.specs.LayoutLaws.{Fit, row_in, number_of_row, number_in, rel-bit, rel-narrow}
use Rattle.judge.specs.Bits.{no_bit}

-- the words before p are 0
pub record Zeros (t : List ℕ) (p : ℕ) : Type 0 where
  pub none : (q : ℕ) → q < p → get_or t q 0 ≡ 0

pub zeros_none : (t : List ℕ) → Zeros t 0
zeros_none t = record { none = λ q h. absurd (not-suc-le-zero h) }

module _ {t : List ℕ} {p : ℕ} where
  pub zeros_more : Zeros t p → get_or t p 0 ≡ 0 → Zeros t (p + 1)
  zeros_more g e = record { none = below_more (λ q. get_or t q 0 ≡ 0) p g.none e }

  pub zeros-all : Zeros t p → length t ≤ p → true ≡ no_bit t
  unfolding no_bit
  zeros-all g h = T_ext true (no_bit t) (λ _. all_i (length t) (λ q. eqb (get_or t q 0) 0) (λ q l. rw (g.none q (lt_of_lt_of_le l h)) (eqb_refl 0))) (λ _. tt)

-- and so they are where no word has a bit
zeros_of : (t : List ℕ) (p : ℕ) → p ≤ length t → T (no_bit t) → Zeros t p
unfolding no_bit
zeros_of t p h x = record { none = λ q l. eqb→eq (get_or t q 0) 0 (all_e (length t) (λ q. eqb (get_or t q 0) 0) x q (lt_of_lt_of_le l h)) }

-- bits gathered

or_none_l : (v w : ℕ) → bit_or v w ≡ 0 → v ≡ 0
or_none_l v w e = omega (arith, e, or_add_and v w, and_le_r v w)

or_none_r : (v w : ℕ) → bit_or v w ≡ 0 → w ≡ 0
or_none_r v w e = omega (arith, e, or_add_and v w, and_le_l v w)

-- w is 0 where the words before p are, and there alone
pub record Gathered (t : List ℕ) (p w : ℕ) : Type 0 where
  pub upto : p ≤ length t
  pub none : w ≡ 0 → Zeros t p
  pub clear : Zeros t p → w ≡ 0

pub gathered_none : (t : List ℕ) → Gathered t 0 0
gathered_none t = record { upto = zero-le; none = λ e. zeros_none t; clear = λ z. refl }

module _ {t : List ℕ} {p w : ℕ} (g : Gathered t p w) where
  pub gathered_more : p < length t → Gathered t (p + 1) (bit_or w (get_or t p 0))
  gathered_more h = record {
    upto = omega arith;
    none = λ e. zeros_more (g.none (or_none_l w (get_or t p 0) e)) (or_none_r w (get_or t p 0) e);
    clear = λ z. ap₂ bit_or (g.clear (record { none = λ q l. z.none q (omega arith) })) (z.none p (omega arith)) ∙ or_zero_l 0;
  }

  gathered-done : length t ≤ p → eqb w 0 ≡ no_bit t
  gathered-done h = T_ext (eqb w 0) (no_bit t) (λ x. subst T (zeros-all (g.none (eqb→eq w 0 x)) h) tt) (λ x. rw (g.clear (zeros_of t p g.upto x)) (eqb_refl 0))

gathered_to : (t : List ℕ) (n : ℕ) → n ≤ length t → Gathered t n (fold bit_or 0 (take n t))
gathered_to t zero h = gathered_none t
gathered_to t (suc n) h =
    let e = fold_more bit_or 0 t n 0 (omega arith) in
    rw (← add-one, e) (gathered_more (gathered_to t n (omega arith)) (omega arith))

pub gathered_all : (t : List ℕ) → eqb (fold bit_or 0 t) 0 ≡ no_bit t
gathered_all t = rw take-length at (gathered-done (gathered_to t (length t) (le_refl (length t))) (le_refl (length t)))

-- cell after cell: a run over the chunks of a cell's length

module _ {S : Type 0} {steps : S → Option (Bor (List ℕ)) → S → Type 0} (p : Run steps) {n : ℕ} {xs t : List ℕ} (long : n ≡ readings_most) (same : xs ≡ t) (runs : IsChunksExactRun p n xs) where
  cut : IsChunksExactRun p readings_most t
  cut = rw (long, same) at runs

  -- a chunk has the words of its place
  at : (k : ℕ) (x : Bor (List ℕ)) → p.at k ≡ Some x → (length x.now ≡ readings_most) × (k * readings_most + readings_most ≤ length t) × IsSubsliceAt readings_most t (k * readings_most) x.now
  at k x e = subst (λ (o : Option (Bor (List ℕ))). IfSome o (λ y. (length y.now ≡ readings_most) × (k * readings_most + readings_most ≤ length t)
      × IsSubsliceAt readings_most t (k * readings_most) y.now)) e (cut.2 k)

  -- where none of them has a bit, no word is left that has one
  none : length t % readings_most ≡ 0 → p.whole ≡ true → ((k : ℕ) (x : Bor (List ℕ)) → p.at k ≡ Some x → T (no_bit x.now)) → T (no_bit t)
  none m w h = subst T (zeros-all {t = t} {p = length t} (record { none = word }) (le_refl (length t))) tt
    where
      word : (q : ℕ) → q < length t → get_or t q 0 ≡ 0
      word q l = go (p.at (q / readings_most)) refl
        where
          go : (o : Option (Bor (List ℕ))) → p.at (q / readings_most) ≡ o → get_or t q 0 ≡ 0
          go None e =
              let r = p.reads (q / readings_most) (record { ref_ptr = (0, 0); now = [] }) (omega (arith, cut.1 w)) in
              let s = rw e at r in
              cc
          go (Some x) e =
              let c = at (q / readings_most) x e in
              let k : q / readings_most * readings_most + q % readings_most ≡ q = omega arith in
              ap (λ (i : ℕ). get_or t i 0) (sym k)
              ∙ sym (c.2.2 (q % readings_most) 0 (omega arith))
              ∙ (zeros_of x.now (length x.now) (omega arith) (h (q / readings_most) x e)).none (q % readings_most) (omega (arith, c.0))

  -- and where one has a bit, the table has
  some : (k : ℕ) (x : Bor (List ℕ)) → p.at k ≡ Some x → T (no_bit t) → T (no_bit x.now)
  some k x e z =
      let c = at k x e in
      subst T (zeros-all {t = x.now} {p = length x.now} (record {
        none = λ q l. c.2.2 q 0 (omega (arith, c.0)) ∙ (zeros_of t (length t) (omega arith) z).none (k * readings_most + q) (omega (arith, c.0, c.1));
      }) (omega arith)) tt

  -- so they are asked one by one
  pub cells_asked : {F : Type 0} (g : Mut F (Bor (List ℕ) × Unit {0}) Bool) (f : F) → ((x : Bor (List ℕ)) (r : Bool) (f' : F) → Called g f (x, tt) r f' → (f' ≡ f) × (r ≡ no_bit x.now))
      → length t % readings_most ≡ 0
      → (b : Bool) → MatchBool b (IsTrue p.whole × AllItemsGive p g f true) (AnyItemGives p g f false) → b ≡ no_bit t
  cells_asked {F} g f asks m true h = T_ext true (no_bit t) (λ _. none m h.0 (λ k x e.
      let c : Called g f (x, tt) true f = subst (λ (o : Option (Bor (List ℕ))). IfSome o (λ y. Called g f (y, tt) true f)) e (h.1 (λ a r f' c. (asks a.0 r f' c).0) k) in
      subst T (asks x true f c).1 tt)) (λ _. tt)
  cells_asked {F} g f asks m false h = T_ext false (no_bit t) (λ x. absurd x) (hit (h (λ a r f' c. (asks a.0 r f' c).0)))
    where
      hit : AnyItem p (λ y. Called g f (y, tt) false f) → T (no_bit t) → ⊥
      hit i z = go (p.at i.0) refl i.2
        where
          go : (o : Option (Bor (List ℕ))) → p.at i.0 ≡ o → IsSomeAnd o (λ y. Called g f (y, tt) false f) → ⊥
          go None e a = a
          go (Some x) e a = subst T (sym (asks x false f a).1) (some i.0 x e z)

-- a table of words without a bit stands for no pair
pub no_bit_empty : (n : ℕ) (t : List ℕ) → length t ≡ table_length n → Fit t → no_bit t ≡ empty n (rel n t)
unfolding no_bit empty row
no_bit_empty n t long fit = T_ext (no_bit t) (empty n (rel n t)) (λ x. empty_i n (rel n t) (none x))
    (λ x. all_i (length t) (λ p. eqb (get_or t p 0) 0) (λ p l. rw (zero x p (rw long at l)) (eqb_refl 0)))
  where
    none : T (no_bit t) → (i j a b : ℕ) → i < n → j < n → T (rel n t i j a b) → ⊥
    none x i j a b hi hj s =
        let l = rel-narrow n t i j a b s in
        let z = eqb→eq (get_or t (row_number n i j a) 0) 0 (all_e (length t) (λ p. eqb (get_or t p 0) 0) x (row_number n i j a) (rw long (number_in n i j a hi hj l.0))) in
        zero_no b (subst (λ (w : ℕ). T (bit w b)) z (subst T (rel-bit n t i j a b l.0 l.1) s))

    zero : T (empty n (rel n t)) → (p : ℕ) → p < table_length n → get_or t p 0 ≡ 0
    zero x p l = zero_of 32 (get_or t p 0) (fit p) (λ b hb s.
        let r = row_in n p l in
        not_e (holds (rel n t) (table_row n p).i (table_row n p).j) (all_e n (λ j. not (holds (rel n t) (table_row n p).i j))
        (all_e n (λ i. all n (λ j. not (holds (rel n t) i j))) x (table_row n p).i r.first) (table_row n p).j r.second)
        (holds_i (rel n t) (table_row n p).i (table_row n p).j (table_row n p).a b r.reading hb
        (subst T (sym (rel-bit n t (table_row n p).i (table_row n p).j (table_row n p).a b r.reading hb ∙ ap (λ (q : ℕ). bit (get_or t q 0) b) (number_of_row n p))) s)))

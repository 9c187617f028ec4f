-- What the checks say where their searches end.
use mathlib.Core.Path.{◌≡◌, sym, ap, subst, ◌∙◌}
use mathlib.Core.Logic.{◌⊎◌, inl, inr}
use mathlib.Core.Bool.{Bool, true, false, cond, not, xor, ◌&&◌}
use mathlib.Core.List.{List, [], ◌∷◌}
use Prim.Native.Nat.{ℕ, ◌≤◌, ◌<◌}
use native.Mathlib.Nat.{le_antisymm}
use native.Mathlib.Omega.{arith}
use lib.Dec.{T, eqb, ltb, lt→ltb, eqb→eq, eqb_refl}
use lib.ListN.{length}
use borrow.Author.Tests.{le-leb, lt-leb, lt-ltb, le-ltb, eq-eqb, ne_eqb}
use Rattle.std.specs.Prelude.{Option, Some, None, option_map}
use Rattle.theory.specs.Limits.{fields_most, readings_most}
use Rattle.theory.specs.Bound.{any, first}
use Rattle.theory.specs.BoundLaws.{and_i, and_r, not_i, not_e, known, lt_or_ge, any_i, any_e, first_is, first-le, first_holds, first_least, first_none}
use Rattle.theory.specs.Relation.{Rel}
use Rattle.refusal.specs.Said.{Said, says}
use Rattle.table.specs.declared.layout.Row.{Row}
use Rattle.table.specs.Layout.{table_length, table_rows, table_row, RowIn, row_number, at, first_row, some_first, some_first_row}
use Rattle.table.specs.LayoutLaws.{row_in, number_in, row_of_number, number_of_row, number_by_field}
use Rattle.table.specs.Checks.{at_first}
use Rattle.table.specs.Shape.{bad_size, stray_row, diagonal_row, mirror_row, mirror_above, row_place, at_first_row, after_sizes, after_length, after_rows}
use Rattle.table.specs.ShapeLaws.{Clear, xor_same}
use Rattle.table.proofs.Search.{is_some, is_none, mapped_some, mapped_none}

-- the first of n

module _ (n : ℕ) (p : ℕ → Bool) (say : ℕ → Said) (rest : Said) where
  at-found : first n p < n → say (first n p) ≡ at_first n p say rest
  at-found l = sym (ap (λ (b : Bool). cond b (say (first n p)) rest) (lt-ltb (first n p) n l))

  at-passed : n ≤ first n p → rest ≡ at_first n p say rest
  at-passed h = sym (ap (λ (b : Bool). cond b (say (first n p)) rest) (le-ltb (first n p) n h))

-- 1 and 2

module _ (sizes : List ℕ) (rest : Said) where
  pub sizes_none : length sizes ≡ 0 → says 1 [] ≡ after_sizes sizes rest
  unfolding after_sizes
  sizes_none e = rw (lt-leb 1 (length sizes) (omega arith))

  pub sizes_many : fields_most < length sizes → says 1 [] ≡ after_sizes sizes rest
  unfolding after_sizes
  sizes_many h = rw (le-leb 1 (length sizes) (omega arith), lt-leb (length sizes) 16 h)

  sizes-few : (length sizes ≡ 0 → ⊥) → length sizes ≤ fields_most → after_sizes sizes rest ≡ at_first (length sizes) (bad_size sizes) (λ f. says 2 (f ∷ [])) rest
  unfolding after_sizes
  sizes-few n h = rw (le-leb 1 (length sizes) (omega arith), le-leb (length sizes) 16 h)

  module _ {r : Option ℕ} (n : length sizes ≡ 0 → ⊥) (h : length sizes ≤ fields_most) (e : r ≡ some_first (length sizes) (bad_size sizes)) where
    pub sizes_bad : {f : ℕ} → r ≡ Some f → says 2 (f ∷ []) ≡ after_sizes sizes rest
    sizes_bad s =
        let w = is_some (length sizes) (bad_size sizes) (sym s ∙ e) in
        rw w.0 (at-found (length sizes) (bad_size sizes) (λ f. says 2 (f ∷ [])) rest (rw (← w.0) w.1)) ∙ sym (sizes-few n h)

    pub sizes-good : r ≡ None → rest ≡ after_sizes sizes rest
    sizes-good s = at-passed (length sizes) (bad_size sizes) (λ f. says 2 (f ∷ [])) rest (is_none (length sizes) (bad_size sizes) (sym s ∙ e)) ∙ sym (sizes-few n h)

-- 3

module _ (n : ℕ) (t : List ℕ) (rest : Said) where
  pub length_wrong : (length t ≡ table_length n → ⊥) → says 3 [] ≡ after_length n t rest
  unfolding after_length
  length_wrong h = rw (ne_eqb (length t) (table_length n) h)

  pub length-right : length t ≡ table_length n → rest ≡ after_length n t rest
  unfolding after_length
  length-right h = rw (eq-eqb (length t) (table_length n) h)

-- 4, 5 and 6

module _ (k n : ℕ) (test : ℕ → ℕ → ℕ → Bool) (rest : Said) where
  pub row-said : {o : Option Row} {r : Row} → o ≡ some_first_row n test → o ≡ Some r → says k (row_place r) ≡ at_first_row k n test rest
  unfolding some_first_row
  row-said {o} {r} e s =
      let w = mapped_some (table_row n) (table_rows n) (λ q. at test (table_row n q)) (sym s ∙ e) in
      ap (λ (x : Row). says k (row_place x)) w.1 ∙ at-found (table_rows n) (λ q. at test (table_row n q)) (λ q. says k (row_place (table_row n q))) rest w.0

  pub row-passed : {o : Option Row} → o ≡ some_first_row n test → o ≡ None → rest ≡ at_first_row k n test rest
  unfolding some_first_row
  row-passed e s =
      at-passed (table_rows n) (λ q. at test (table_row n q)) (λ q. says k (row_place (table_row n q))) rest
      (mapped_none (table_row n) (table_rows n) (λ q. at test (table_row n q)) (sym s ∙ e))

pub rows-clear : (n : ℕ) (test : ℕ → ℕ → ℕ → Bool) {o : Option Row} → o ≡ some_first_row n test → o ≡ None → Clear n test
unfolding some_first_row
rows-clear n test {o} e s i j a hi hj ha t = (first_none (table_rows n) p).0 none (row_number n i j a) (number_in n i j a hi hj ha) (rw (row_of_number n i j a hj ha) t)
  where
    p : ℕ → Bool
    p q = at test (table_row n q)

    none : first (table_rows n) p ≡ table_rows n
    none = le_antisymm (first-le (table_rows n) p) (mapped_none (table_row n) (table_rows n) p (sym s ∙ e))

xor_e : (x y : Bool) → T (xor x y) → T x ⊎ T y
unfolding xor
xor_e true y t = inl tt
xor_e false true t = inr tt
xor_e false false t = absurd t

xor-turn : (x y : Bool) → T (xor x y) → T (xor y x)
unfolding xor
xor-turn true true t = t
xor-turn true false t = tt
xor-turn false true t = tt
xor-turn false false t = t

-- where 5 has passed, the first row that differs from its mirror lies above the diagonal: one below it has an earlier partner
module _ (n : ℕ) (R : Rel) where
  -- a row that differs from its mirror has a partner that does
  partner : (i j a : ℕ) → a < readings_most → T (mirror_row R i j a) → (b : ℕ) × (b < readings_most) × T (mirror_row R j i b)
  unfolding mirror_row
  partner i j a ha t =
      let w = any_e 32 (λ b. xor (R i j a b) (R j i b a)) t in
      (w.0, w.1, any_i 32 (λ b. xor (R j i w.0 b) (R i j b w.0)) a ha (xor-turn (R i j a w.0) (R j i w.0 a) w.2))

  -- a cell of a field that has no bit off its diagonal is its own mirror
  own : Clear n (diagonal_row R) → (i a : ℕ) → i < n → a < readings_most → T (mirror_row R i i a) → ⊥
  unfolding mirror_row diagonal_row
  own clear i a hi ha t = go w.0 w.1 w.2 (known (eqb a w.0))
    where
      w : (b : ℕ) × (b < readings_most) × T (xor (R i i a b) (R i i b a))
      w = any_e 32 (λ b. xor (R i i a b) (R i i b a)) t

      off : (a b : ℕ) → a < readings_most → b < readings_most → T (not (eqb a b)) → T (R i i a b) → ⊥
      off a b ha hb n s =
          clear i i a hi hi ha (and_i (eqb i i) (any 32 (λ c. R i i a c && not (eqb a c))) (eqb_refl i)
          (any_i 32 (λ c. R i i a c && not (eqb a c)) b hb (and_i (R i i a b) (not (eqb a b)) s n)))

      go : (b : ℕ) → b < readings_most → T (xor (R i i a b) (R i i b a)) → T (eqb a b) ⊎ T (not (eqb a b)) → ⊥
      go b hb x (inl e) = xor_same (R i i a b) (R i i b a) (rw (eqb→eq a b e)) x
      go b hb x (inr e) = elim (xor_e (R i i a b) (R i i b a) x) [
        | inl s ↦ off a b ha hb e s
        | inr s ↦ off b a hb ha (not_i (eqb b a) (λ q. not_e (eqb a b) e (rw (eqb→eq b a q) (eqb_refl a)))) s
      ]

  mirror-first : Clear n (diagonal_row R) → first_row n (mirror_above R) ≡ first_row n (mirror_row R)
  unfolding mirror_above
  mirror-first clear = sym (first_is (table_rows n) (λ p. at (mirror_row R) (table_row n p)) k (first-le (table_rows n) above) hit none)
    where
      above : ℕ → Bool
      above p = at (mirror_above R) (table_row n p)

      k : ℕ
      k = first (table_rows n) above

      hit : k < table_rows n → T (at (mirror_row R) (table_row n k))
      hit l = and_r (ltb (table_row n k).i (table_row n k).j) (at (mirror_row R) (table_row n k)) (first_holds (table_rows n) above l)

      none : (q : ℕ) → q < k → T (at (mirror_row R) (table_row n q)) → ⊥
      none q l t = go (row_in n q (omega (arith, first-le (table_rows n) above))) (lt_or_ge (table_row n q).i (table_row n q).j) (lt_or_ge (table_row n q).j (table_row n q).i)
        where
          i : ℕ
          i = (table_row n q).i

          j : ℕ
          j = (table_row n q).j

          a : ℕ
          a = (table_row n q).a

          earlier : RowIn n (table_row n q) → j < i → (b : ℕ) × (b < readings_most) × T (mirror_row R j i b) → ⊥
          earlier r h w =
              first_least (table_rows n) above (row_number n j i w.0)
              (omega (arith, l, number_of_row n q, number_by_field n j i w.0 i j a r.first w.1 h))
              (subst (λ (x : Row). T (at (mirror_above R) x)) (sym (row_of_number n j i w.0 r.first w.1)) (and_i (ltb j i) (mirror_row R j i w.0) (lt→ltb j i h) w.2))

          go : RowIn n (table_row n q) → (i < j) ⊎ (j ≤ i) → (j < i) ⊎ (i ≤ j) → ⊥
          go r (inl h) _ = first_least (table_rows n) above q l (and_i (ltb i j) (mirror_row R i j a) (lt→ltb i j h) t)
          go r (inr g) (inl h) = earlier r h (partner i j a r.reading t)
          go r (inr g) (inr h) = own clear i a r.first r.reading (subst (λ (x : ℕ). T (mirror_row R i x a)) (le_antisymm g h) t)

  pub mirror_first : Clear n (diagonal_row R) → some_first_row n (mirror_above R) ≡ some_first_row n (mirror_row R)
  unfolding some_first_row some_first
  mirror_first clear = ap (λ (f : ℕ). option_map (table_row n) (cond (ltb f (table_rows n)) (Some f) None)) (mirror-first clear)

module _ (n : ℕ) (size : ℕ → ℕ) (R : Rel) (rest : Said) {o : Option Row} (stray : o ≡ some_first_row n (stray_row size R)) where
  pub rows_stray : {r : Row} → o ≡ Some r → says 4 (row_place r) ≡ after_rows n size R rest
  unfolding after_rows
  rows_stray s = row-said 4 n (stray_row size R) (at_first_row 5 n (diagonal_row R) (at_first_row 6 n (mirror_row R) rest)) stray s

  module _ {d : Option Row} (inside : o ≡ None) (diagonal : d ≡ some_first_row n (diagonal_row R)) where
    pub rows_diagonal : {r : Row} → d ≡ Some r → says 5 (row_place r) ≡ after_rows n size R rest
    unfolding after_rows
    rows_diagonal s =
        row-said 5 n (diagonal_row R) (at_first_row 6 n (mirror_row R) rest) diagonal s
        ∙ row-passed 4 n (stray_row size R) (at_first_row 5 n (diagonal_row R) (at_first_row 6 n (mirror_row R) rest)) stray inside

    module _ {m : Option Row} (own : d ≡ None) (mirror : m ≡ some_first_row n (mirror_above R)) where
      whole : m ≡ some_first_row n (mirror_row R)
      whole = mirror ∙ mirror_first n R (rows-clear n (diagonal_row R) diagonal own)

      pub rows_mirror : {r : Row} → m ≡ Some r → says 6 (row_place r) ≡ after_rows n size R rest
      unfolding after_rows
      rows_mirror s =
          row-said 6 n (mirror_row R) rest whole s
          ∙ row-passed 5 n (diagonal_row R) (at_first_row 6 n (mirror_row R) rest) diagonal own
          ∙ row-passed 4 n (stray_row size R) (at_first_row 5 n (diagonal_row R) (at_first_row 6 n (mirror_row R) rest)) stray inside

      pub rows-good : m ≡ None → rest ≡ after_rows n size R rest
      unfolding after_rows
      rows-good s =
          row-passed 6 n (mirror_row R) rest whole s
          ∙ row-passed 5 n (diagonal_row R) (at_first_row 6 n (mirror_row R) rest) diagonal own
          ∙ row-passed 4 n (stray_row size R) (at_first_row 5 n (diagonal_row R) (at_first_row 6 n (mirror_row R) rest)) stray inside

-- From the tests on a cell's words to the tests on the rows of the relation that they stand for.
use mathlib.Core.Path.{◌≡◌, sym, ap, subst, ◌∙◌}
use mathlib.Core.Bool.{Bool, not, xor, ◌&&◌}
use mathlib.Core.List.{List}
use Prim.Native.Nat.{ℕ, ◌+◌, ◌*◌, ◌≤◌, ◌<◌}
use native.Mathlib.Omega.{arith}
use lib.Dec.{eqb, ltb}
use lib.ListN.{length, get_or}
use lib.Arith.{digits_lt}
use Rattle.std.specs.Prelude.{Option, Some, None, option_map}
use borrow.Author.Tests.{ne_eqb, eq-eqb, lt-ltb, le-ltb}
use Rattle.theory.specs.Limits.{readings_most}
use Rattle.theory.specs.Bound.{first}
use Rattle.theory.specs.BoundLaws.{any_same}
use Rattle.words.specs.Word.{bit, pack}
use Rattle.words.specs.WordLaws.{bit-pack}
use Rattle.table.specs.declared.layout.Row.{Row}
use Rattle.table.specs.Layout.{rel, cell_start, table_rows, table_row, at, size_of, some_first, some_first_row}
use Rattle.table.specs.LayoutLaws.{cell_bit, row_of_number}
use Rattle.table.specs.Post.{CellWords, RowAt}
use Rattle.table.specs.Cells.{stray_in, diagonal_in, mirror_in}
use Rattle.table.specs.Shape.{stray_row, diagonal_row, mirror_row, mirror_above}
use Rattle.table.proofs.Search.{Passed, Along, passed-all, passed_block, found_block, some_is, none_is, is_some, is_none, none_where, some_first_same}

pub stray_row_lem : (sizes t : List ℕ) (i j : ℕ) {s : List ℕ} {size mask w : ℕ} {r : Option ℕ} → CellWords (length sizes) t i j s
    → size ≡ size_of sizes i → w ≡ size_of sizes j → mask ≡ pack 32 (λ b. ltb b w)
    → r ≡ some_first readings_most (stray_in size mask s) → r ≡ some_first readings_most (stray_row (size_of sizes) (rel (length sizes) t) i j)
unfolding stray_in stray_row
stray_row_lem sizes t i j {s} {size} {mask} {w} {r} es ei ej em er =
    er ∙ some_first_same 32 (stray_in size mask s) (stray_row (size_of sizes) (rel (length sizes) t) i j)
    (λ a ha. any_same 32 (λ b. bit (get_or s a 0) b && not (ltb a size && bit mask b)) (λ b. rel (length sizes) t i j a b && not (ltb a (size_of sizes i) && ltb b (size_of sizes j)))
    (λ b hb. rw (es.words, cell_bit (length sizes) t i j a b ha hb, ei, em, bit-pack 32 (λ c. ltb c w) b hb, ej)))

pub diagonal_off : (t : List ℕ) (n i j : ℕ) → (i ≡ j → ⊥) → None ≡ some_first readings_most (diagonal_row (rel n t) i j)
unfolding diagonal_row
diagonal_off t n i j h = none_where 32 (diagonal_row (rel n t) i j) (λ a l x. rw (ne_eqb i j h) at x)

pub diagonal_row_lem : (t : List ℕ) (n i j : ℕ) {s : List ℕ} {r : Option ℕ} → i ≡ j → CellWords n t i j s
    → r ≡ some_first readings_most (diagonal_in s) → r ≡ some_first readings_most (diagonal_row (rel n t) i j)
unfolding diagonal_in diagonal_row
diagonal_row_lem t n i j {s} {r} e es er =
    er ∙ some_first_same 32 (diagonal_in s) (diagonal_row (rel n t) i j)
    (λ a ha. rw (eq-eqb i j e) (any_same 32 (λ b. bit (get_or s a 0) b && not (eqb a b)) (λ b. rel n t i j a b && not (eqb a b)) (λ b hb. rw (es.words, cell_bit n t i j a b ha hb))))

pub mirror_off : (t : List ℕ) (n i j : ℕ) → j ≤ i → None ≡ some_first readings_most (mirror_above (rel n t) i j)
unfolding mirror_above
mirror_off t n i j h = none_where 32 (mirror_above (rel n t) i j) (λ a l x. rw (le-ltb i j h) at x)

pub mirror_row_lem : (t : List ℕ) (n i j : ℕ) {s m : List ℕ} {r : Option ℕ} → i < j → CellWords n t i j s → CellWords n t j i m
    → r ≡ some_first readings_most (mirror_in s m) → r ≡ some_first readings_most (mirror_above (rel n t) i j)
unfolding mirror_in mirror_above mirror_row
mirror_row_lem t n i j {s} {m} {r} h es em er =
    er ∙ some_first_same 32 (mirror_in s m) (mirror_above (rel n t) i j)
    (λ a ha. rw (lt-ltb i j h) (any_same 32 (λ b. xor (bit (get_or s a 0) b) (bit (get_or m b 0) a)) (λ b. xor (rel n t i j a b) (rel n t j i b a))
    (λ b hb. rw (es.words, em.words, cell_bit n t i j a b ha hb, cell_bit n t j i b a hb ha))))

-- a row found by its number
pub numbered_row : {n i j a p : ℕ} {r : Row} → j < n → a < readings_most → p ≡ cell_start n i j → RowAt n (p + a) r → r ≡ record { i = i; j = j; a = a }
numbered_row {n} {i} {j} {a} hj ha e f = f.is ∙ ap (λ (k : ℕ). table_row n (k + a)) e ∙ row_of_number n i j a hj ha

-- a search over the rows cell by cell has passed so many cells
pub record PassedCells (n : ℕ) (test : ℕ → ℕ → ℕ → Bool) (c : ℕ) : Type 0 where
  pub rows : Passed (table_rows n) (λ q. at test (table_row n q)) (c * readings_most)

pub cells_same : {n : ℕ} {test : ℕ → ℕ → ℕ → Bool} {c d : ℕ} → PassedCells n test c → c ≡ d → PassedCells n test d
cells_same {n} {test} g e = subst (PassedCells n test) e g

module _ (n : ℕ) (test : ℕ → ℕ → ℕ → Bool) where
  cell_along : (i j : ℕ) → j < n → Along readings_most (λ q. at test (table_row n q)) ((i * n + j) * readings_most) (test i j)
  cell_along i j hj a ha = ap (at test) (row_of_number n i j a hj ha)

  module _ (i j : ℕ) (g : PassedCells n test (i * n + j)) (hi : i < n) (hj : j < n) where
    cell_within : (i * n + j) * readings_most + readings_most ≤ table_rows n
    cell_within = let d : i * n + j < n * n = digits_lt hi hj in omega arith

    pub cells_more : {r : Option ℕ} → r ≡ some_first readings_most (test i j) → r ≡ None → PassedCells n test (i * n + (j + 1))
    cells_more e f =
        let p = passed_block readings_most (test i j) g.rows cell_within (cell_along i j hj) (is_none readings_most (test i j) (sym f ∙ e)) in
        record { rows = subst (Passed (table_rows n) (λ q. at test (table_row n q))) (omega arith) p }

    pub cells_found : {r : Option ℕ} {a : ℕ} → r ≡ some_first readings_most (test i j) → r ≡ Some a → Some (record { i = i; j = j; a = a }) ≡ some_first_row n test
    unfolding some_first_row
    cells_found {r} {a} e f =
        let h = is_some readings_most (test i j) (sym f ∙ e) in
        let q : (i * n + j) * readings_most + a ≡ first (table_rows n) (λ q. at test (table_row n q)) =
        rw h.0 (found_block readings_most (test i j) g.rows cell_within (cell_along i j hj) (rw h.0 at h.1)) in
        ap Some (sym (row_of_number n i j _ hj h.1)) ∙ ap (option_map (table_row n)) (some_is (table_rows n) (λ q. at test (table_row n q)) q (omega (arith, cell_within, h.1)))

  pub cells_all : {c : ℕ} → PassedCells n test c → n * n ≤ c → None ≡ some_first_row n test
  unfolding some_first_row
  cells_all g h = ap (option_map (table_row n)) (none_is (table_rows n) (λ q. at test (table_row n q)) (passed-all g.rows (omega arith)) (omega arith))

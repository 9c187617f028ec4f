-- The checks 1 to 6 of sizes and a table, and what a table that passes them is (01, "The table", "Numbers given back").
use Rattle.std.specs.Prelude.{◌≡◌, Bool, cond, not, ◌&&◌, List, [], ◌∷◌, ℕ, ◌≤◌, ◌<◌, eqb, leb, ltb, length}
use Rattle.std.specs.Bool.{xor}
use Rattle.theory.specs.Limits.{fields_most, readings_most}
use Rattle.theory.specs.Bound.{any}
use Rattle.theory.specs.Relation.{Rel, WellFormed}
use Rattle.refusal.specs.Said.{Said, says}
use Rattle.table.specs.declared.layout.Row.{Row}
use Rattle.table.specs.Layout.{table_length, table_rows, table_row, at, rel, size_of}
use Rattle.table.specs.Checks.{at_first}

-- the size of field f is 0 or over the most
unfoldable pub bad_size : List ℕ → ℕ → Bool
bad_size sizes f = not (leb 1 (size_of sizes f) && leb (size_of sizes f) readings_most)

-- row a of cell (i, j) has a pair outside the fields' sizes
unfoldable pub stray_row : (ℕ → ℕ) → Rel → ℕ → ℕ → ℕ → Bool
stray_row size R i j a = any readings_most (λ b. R i j a b && not (ltb a (size i) && ltb b (size j)))

-- it lets a reading go with another of its own field
unfoldable pub diagonal_row : Rel → ℕ → ℕ → ℕ → Bool
diagonal_row R i j a = eqb i j && any readings_most (λ b. R i j a b && not (eqb a b))

-- it has a pair that its mirror lacks, or lacks one that its mirror has
unfoldable pub mirror_row : Rel → ℕ → ℕ → ℕ → Bool
mirror_row R i j a = any readings_most (λ b. xor (R i j a b) (R j i b a))

-- the same above the diagonal, which is enough where 5 has passed
unfoldable pub mirror_above : Rel → ℕ → ℕ → ℕ → Bool
mirror_above R i j a = ltb i j && mirror_row R i j a

-- the place of a row, as it is given back
abbrev pub row_place : Row → List ℕ
row_place r = r.i ∷ r.j ∷ r.a ∷ []

-- the first row, in table order, that the test finds is said with number k
abbrev pub at_first_row : ℕ → ℕ → (ℕ → ℕ → ℕ → Bool) → Said → Said
at_first_row k n test = at_first (table_rows n) (λ p. at test (table_row n p)) (λ p. says k (row_place (table_row n p)))

-- 1 and 2: the sizes
unfoldable pub after_sizes : List ℕ → Said → Said
after_sizes sizes rest =
    cond (leb 1 (length sizes) && leb (length sizes) fields_most)
    (at_first (length sizes) (bad_size sizes) (λ f. says 2 (f ∷ [])) rest)
    (says 1 [])

-- 3: the length of a table of n fields
unfoldable pub after_length : ℕ → List ℕ → Said → Said
after_length n t rest = cond (eqb (length t) (table_length n)) rest (says 3 [])

-- 4, 5 and 6: the rows
unfoldable pub after_rows : ℕ → (ℕ → ℕ) → Rel → Said → Said
after_rows n size R rest = at_first_row 4 n (stray_row size R) (at_first_row 5 n (diagonal_row R) (at_first_row 6 n (mirror_row R) rest))

-- 1 to 6, then the rest
abbrev pub after_shape : List ℕ → List ℕ → Said → Said
after_shape sizes t rest = after_sizes sizes (after_length (length sizes) t (after_rows (length sizes) (size_of sizes) (rel (length sizes) t) rest))

-- sizes that pass 1 and 2
pub record GoodSizes (sizes : List ℕ) : Type 0 where
  pub some : 1 ≤ length sizes
  pub few : length sizes ≤ fields_most
  pub each : (i : ℕ) → i < length sizes → (1 ≤ size_of sizes i) × (size_of sizes i ≤ readings_most)

-- sizes and a table that pass 1 to 6
pub record GoodTable (sizes t : List ℕ) : Type 0 where
  pub good : GoodSizes sizes
  pub long : length t ≡ table_length (length sizes)
  pub formed : WellFormed (length sizes) (size_of sizes) (rel (length sizes) t)

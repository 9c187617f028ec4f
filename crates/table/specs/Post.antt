-- What inner functions promise, part by part.
use Rattle.std.specs.Prelude.{◌≡◌, Bool, Option, List, ℕ, ◌+◌, ◌≤◌, ◌<◌, length}
use Rattle.theory.specs.Limits.{readings_most}
use Rattle.table.specs.declared.layout.Row.{Row}
use Rattle.table.specs.Layout.{table_length, cell_start, cell_of, table_row, RowIn, some_first}

-- r is where cell (i, j) starts; the cell lies within the table, which is small
pub record Placed (n i j r : ℕ) : Type 0 where
  pub start : r ≡ cell_start n i j
  pub within : r + readings_most ≤ table_length n
  pub small : table_length n ≤ 8192

-- s is the words of cell (i, j), as many as a cell has
pub record CellWords (n : ℕ) (t : List ℕ) (i j : ℕ) (s : List ℕ) : Type 0 where
  pub words : s ≡ cell_of n t i j
  pub long : length s ≡ readings_most

-- r is the row at number p, a row of the table
pub record RowAt (n p : ℕ) (r : Row) : Type 0 where
  pub is : r ≡ table_row n p
  pub within : RowIn n r

-- what is answered of a cell is the first row there that the test finds
abbrev pub FindsIn : ℕ → (ℕ → ℕ → ℕ → Bool) → (ℕ → ℕ → Option ℕ → Type 0) → Type 0
FindsIn n test answers = (i j : ℕ) (r : Option ℕ) → i < n → j < n → answers i j r → r ≡ some_first readings_most (test i j)

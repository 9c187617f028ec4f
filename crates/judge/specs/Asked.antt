-- What is to be answered (01, "Rows", "The cell shown").
use Rattle.std.specs.Prelude.{◌≡◌, Bool, cond, not, List, [], ◌∷◌, ℕ, ◌<◌, ltb, eqb, length}
use Rattle.theory.specs.Bound.{val}
use Rattle.theory.specs.Relation.{Rel}
use Rattle.theory.specs.Reading.{kept_count, empty}
use Rattle.theory.specs.Rows.{stands, whole}
use Rattle.refusal.specs.Said.{Said, says}
use Rattle.table.specs.Layout.{table_length, cell_start, cell_of, rel, search_rows, search_row, at, size_of}
use Rattle.table.specs.Checks.{at_first}
use Rattle.table.specs.Shape.{row_place, after_sizes, after_length, after_shape, GoodSizes}

-- 24: f is no field
unfoldable pub after_field : ℕ → ℕ → Said → Said
after_field n f rest = cond (ltb f n) rest (says 24 [])

-- row a of cell (i, j) is broken
unfoldable pub broken_row : (ℕ → ℕ) → Rel → ℕ → ℕ → ℕ → Bool
broken_row size R i j a = not (whole (stands size R j) (R i j a))

-- the first broken row, in the order of the search, is said with number k
abbrev pub at_first_broken : ℕ → ℕ → (ℕ → ℕ) → Rel → Said → Said
at_first_broken k n size R = at_first (search_rows n) (λ p. at (broken_row size R) (search_row n p)) (λ p. says k (row_place (search_row n p)))

-- 1 to 6, then the first broken row, or that the rows are whole
unfoldable pub rows_says : List ℕ → List ℕ → Said
rows_says sizes t = after_shape sizes t (at_first_broken 0 (length sizes) (size_of sizes) (rel (length sizes) t) (says 0 []))

-- 1 to 6 and 24, then the number of readings that the field keeps
unfoldable pub kept_says : List ℕ → List ℕ → ℕ → Said
kept_says sizes t field = after_shape sizes t (after_field (length sizes) field (says 0 (kept_count (rel (length sizes) t) field ∷ [])))

-- 1 and 2, 3 for either table, 24 for either field
unfoldable pub after_show : List ℕ → List ℕ → List ℕ → ℕ → ℕ → Said → Said
after_show sizes opening settled i j rest =
    after_sizes sizes (after_length (length sizes) opening (after_length (length sizes) settled (after_field (length sizes) i (after_field (length sizes) j rest))))

-- the settled table of n fields holds no bit at all, so that cells are shown from the opening one
abbrev pub from_opening : ℕ → List ℕ → Bool
from_opening n settled = empty n (rel n settled)

-- then the table that the cell is shown from, 0 for the settled one and 1 for the opening one, and where the cell starts in it
unfoldable pub show_says : List ℕ → List ℕ → List ℕ → ℕ → ℕ → Said
show_says sizes opening settled i j = after_show sizes opening settled i j (says 0 (val (from_opening (length sizes) settled) ∷ cell_start (length sizes) i j ∷ []))

-- the words of the cell shown; none on a refusal
unfoldable pub shown_words : List ℕ → List ℕ → List ℕ → ℕ → ℕ → List ℕ
shown_words sizes opening settled i j =
    cond (eqb (show_says sizes opening settled i j).state 0)
    (cell_of (length sizes) (cond (from_opening (length sizes) settled) opening settled) i j)
    []

-- what passes 1, 2, 3 and 24 where a cell is shown
pub record GoodShow (sizes opening settled : List ℕ) (i j : ℕ) : Type 0 where
  pub good : GoodSizes sizes
  pub long : length opening ≡ table_length (length sizes)
  pub also : length settled ≡ table_length (length sizes)
  pub first : i < length sizes
  pub second : j < length sizes

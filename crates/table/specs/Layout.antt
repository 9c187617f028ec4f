-- How a table lies in words, known here alone (01, "The table"): cell (i, j) starts at word (i * n + j) * 32; its word a is row a, and
-- bit b of that says that reading a of field i goes with reading b of field j.
use Rattle.std.specs.Prelude.{◌≡◌, Bool, cond, ◌&&◌, Option, Some, None, option_map, List, [], ◌∷◌, ℕ, zero, suc, ◌+◌, ◌*◌, ◌/◌, ◌%◌, ◌≤◌, ◌<◌, ltb, length, get_or, take, drop}
use Rattle.theory.specs.Limits.{fields_most, readings_most}
use Rattle.theory.specs.Bound.{first}
use Rattle.theory.specs.Relation.{Rel}
use Rattle.words.specs.Word.{bit, pack}
use Rattle.table.specs.declared.layout.Row.{Row}

-- the number of words of a table of n fields
abbrev pub table_length : ℕ → ℕ
table_length n = n * n * readings_most

-- the word at which cell (i, j) starts
abbrev pub cell_start : ℕ → ℕ → ℕ → ℕ
cell_start n i j = (i * n + j) * readings_most

-- t has the length of a table of n fields, which are not too many
pub record Sized (n : ℕ) (t : List ℕ) : Type 0 where
  pub few : n ≤ fields_most
  pub long : length t ≡ table_length n

-- the words of cell (i, j)
unfoldable pub cell_of : ℕ → List ℕ → ℕ → ℕ → List ℕ
cell_of n t i j = take readings_most (drop (cell_start n i j) t)

-- row a of cell (i, j)
unfoldable pub row : ℕ → List ℕ → ℕ → ℕ → ℕ → ℕ
row n t i j a = get_or t (cell_start n i j + a) 0

-- the relation that the words stand for
unfoldable pub rel : ℕ → List ℕ → Rel
rel n t i j a b = ltb a readings_most && (ltb b readings_most && bit (row n t i j a) b)

-- table order: a table of n fields has so many rows ..
abbrev pub table_rows : ℕ → ℕ
table_rows n = n * n * readings_most

-- .. of which this is number p
unfoldable pub table_row : ℕ → ℕ → Row
table_row n p = record { i = p / readings_most / n; j = p / readings_most % n; a = p % readings_most }

-- the number of row a of cell (i, j) in table order
abbrev pub row_number : ℕ → ℕ → ℕ → ℕ → ℕ
row_number n i j a = (i * n + j) * readings_most + a

-- r is a row of a table of n fields
pub record RowIn (n : ℕ) (r : Row) : Type 0 where
  pub first : r.i < n
  pub second : r.j < n
  pub reading : r.a < readings_most

-- the order in which a broken row is searched for: so many rows ..
abbrev pub search_rows : ℕ → ℕ
search_rows n = n * n * readings_most

-- .. of which this is number p
unfoldable pub search_row : ℕ → ℕ → Row
search_row n p = record { i = p / readings_most / n; j = p / readings_most % n; a = p % readings_most }

-- a test of rows at a row
abbrev pub at : (ℕ → ℕ → ℕ → Bool) → Row → Bool
at test r = test r.i r.j r.a

-- the number of the first row that a test finds, in table order; the number of rows where it finds none
abbrev pub first_row : ℕ → (ℕ → ℕ → ℕ → Bool) → ℕ
first_row n test = first (table_rows n) (λ p. at test (table_row n p))

-- the first number below n of which p holds, where there is one
unfoldable pub some_first : ℕ → (ℕ → Bool) → Option ℕ
some_first n p = cond (ltb (first n p) n) (Some (first n p)) None

-- the first row that a test finds, in table order, where there is one
unfoldable pub some_first_row : ℕ → (ℕ → ℕ → ℕ → Bool) → Option Row
some_first_row n test = option_map (table_row n) (some_first (table_rows n) (λ p. at test (table_row n p)))

-- f 0, f 1, .. f (k - 1)
unfoldable pub tabulate : ℕ → (ℕ → ℕ) → List ℕ
tabulate zero f = []
tabulate (suc k) f = f 0 ∷ tabulate k (λ p. f (suc p))

-- row r of R as a word
abbrev pub word_of : Rel → Row → ℕ
word_of R r = pack readings_most (R r.i r.j r.a)

-- the words that stand for R
unfoldable pub words : ℕ → Rel → List ℕ
words n R = tabulate (table_length n) (λ p. word_of R (table_row n p))

-- the size of field i
unfoldable pub size_of : List ℕ → ℕ → ℕ
size_of sizes i = get_or sizes i 0

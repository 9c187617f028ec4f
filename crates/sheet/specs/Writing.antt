-- What the functions that write promise one another.
use Rattle.std.specs.Prelude.{◌≡◌, Bool, false, cond, not, ◌&&◌, ◌||◌, List, map, ◌⊎◌, ℕ, ◌+◌, ◌*◌, ◌≤◌, ◌<◌, T, leb, ltb, eqb, length, get_or, take, drop}
use Rattle.theory.specs.Limits.{readings_most}
use Rattle.words.specs.Word.{bit, pack}
use Rattle.calendar.specs.Ascending.{ascending}
use Rattle.calendar.specs.DateText.{separator}
use Rattle.theory.specs.Relation.{Agree}
use Rattle.table.specs.Layout.{tabulate, table_length, row, rel, words}
use Rattle.scan.specs.Sheet.{Record, fields_of, any_pair, Scanned, scan}
use Rattle.scan.specs.SheetLaws.{scan_on}
use Rattle.sheet.specs.Opening.{admits, everything, opening, days_of}
use Rattle.sheet.specs.Terms.{records_of, fields_in}

-- a cell of everything

-- row a where a field of so many readings meets one of so many, the same field or another
unfoldable pub full_row : (rows columns : ℕ) → Bool → ℕ → ℕ
full_row rows columns same a = pack readings_most (λ b. ltb a rows && (ltb b columns && (not same || eqb a b)))

-- row a of a cell by a mask for its columns: of a field with itself ..
unfoldable pub own_row : (rows mask : ℕ) → ℕ → ℕ
own_row rows mask a = pack readings_most (λ b. ltb a rows && (bit mask b && eqb a b))

-- .. and of two fields
unfoldable pub other_row : (rows mask : ℕ) → ℕ → ℕ
other_row rows mask a = cond (ltb a rows) mask 0

-- cell (k, l) comes before cell (i, j)
abbrev pub Earlier : (k l i j : ℕ) → Type 0
Earlier k l i j = (k < i) ⊎ ((k ≡ i) × (l < j))

-- the cells before cell (i, j) are opened
pub record OpenTo (sizes t : List ℕ) (i j : ℕ) : Type 0 where
  pub long : length t ≡ table_length (length sizes)
  pub upto : j ≤ length sizes
  pub opened : (k l a : ℕ) → k < length sizes → l < length sizes → a < readings_most → Earlier k l i j → row (length sizes) t k l a ≡ pack readings_most (everything sizes k l a)

-- an interval in a cell

-- the days before place k are below the bound, when raised
pub record Below (days : List ℕ) (k bound : ℕ) : Type 0 where
  pub in_order : T (ascending days)
  pub within : k ≤ length days
  pub below : (b : ℕ) → b < k → get_or days b 0 + 32768 < bound

-- k parts the days that are below the bound from those that are not
pub record Parts (days : List ℕ) (bound k : ℕ) : Type 0 where
  pub within : k ≤ length days
  pub below : (b : ℕ) → b < k → get_or days b 0 + 32768 < bound
  pub above : (b : ℕ) → k ≤ b → b < length days → bound ≤ get_or days b 0 + 32768

-- the bits of w from one place up to another
unfoldable pub between : (w from to : ℕ) → ℕ
between w from to = pack readings_most (λ b. bit w b && (leb from b && ltb b to))

-- two fields' days
pub record TwoFields (first second : List ℕ) : Type 0 where
  pub first_few : length first ≤ readings_most
  pub second_few : length second ≤ readings_most
  pub first_rise : T (ascending first)
  pub second_rise : T (ascending second)

-- row a of a cell, less what the interval does not admit
unfoldable pub narrowed_row : (first second : List ℕ) (lo hi a w : ℕ) → ℕ
narrowed_row first second lo hi a w =
    cond (ltb a (length first))
    (pack readings_most (λ b. bit w b && (ltb b (length second) && admits lo hi (get_or first a 0) (get_or second b 0))))
    w

unfoldable pub narrowed : (first second : List ℕ) (lo hi : ℕ) → List ℕ → List ℕ
narrowed first second lo hi cell = tabulate (length cell) (λ a. narrowed_row first second lo hi a (get_or cell a 0))

-- a field's days in the buffer: its 32, so many of them
unfoldable pub days_at : List ℕ → (i size : ℕ) → List ℕ
days_at days i size = take size (drop (i * readings_most) days)

-- u is t with cell (i, j) narrowed, and nothing else
pub record CellNarrowed (n : ℕ) (t : List ℕ) (i j : ℕ) (first second : List ℕ) (lo hi : ℕ) (u : List ℕ) : Type 0 where
  pub long : length u ≡ length t
  pub there : (a : ℕ) → a < readings_most → row n u i j a ≡ narrowed_row first second lo hi a (row n t i j a)
  pub elsewhere : (k l a : ℕ) → k < n → l < n → a < readings_most → ((k ≡ i) × (l ≡ j) → ⊥) → row n u k l a ≡ row n t k l a

-- the write pass

-- the records of a sheet, and the days of each field, by our separators
abbrev pub records : List ℕ → List Record
records sheet = records_of separator sheet

abbrev pub fields : List ℕ → List (List ℕ)
fields sheet = fields_in separator sheet

-- the judge pass let a sheet of n fields pass
pub record Judged (sheet : List ℕ) (n : ℕ) : Type 0 where
  pub whole : scan separator sheet ≡ Scanned.whole (records sheet)
  pub count : length (fields sheet) ≡ n

-- records of the sheet up to an offset, from which the scan goes on
pub record UpTo (sheet : List ℕ) (rs : List Record) (at : ℕ) : Type 0 where
  pub whole : scan separator sheet ≡ Scanned.whole (records sheet)
  pub on : scan_on separator sheet rs at ≡ Scanned.whole (records sheet)

-- the first i fields are written, and the next record starts at an offset
pub record FieldsTo (sheet sizes days : List ℕ) (i at : ℕ) : Type 0 where
  pub before : List Record
  pub up_to : UpTo sheet before at
  pub none : any_pair before ≡ false
  pub count : length (fields_of before) ≡ i
  pub holds_sizes : take i sizes ≡ map length (fields_of before)
  pub holds_days : take (i * readings_most) days ≡ days_of (fields_of before)
  pub all_sizes : length sizes ≡ length (fields sheet)
  pub all_days : length days ≡ length sizes * readings_most

-- all fields are written
pub record FieldsWritten (sheet sizes days : List ℕ) : Type 0 where
  pub of_sizes : sizes ≡ map length (fields sheet)
  pub of_days : days ≡ days_of (fields sheet)

-- all fields are written, and the records up to an offset have struck their pairs
pub record RulesTo (sheet sizes days t : List ℕ) (at : ℕ) : Type 0 where
  pub before : List Record
  pub up_to : UpTo sheet before at
  pub same : fields_of before ≡ fields sheet
  pub written : FieldsWritten sheet sizes days
  pub long : length t ≡ table_length (length sizes)
  pub stands : Agree (length sizes) (rel (length sizes) t) (opening (fields sheet) before)

-- sizes, days and table are the sheet's
pub record Opens (sheet sizes days t : List ℕ) : Type 0 where
  pub written : FieldsWritten sheet sizes days
  pub table : t ≡ words (length sizes) (opening (fields sheet) (records sheet))

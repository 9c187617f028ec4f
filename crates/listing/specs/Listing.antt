-- What the lister says of a sheet (01, "The sheet lister's output").
use Rattle.std.specs.Prelude.{Bool, cond, List, [], ◌∷◌, ◌++◌, map, ℕ, ◌+◌, ◌*◌, ◌≤◌, ◌<◌, leb, length, get_or, take, Result, Ok, Err}
use Rattle.theory.specs.Limits.{fields_most, readings_most}
use Rattle.theory.specs.Relation.{Rel, Settled, rounds}
use Rattle.theory.specs.Settling.{steps}
use Rattle.theory.specs.Reading.{kept, empty}
use Rattle.theory.specs.Choice.{by_number, walk}
use Rattle.refusal.specs.Said.{says, refused}
use Rattle.refusal.specs.declared.Refusal.{Refusal}
use Rattle.table.specs.Layout.{Sized, table_length, rel, size_of}
use Rattle.table.specs.Shape.{GoodTable}
use Rattle.judge.specs.Asked.{at_first_broken}
use Rattle.scan.specs.Sheet.{Record, fields_of, Scanned, whole, faulty, scan}
use Rattle.sheet.specs.Opening.{sheet_most, day_of, opening}
use Rattle.text.specs.Text.{joined, state_line, rounds_line, field_line, rows_line, first_line}

-- the days of the readings that field i keeps
unfoldable pub kept_days : Rel → (ℕ → ℕ → ℕ) → ℕ → List ℕ
kept_days M day i = joined readings_most (λ a. cond (kept M i a) (day i a ∷ []) [])

-- the days of one reading for each field
unfoldable pub days_of : ℕ → (ℕ → ℕ → ℕ) → (ℕ → ℕ) → List ℕ
days_of n day x = joined n (λ i. day i (x i) ∷ [])

-- the place of the first broken row; nothing where the rows are whole
unfoldable pub broken_place : ℕ → (ℕ → ℕ) → Rel → List ℕ
broken_place n size M = (at_first_broken 0 n size M (says 0 [])).values

-- days where no row is broken, and else none
abbrev pub where_whole : List ℕ → List ℕ → List ℕ
where_whole [] days = days
where_whole (v ∷ vs) days = []

-- the days chosen with nothing fixed; none where the table is empty or a row is broken
unfoldable pub chosen_days : ℕ → (ℕ → ℕ) → (ℕ → ℕ → ℕ) → Rel → List ℕ
chosen_days n size day M = cond (empty n M) [] (where_whole (broken_place n size M) (days_of n day (walk n by_number size M (λ f. 255) n)))

-- the lines: the rounds, the days that each field keeps, the place of the first broken row, the days chosen
unfoldable pub lines_of : ℕ → ℕ → (ℕ → List ℕ) → List ℕ → List ℕ → List ℕ
lines_of n r kept broken chosen =
    state_line (says 0 [])
    ++ (rounds_line r
    ++ (joined n (λ i. field_line i (kept i))
    ++ (rows_line broken
    ++ first_line chosen)))

-- the text of an opening table R of n fields: all of it is of the settled table
unfoldable pub opened_text : ℕ → (ℕ → ℕ) → (ℕ → ℕ → ℕ) → Rel → List ℕ
opened_text n size day R =
    let r = steps n R in
    let M = rounds n r R in
    lines_of n r (kept_days M day) (broken_place n size M) (chosen_days n size day M)

-- the text of a sheet's records, from its fields and the table that it opens
unfoldable pub records_text : List Record → List ℕ
records_text rs =
    let fields = fields_of rs in
    opened_text (length fields) (size_of (map length fields)) (day_of fields) (opening fields rs)

-- the text of a sheet that is not too long: of its records, or of the first faulty one
abbrev pub scanned_text : Scanned → List ℕ
scanned_text (whole rs) = records_text rs
scanned_text (faulty said) = state_line said

-- the text of a sheet
unfoldable pub list_text : (ℕ → Bool) → List ℕ → List ℕ
list_text sep sheet = cond (leb (length sheet) sheet_most) (scanned_text (scan sep sheet)) (state_line (says 14 []))

-- the text has at most so many bytes: the state, the rounds, each field with its days, the rows, the days chosen
abbrev pub text_most : ℕ
text_most = 8 + 14 + fields_most * (17 + readings_most * 6) + 21 + (6 + fields_most * 6)

-- what the functions promise one another

-- the day of reading a of field i, where the days of a field stand at 32 times its number
abbrev pub day_in : List ℕ → ℕ → ℕ → ℕ
day_in days i a = get_or days (i * readings_most + a) 0

-- the lines of a settled table that took r rounds
abbrev pub settled_lines : List ℕ → List ℕ → (ℕ → ℕ → ℕ) → ℕ → List ℕ
settled_lines sizes t day r =
    let n = length sizes in
    let M = rel n t in
    lines_of n r (kept_days M day) (broken_place n (size_of sizes) M) (chosen_days n (size_of sizes) day M)

-- a table of n fields and the days of its readings
pub record Dated (n : ℕ) (t days : List ℕ) : Type 0 where
  pub sized : Sized n t
  pub long : n * readings_most ≤ length days

-- an answer with a reading for each field, and the days of the readings
pub record Answered (answer days : List ℕ) : Type 0 where
  pub long : length answer * readings_most ≤ length days
  pub small : (i : ℕ) → i < length answer → get_or answer i 0 < readings_most

-- a settled table of good shape, and the days of its readings
pub record Ended (sizes t days : List ℕ) : Type 0 where
  pub good : GoodTable sizes t
  pub settled : Settled (length sizes) (rel (length sizes) t)
  pub long : length sizes * readings_most ≤ length days

-- the text of n fields, from the parts of lent buffers that they fill
abbrev pub filled_text : (n : ℕ) (sizes days t : List ℕ) → List ℕ
filled_text n sizes days t = opened_text n (size_of (take n sizes)) (day_in days) (rel n (take (table_length n) t))

-- the text of what reading a sheet answered and left in the lent buffers
abbrev pub answer_text : Result ℕ Refusal → (sizes days t : List ℕ) → List ℕ
answer_text (Ok n) sizes days t = filled_text n sizes days t
answer_text (Err r) sizes days t = state_line (refused r)

-- the parts of lent buffers that n fields fill: sizes and a table of good shape, and the days of the readings
pub record Filled (n : ℕ) (sizes days t : List ℕ) : Type 0 where
  pub few : n ≤ fields_most
  pub sizes_fit : n ≤ length sizes
  pub words_fit : table_length n ≤ length t
  pub good : GoodTable (take n sizes) (take (table_length n) t)
  pub long : n * readings_most ≤ length days

-- a refusal fills nothing
abbrev pub Left : Result ℕ Refusal → (sizes days t : List ℕ) → Type 0
Left (Ok n) sizes days t = Filled n sizes days t
Left (Err r) sizes days t = Unit {0}

-- The table that a sheet opens, and what reading a sheet leaves in the lent buffers (01, "Dates and sheets").
use Rattle.std.specs.Prelude.{◌≡◌, Bool, cond, not, ◌&&◌, ◌||◌, List, [], ◌∷◌, ◌++◌, map, ℕ, ◌+◌, ◌*◌, leb, ltb, eqb, length, get_or, drop, Result}
use Rattle.refusal.specs.Said.{Said, says}
use Rattle.refusal.specs.declared.Refusal.{Refusal}
use Rattle.theory.specs.Limits.{fields_most, readings_most}
use Rattle.theory.specs.Relation.{Rel}
use Rattle.theory.specs.Strike.{strike as without, nothing, either}
use Rattle.calendar.specs.DateAnswers.{padded}
use Rattle.table.specs.Layout.{table_length, words, size_of}
use Rattle.table.specs.Strike.{pair_and_mirror}
use Rattle.scan.specs.Answer.{said_opened}
use Rattle.scan.specs.Sheet.{Record, field, gap, strike, fields_of, Scanned, whole, faulty, scan}

-- the table

-- the day of reading a of field i
abbrev pub day_of : List (List ℕ) → ℕ → ℕ → ℕ
day_of fields i a = get_or (get_or fields i []) a 0

-- the days from d to e, which may be negative, are lo to hi (these raised by 32,768)
unfoldable pub admits : (lo hi d e : ℕ) → Bool
admits lo hi d e = leb (d + lo) (e + 32768) && leb (e + 32768) (d + hi)

-- the pairs of cell (i, j) whose days an interval does not admit
unfoldable pub outside : List (List ℕ) → (i j lo hi : ℕ) → Rel
outside fields i j lo hi k l a b = eqb k i && (eqb l j && not (admits lo hi (day_of fields k a) (day_of fields l b)))

-- pairs named from the other side
abbrev pub turned : Rel → Rel
turned P i j a b = P j i b a

-- the pairs that a record strikes, in its cell and in the mirror
unfoldable pub struck_by : List (List ℕ) → Record → Rel
struck_by fields (field days) = nothing
struck_by fields (gap i j lo hi) = either (outside fields i j lo hi) (turned (outside fields i j lo hi))
struck_by fields (strike i j a b) = pair_and_mirror i j a b

-- the pairs that records strike
unfoldable pub struck_by_all : List (List ℕ) → List Record → Rel
struck_by_all fields [] = nothing
struck_by_all fields (r ∷ rs) = either (struck_by fields r) (struck_by_all fields rs)

-- everything: each reading with each of another field, and with itself
unfoldable pub everything : List ℕ → Rel
everything sizes i j a b = ltb a (size_of sizes i) && (ltb b (size_of sizes j) && (not (eqb i j) || eqb a b))

-- the opening table: everything but what the records strike
unfoldable pub opening : List (List ℕ) → List Record → Rel
opening fields rs = without (struck_by_all fields rs) (everything (map length fields))

-- the buffers

abbrev pub sheet_most : ℕ
sheet_most = 4096

-- 32 days a field
abbrev pub days_most : ℕ
days_most = fields_most * readings_most

abbrev pub words_most : ℕ
words_most = table_length fields_most

-- each field's days, zeros to the end of its 32
unfoldable pub days_of : List (List ℕ) → List ℕ
days_of [] = []
days_of (d ∷ fields) = padded readings_most d ++ days_of fields

-- new in the first places, old in the rest
abbrev pub over : List ℕ → List ℕ → List ℕ
over new old = new ++ drop (length new) old

-- what reading says, and what the lent buffers hold after it
pub record Outcome : Type 0 where
  pub said : Said
  pub sizes : List ℕ
  pub days : List ℕ
  pub table : List ℕ

-- a refusal writes nothing
abbrev pub refuses : Said → (sizes days table : List ℕ) → Outcome
refuses s sizes days table = record { said = s; sizes = sizes; days = days; table = table }

-- a sheet's records write sizes, days and the opening table
abbrev pub opens : List Record → (sizes days table : List ℕ) → Outcome
opens rs sizes days table = record {
  said = says 0 (length (fields_of rs) ∷ []);
  sizes = over (map length (fields_of rs)) sizes;
  days = over (days_of (fields_of rs)) days;
  table = over (words (length (fields_of rs)) (opening (fields_of rs) rs)) table;
}

abbrev pub after_scan : Scanned → (sizes days table : List ℕ) → Outcome
after_scan (whole rs) sizes days table = opens rs sizes days table
after_scan (faulty s) sizes days table = refuses s sizes days table

-- the lent buffers are long enough
unfoldable pub lent : (sizes days table : List ℕ) → Bool
lent sizes days table = leb fields_most (length sizes) && (leb days_most (length days) && leb words_most (length table))

-- 13, 14, then what the scan finds
unfoldable pub reading : (ℕ → Bool) → (sheet sizes days table : List ℕ) → Outcome
reading sep sheet sizes days table =
    cond (lent sizes days table)
    (cond (leb (length sheet) sheet_most)
    (after_scan (scan sep sheet) sizes days table)
    (refuses (says 14 []) sizes days table))
    (refuses (says 13 []) sizes days table)

-- reading ends as it should: the answer, and each lent buffer as it is left
pub record Reads (o : Outcome) (r : Result ℕ Refusal) (sizes days table : List ℕ) : Type 0 where
  pub answers : said_opened r ≡ o.said
  pub leaves_sizes : sizes ≡ o.sizes
  pub leaves_days : days ≡ o.days
  pub leaves_table : table ≡ o.table

-- A sheet read record by record (01, "Dates and sheets", "Numbers given back").
-- Which bytes separate the parts of a date text is a parameter, `sep`.
use Rattle.std.specs.Prelude.{Bool, true, false, cond, not, ◌&&◌, ◌||◌, List, [], ◌∷◌, ◌++◌, map, ℕ, zero, suc, ◌+◌, ◌*◌, ◌%◌, leb, ltb, eqb, length, get_or, take, drop}
use Rattle.refusal.specs.Said.{Said, says}
use Rattle.theory.specs.Limits.{fields_most, readings_most}
use Rattle.theory.specs.Bound.{all}
use Rattle.calendar.specs.Calendar.{last_day}
use Rattle.calendar.specs.Ascending.{ascending}
use Rattle.calendar.specs.DateText.{date_length, short_length, means}
use Rattle.calendar.specs.DateAnswers.{date_says}
use Rattle.table.specs.Layout.{tabulate}
use Rattle.scan.specs.declared.mark.Mark.{Mark}
use Rattle.scan.specs.declared.mark.Mark.TheVariants.{Date, Short, Days, Gap, Strike, End, Unknown}

-- numbers

abbrev pub byte_at : List ℕ → ℕ → ℕ
byte_at sheet at = get_or sheet at 0

-- a number of two bytes, high byte first
abbrev pub number_at : List ℕ → ℕ → ℕ
number_at sheet at = byte_at sheet at * 256 + byte_at sheet (at + 1)

-- a signed number of two bytes, raised by 32,768 so that none is below 0
abbrev pub raised : ℕ → ℕ
raised u = (u + 32768) % 65536

-- records

-- what a record says: DT, DS and FD the days of the next field, GP and PR a rule for two fields, lo and hi raised
pub data Record : Type 0 where
  field : (days : List ℕ) → Record
  gap : (i j lo hi : ℕ) → Record
  strike : (i j a b : ℕ) → Record

-- the days of each field
unfoldable pub fields_of : List Record → List (List ℕ)
fields_of [] = []
fields_of (field days ∷ rs) = days ∷ fields_of rs
fields_of (gap i j lo hi ∷ rs) = fields_of rs
fields_of (strike i j a b ∷ rs) = fields_of rs

-- a GP or PR came
unfoldable pub any_pair : List Record → Bool
any_pair [] = false
any_pair (field days ∷ rs) = any_pair rs
any_pair (gap i j lo hi ∷ rs) = true
any_pair (strike i j a b ∷ rs) = true

-- what the records so far have said: the fields' sizes, and whether no field may follow
pub record Told : Type 0 where
  pub sizes : List ℕ
  pub late : Bool

unfoldable pub told : List Record → Told
told rs = record { sizes = map length (fields_of rs); late = any_pair rs }

-- steps

-- what stands at an offset: a record and the offset of the next, the end, or the first check that fails
pub data Step : Type 0 where
  more : Record → ℕ → Step
  done : Step
  stop : Said → Step

-- a check of the record at an offset: where it fails, number k with that offset
abbrev pub check : Bool → ℕ → ℕ → Step → Step
check true k at s = s
check false k at s = stop (says k (at ∷ []))

-- the record's bytes are there up to an offset
abbrev pub there : List ℕ → ℕ → ℕ → Step → Step
there sheet at to s = check (leb to (length sheet)) 15 at s

-- DT, DS and FD add a field
abbrev pub adds : Told → ℕ → Step → Step
adds t at s = check (not t.late) 17 at (check (ltb (length t.sizes) fields_most) 18 at s)

-- DT and DS: a date text of so many bytes, whose refusal gets the record's place
unfoldable pub date_at : (ℕ → Bool) → (size : ℕ) → List ℕ → ℕ → Step
date_at sep size sheet at =
    let text = take size (drop (at + 2) sheet) in
    let state = (date_says sep text).state in
    there sheet at (at + 2 + size)
    (cond (eqb state 0) (more (field (means sep text)) (at + 2 + size)) (stop (says state (at ∷ []))))

-- no day is over the last
unfoldable pub early : List ℕ → Bool
early days = all (length days) (λ k. leb (get_or days k 0) last_day)

-- FD: a count, and as many days
unfoldable pub days_at : List ℕ → ℕ → Step
days_at sheet at =
    let count = byte_at sheet (at + 2) in
    let days = tabulate count (λ k. number_at sheet (at + 3 + 2 * k)) in
    there sheet at (at + 3)
    (check (leb 1 count && leb count readings_most) 21 at
    (there sheet at (at + 3 + 2 * count)
    (check (ascending days && early days) 21 at
    (more (field days) (at + 3 + 2 * count)))))

-- a GP names two fields that differ, and a lo not over its hi
unfoldable pub gap_right : List ℕ → (i j lo hi : ℕ) → Bool
gap_right sizes i j lo hi =
    ltb i (length sizes)
    && (ltb j (length sizes)
    && (not (eqb i j)
    && leb lo hi))

-- GP: fields i and j, lo and hi
unfoldable pub gap_at : List ℕ → List ℕ → ℕ → Step
gap_at sizes sheet at =
    let i = byte_at sheet (at + 2) in
    let j = byte_at sheet (at + 3) in
    let lo = raised (number_at sheet (at + 4)) in
    let hi = raised (number_at sheet (at + 6)) in
    there sheet at (at + 8)
    (check (gap_right sizes i j lo hi) 22 at
    (more (gap i j lo hi) (at + 8)))

-- a PR names two fields and a reading of each, the same one where the fields are the same
unfoldable pub strike_right : List ℕ → (i j a b : ℕ) → Bool
strike_right sizes i j a b =
    ltb i (length sizes)
    && (ltb j (length sizes)
    && (ltb a (get_or sizes i 0)
    && (ltb b (get_or sizes j 0)
    && (not (eqb i j) || eqb a b))))

-- PR: fields i and j, their readings a and b
unfoldable pub strike_at : List ℕ → List ℕ → ℕ → Step
strike_at sizes sheet at =
    let i = byte_at sheet (at + 2) in
    let j = byte_at sheet (at + 3) in
    let a = byte_at sheet (at + 4) in
    let b = byte_at sheet (at + 5) in
    there sheet at (at + 6)
    (check (strike_right sizes i j a b) 22 at
    (more (strike i j a b) (at + 6)))

-- EN: some field, and nothing after it
unfoldable pub end_at : List ℕ → List ℕ → ℕ → Step
end_at sizes sheet at = cond (ltb 0 (length sizes)) (check (eqb (length sheet) (at + 2)) 23 at done) (stop (says 1 []))

-- the two letters of a mark
unfoldable pub mark_of : ℕ → Mark
mark_of m =
    cond (eqb m 0x4454) Date
    (cond (eqb m 0x4453) Short
    (cond (eqb m 0x4644) Days
    (cond (eqb m 0x4750) Gap
    (cond (eqb m 0x5052) Strike
    (cond (eqb m 0x454e) End
    Unknown)))))

abbrev pub by_mark : (ℕ → Bool) → Mark → Told → List ℕ → ℕ → Step
by_mark sep Date t sheet at = adds t at (date_at sep date_length sheet at)
by_mark sep Short t sheet at = adds t at (date_at sep short_length sheet at)
by_mark sep Days t sheet at = adds t at (days_at sheet at)
by_mark sep Gap t sheet at = gap_at t.sizes sheet at
by_mark sep Strike t sheet at = strike_at t.sizes sheet at
by_mark sep End t sheet at = end_at t.sizes sheet at
by_mark sep Unknown t sheet at = stop (says 16 (at ∷ []))

-- what stands at an offset, by what the records before it have said
unfoldable pub step_at : (ℕ → Bool) → Told → List ℕ → ℕ → Step
step_at sep t sheet at = there sheet at (at + 2) (by_mark sep (mark_of (number_at sheet at)) t sheet at)

-- the scan

-- a sheet's records, or the refusal of the first faulty one
pub data Scanned : Type 0 where
  whole : List Record → Scanned
  faulty : Said → Scanned

-- after a record a scan goes on; at the end and at a fault it is over
abbrev pub onward : List Record → (Record → ℕ → Scanned) → Step → Scanned
onward rs go (more r next) = go r next
onward rs go done = whole rs
onward rs go (stop said) = faulty said

-- at most k steps from an offset, after the records before it
unfoldable pub scan_from : (ℕ → Bool) → ℕ → List ℕ → List Record → ℕ → Scanned
scan_from sep zero sheet rs at = faulty (says 15 (at ∷ []))
scan_from sep (suc k) sheet rs at =
    onward rs (λ r next. scan_from sep k sheet (rs ++ r ∷ []) next) (step_at sep (told rs) sheet at)

-- a record has two bytes at the least, so the steps do not run out
unfoldable pub scan : (ℕ → Bool) → List ℕ → Scanned
scan sep sheet = scan_from sep (suc (length sheet)) sheet [] 0

-- after a record a search goes on; at the end and at a fault it has what it has
abbrev pub beyond : List Record → (Record → ℕ → List Record) → Step → List Record
beyond rs go (more r next) = go r next
beyond rs go done = rs
beyond rs go (stop said) = rs

-- the records before an offset that the scan reaches, looked for from `here` on
unfoldable pub before_from : (ℕ → Bool) → ℕ → List ℕ → List Record → ℕ → ℕ → List Record
before_from sep zero sheet rs here at = rs
before_from sep (suc k) sheet rs here at =
    cond (eqb here at) rs
    (beyond rs (λ r next. before_from sep k sheet (rs ++ r ∷ []) next at) (step_at sep (told rs) sheet here))

unfoldable pub before : (ℕ → Bool) → List ℕ → ℕ → List Record
before sep sheet at = before_from sep (suc (length sheet)) sheet [] 0 at

-- what stands at an offset, of the sheet and the offset alone
abbrev pub step_of : (ℕ → Bool) → List ℕ → ℕ → Step
step_of sep sheet at = step_at sep (told (before sep sheet at)) sheet at

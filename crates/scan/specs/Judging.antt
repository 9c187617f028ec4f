-- What the functions that judge one record promise.
use Rattle.std.specs.Prelude.{◌≡◌, Bool, List, [], ℕ, ◌+◌, length, Result, Ok, Err}
use Rattle.refusal.specs.Said.{Said, refused}
use Rattle.refusal.specs.declared.Refusal.{Refusal}
use Rattle.theory.specs.Limits.{readings_most}
use Rattle.calendar.specs.DateText.{date_length, short_length}
use Rattle.calendar.specs.DateAnswers.{padded}
use Rattle.scan.specs.Sheet.{byte_at, number_at, raised, field, gap, strike, Step, more, done, stop, date_at, days_at}
use Rattle.scan.specs.declared.mark.Mark.{Mark}
use Rattle.scan.specs.declared.mark.Mark.TheVariants.{Date, Short, Days, Gap, Strike, Unknown}
use Rattle.scan.specs.declared.field.FieldRead.{FieldRead}
use Rattle.scan.specs.declared.record.Interval.{Interval}
use Rattle.scan.specs.declared.record.Pair.{Pair}
use Rattle.scan.specs.declared.step.Verdict.{Verdict}
use Rattle.scan.specs.declared.step.Verdict.TheVariants.{Field, Rule}

-- g holds the numbers of the GP at an offset
pub record ReadsInterval (sheet : List ℕ) (at : ℕ) (g : Interval) : Type 0 where
  pub i : g.i ≡ byte_at sheet (at + 2)
  pub j : g.j ≡ byte_at sheet (at + 3)
  pub lo : g.lo ≡ raised (number_at sheet (at + 4))
  pub hi : g.hi ≡ raised (number_at sheet (at + 6))

-- p holds the numbers of the PR at an offset
pub record ReadsPair (sheet : List ℕ) (at : ℕ) (p : Pair) : Type 0 where
  pub i : p.i ≡ byte_at sheet (at + 2)
  pub j : p.j ≡ byte_at sheet (at + 3)
  pub a : p.a ≡ byte_at sheet (at + 4)
  pub b : p.b ≡ byte_at sheet (at + 5)

-- what judging keeps of a step: a field's size, and where the next record starts
pub data Gist : Type 0 where
  adds : (size next : ℕ) → Gist
  rules : (next : ℕ) → Gist
  ends : Gist
  stops : Said → Gist

abbrev pub gist : Step → Gist
gist (more (field days) next) = adds (length days) next
gist (more (gap i j lo hi) next) = rules next
gist (more (strike i j a b) next) = rules next
gist done = ends
gist (stop s) = stops s

-- what a verdict says, or the refusal in its place
abbrev pub gist_of : Result Verdict Refusal → Gist
gist_of (Ok (Field size next)) = adds size next
gist_of (Ok (Rule next)) = rules next
gist_of (Ok Verdict.End) = ends
gist_of (Err r) = stops (refused r)

-- the field that a record with this mark adds: DT and DS by their text, else FD's list
abbrev pub field_by : (ℕ → Bool) → Mark → List ℕ → ℕ → Step
field_by sep Date sheet at = date_at sep date_length sheet at
field_by sep Short sheet at = date_at sep short_length sheet at
field_by sep Days sheet at = days_at sheet at
field_by sep Gap sheet at = days_at sheet at
field_by sep Strike sheet at = days_at sheet at
field_by sep Mark.End sheet at = days_at sheet at
field_by sep Unknown sheet at = days_at sheet at

-- the days of a field that is added
abbrev pub days_in : Step → List ℕ
days_in (more (field days) next) = days
days_in (more (gap i j lo hi) next) = []
days_in (more (strike i j a b) next) = []
days_in done = []
days_in (stop s) = []

-- the verdict on a record whose field is read
abbrev pub verdict_on : Result FieldRead Refusal → Result Verdict Refusal
verdict_on (Ok f) = Ok (Field f.size f.next)
verdict_on (Err r) = Err r

-- the days of a field that is read: a refusal has none
abbrev pub days_read : Result FieldRead Refusal → List ℕ
days_read (Ok f) = f.days
days_read (Err r) = padded readings_most []

-- r is what judging a step gives, with the days of a field that it adds
pub record ReadsField (s : Step) (r : Result FieldRead Refusal) : Type 0 where
  pub judges : gist_of (verdict_on r) ≡ gist s
  pub days : days_read r ≡ padded readings_most (days_in s)

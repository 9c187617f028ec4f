-- `calendar::gregorian::day_number` meets its contract: it adds up the definition's three parts, and no part exceeds the last day's number.
use mathlib.Core.Path.{◌≡◌}
use Prim.Native.Nat.{ℕ, ◌+◌, ◌-◌, ◌≤◌}
use native.Mathlib.Omega.{arith}
use Rattle.theory.specs.Bound.{sum}
use Rattle.calendar.specs.Calendar.{first_year, last_day, date, month_length, year_length, OfCentury, day_of}
use Rattle.calendar.specs.CalendarLaws.{real_in}
use Rattle.calendar.specs.Numbering.{day_upto}
use Rattle.calendar.proofs.gregorian.day_number.Goals as goal

pub months_before-requires : goal.months_before-requires
months_before-requires c = let a = real_in _ c.requires.is_real in (a.month_from, a.month_upto)

pub overflow_sub-result : goal.overflow_sub-result
overflow_sub-result c = omega (arith, real_in _ c.requires.is_real)

-- what is added up is the date's number
added : (y m d : ℕ) {a b : ℕ} → a ≡ sum (y - first_year) (λ k. year_length (first_year + k)) → b ≡ sum m (month_length y) → a + b + (d - 1) ≡ day_of (date y m d)
unfolding day_of
added y m d e f = omega (arith, e, f)

small : (y m d : ℕ) {a b : ℕ} → OfCentury (date y m d) → a ≡ sum (y - first_year) (λ k. year_length (first_year + k)) → b ≡ sum m (month_length y) → a + b + (d - 1) ≤ last_day
small y m d h e f = rw (added y m d e f) (day_upto _ h)

pub overflow_add-result : goal.overflow_add-result
overflow_add-result c = let a = c.args in omega (arith, small a.y a.m a.d c.requires c.years_before.ensures c.months_before.ensures)

pub overflow_add-result-2 : goal.overflow_add-result-2
overflow_add-result-2 c = let a = c.args in omega (arith, small a.y a.m a.d c.requires c.years_before.ensures c.months_before.ensures)

pub returns : goal.returns
returns c = let a = c.args in added a.y a.m a.d c.years_before.ensures c.months_before.ensures

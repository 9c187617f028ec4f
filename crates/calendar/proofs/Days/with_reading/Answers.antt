-- `calendar::Days::with_reading` meets its contract: a real date of the century has a number of 16 bits, which goes into its place.
use mathlib.Core.Path.{◌≡◌, sym, subst, ◌∙◌}
use mathlib.Core.Bool.{Bool, true}
use Prim.Native.Nat.{◌≤◌}
use native.Mathlib.Omega.{arith}
use lib.Dec.{T}
use Rattle.calendar.specs.Calendar.{first_year, last_year, Date, real, OfCentury}
use Rattle.calendar.specs.Numbering.{day_upto}
use Rattle.calendar.specs.DateText.{with_real}
use Rattle.calendar.proofs.Days.with_reading.Goals as goal

-- a date that passed the test is one of the century
passed : {t : Date} {b : Bool} → b ≡ real t → b ≡ true → first_year ≤ t.year → t.year ≤ last_year → OfCentury t
passed e h from upto = record { is_real = subst T (sym h ∙ e) tt; from = from; upto = upto }

pub day_number-requires : goal.day_number-requires
day_number-requires c = passed c.is_real.ensures c.if-is_real.true c.requires.1 c.requires.2

pub overflow_cast-day_number : goal.overflow_cast-day_number
overflow_cast-day_number c =
    omega (arith, c.day_number.ensures, day_upto _ (passed c.is_real.ensures c.if-is_real.true c.requires.1 c.requires.2))

pub returns-then-is_real : goal.returns-then-is_real
unfolding with_real
returns-then-is_real c = rw (← c.is_real.ensures, c.if-is_real.true, ← c.day_number.ensures) c.with_day.ensures

pub returns-else-is_real : goal.returns-else-is_real
unfolding with_real
returns-else-is_real c = rw (← c.is_real.ensures, c.if-is_real.false) c.requires.0.holds

-- `calendar::gregorian::month_length` meets its contract: what February gives is what the list of lengths has there, in a leap year or not.
use Rattle.calendar.specs.Calendar.{months, month_length}
use Rattle.calendar.proofs.gregorian.month_length.Goals as goal

pub returns-then-is_leap : goal.returns-then-is_leap
unfolding month_length months
returns-then-is_leap c = rw (c.in-2.is, ← c.is_leap.ensures, c.if-is_leap.true)

pub returns-else-is_leap : goal.returns-else-is_leap
unfolding month_length months
returns-else-is_leap c = rw (c.in-2.is, ← c.is_leap.ensures, c.if-is_leap.false)

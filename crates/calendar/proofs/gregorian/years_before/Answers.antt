-- `calendar::gregorian::years_before` meets its contract: the formula gives the sum over the years of the century.
use mathlib.Core.Path.{sym}
use native.Mathlib.Omega.{arith}
use Rattle.calendar.proofs.Years.{years_sum}
use Rattle.calendar.proofs.gregorian.years_before.Goals as goal

pub returns : goal.returns
returns c = sym (years_sum _ (omega arith))

-- `calendar::gregorian::months_before` meets its contract: after k turns the sum is that of the k months before month k.
use mathlib.Core.Path.{◌≡◌}
use Rattle.theory.specs.Bound.{sum}
use Rattle.calendar.specs.Calendar.{month_length}
use Rattle.calendar.proofs.gregorian.months_before.Given as goal

abbrev pub invariant-loop-k : goal.invariant-loop-k
invariant-loop-k l = l.days ≡ sum l.k (month_length l.y)

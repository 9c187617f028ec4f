-- `calendar::Days::with_day` meets its contract: the loop carries the greater of two days along the list.
use Rattle.calendar.specs.DateText.{dates_most}
use Rattle.calendar.specs.DaysFound.{held}
use Rattle.calendar.proofs.Carry.{Carried}
use Rattle.calendar.proofs.Days.with_day.Given as goal

abbrev pub invariant-loop-p : goal.invariant-loop-p
invariant-loop-p l = Carried dates_most (held l.fn.self) l.n l.days l.carried l.p

-- `print_cuts` leaves what is set as it was.
use Rattle.std.proofs.Common.{◌≡◌}
use Rattle.sheets.proofs.reading.Lent.print_cuts.Given as goal

abbrev pub invariant-loop-k : goal.invariant-loop-k
invariant-loop-k g l = l.self.set ≡ l.initial.self.set

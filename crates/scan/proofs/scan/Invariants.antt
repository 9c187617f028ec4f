-- Each turn judges one record; the state grows by what it says. What is left of the sheet shrinks.
use Prim.Native.Nat.{◌-◌}
use lib.ListN.{length}
use Rattle.calendar.specs.DateText.{separator}
use Rattle.scan.proofs.Scans.{Judging}
use Rattle.scan.proofs.scan.Given as goal

abbrev pub invariant-loop-size : goal.invariant-loop-size
invariant-loop-size l = Judging separator l.sheet l.at l.n l.late l.sizes

abbrev pub decreases-loop-size : goal.decreases-loop-size
decreases-loop-size l = length l.sheet - l.at

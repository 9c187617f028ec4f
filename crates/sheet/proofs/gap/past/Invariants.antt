use Rattle.sheet.specs.Writing.{Below}
use Rattle.sheet.proofs.gap.past.Given as goal

abbrev pub invariant-loop-b : goal.invariant-loop-b
invariant-loop-b l = Below l.days l.b l.bound

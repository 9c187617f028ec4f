use Rattle.sheet.proofs.Narrowing.{Narrows}
use Rattle.sheet.proofs.gap.narrow.Given as goal

abbrev pub invariant-loop-a : goal.invariant-loop-a
invariant-loop-a l = Narrows l.first l.second l.lo l.hi l.initial.cell l.cell l.a l.from l.to

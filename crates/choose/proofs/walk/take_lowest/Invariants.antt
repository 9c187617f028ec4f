-- `take_lowest` meets its contract: the walk finds a reading at every field, and what it ends with is the first.
use Rattle.choose.proofs.Taking.{Walking}
use Rattle.choose.proofs.walk.take_lowest.Given as goal

abbrev pub invariant-loop-f : goal.invariant-loop-f
invariant-loop-f l = Walking l.sizes l.table l.initial.answer l.answer l.f

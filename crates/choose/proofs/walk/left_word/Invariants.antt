-- `left_word` meets its contract: field by field, w has what goes with all that is taken so far.
use Rattle.choose.proofs.Fitting.{Fitted}
use Rattle.choose.proofs.walk.left_word.Given as goal

abbrev pub invariant-loop-g : goal.invariant-loop-g
invariant-loop-g l = Fitted l.n l.table l.taken l.f l.g l.w

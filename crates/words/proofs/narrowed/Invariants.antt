-- `words::narrowed` meets its contract: each turn takes the lowest one of rest out, and what its word reaches out of left.
use Rattle.words.proofs.Reach.{Going}
use Rattle.words.proofs.narrowed.Given as goal

abbrev pub invariant-loop-left : goal.invariant-loop-left
invariant-loop-left l = Going 32 l.w l.row l.cell l.left l.rest

abbrev pub decreases-loop-left : goal.decreases-loop-left
decreases-loop-left l = l.rest

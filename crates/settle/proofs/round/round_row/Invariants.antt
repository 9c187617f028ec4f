-- `round_row` meets its contract: w has the bits that lie in every composition so far.
use Rattle.settle.proofs.Narrowing.{Kept}
use Rattle.settle.proofs.round.round_row.Given as goal

abbrev pub invariant-loop-k : goal.invariant-loop-k
invariant-loop-k l = Kept l.n l.t l.i l.j l.a l.k l.w

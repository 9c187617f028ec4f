-- `strike_bits` meets its contract: the bits of lost that are no longer in rest are struck, and rest loses its lowest bit each turn.
use Rattle.settle.proofs.Striking.{Striking}
use Rattle.settle.proofs.round.strike_bits.Given as goal

abbrev pub invariant-loop-rest : goal.invariant-loop-rest
invariant-loop-rest l = Striking l.n l.i l.j l.a l.lost l.initial.out l.out l.rest

abbrev pub decreases-loop-rest : goal.decreases-loop-rest
decreases-loop-rest l = l.rest

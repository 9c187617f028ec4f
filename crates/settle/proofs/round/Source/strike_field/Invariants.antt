-- `strike_field` meets its contract: the cells (i, k) with i ≤ k < j are done.
use Rattle.settle.specs.Round.{OfCell}
use Rattle.settle.specs.Source.{DoneIn}
use Rattle.settle.proofs.Parts.{Passed}
use Rattle.settle.proofs.round.Source.strike_field.Given as goal

abbrev pub invariant-loop-j : goal.invariant-loop-j
invariant-loop-j l = DoneIn l.self (Passed (OfCell l.i) l.i l.j) l.initial.out l.out l.fields

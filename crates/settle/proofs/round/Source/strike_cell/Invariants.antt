-- `strike_cell` meets its contract: the rows below a are done.
use Rattle.settle.specs.Round.{OfRow}
use Rattle.settle.specs.Source.{DoneIn}
use Rattle.settle.proofs.Parts.{Passed}
use Rattle.settle.proofs.round.Source.strike_cell.Given as goal

abbrev pub invariant-loop-a : goal.invariant-loop-a
invariant-loop-a l = DoneIn l.self (Passed (OfRow l.i l.j) 0 l.a) l.initial.out l.out l.fields

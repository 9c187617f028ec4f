-- `round_into` meets its contract: out starts as a copy, and the cells of the fields below i are done.
use Rattle.table.specs.Layout.{rel}
use Rattle.table.specs.LayoutLaws.{Fit}
use Rattle.settle.specs.Round.{OfField, Done}
use Rattle.settle.proofs.Parts.{Passed}
use Rattle.settle.proofs.round.round_into.Given as goal

abbrev pub invariant-loop-i : goal.invariant-loop-i
invariant-loop-i l = record { done : Done l.n (rel l.n l.t) (Passed OfField 0 l.i) (rel l.n l.t) (rel l.n l.out) l.fields; fit : Fit l.out }

-- `words::exchanged` meets its contract: after q turns the first q pairs of words are done.
use Rattle.words.proofs.Passes.{Pairs}
use Rattle.words.proofs.turn.exchanged.Given as goal

abbrev pub invariant-loop-q : goal.invariant-loop-q
invariant-loop-q l = Pairs l.k l.mask l.cell l.out l.q

use Rattle.words.proofs.Passes.{pairs_more}
use Rattle.words.proofs.turn.exchanged.Goals as goal

pub loop-q-preserved : goal.loop-q-preserved
loop-q-preserved c = pairs_more c.loop-q.invariant c.loop-q-test.true c.low_of.ensures c.high_of.ensures

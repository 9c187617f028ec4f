use Rattle.std.proofs.Common.{arith}
use Rattle.choose.proofs.Fitting.{fitted_start, fitted_more}
use Rattle.choose.proofs.walk.left_word.Goals as goal

pub loop-g-init : goal.loop-g-init
loop-g-init c = fitted_start _ _ _ _ _ c.own_word-w.ensures

pub loop-g-preserved : goal.loop-g-preserved
loop-g-preserved c = fitted_more _ _ _ _ _ _ _ c.loop-g.invariant (omega arith) c.going_with-w.ensures

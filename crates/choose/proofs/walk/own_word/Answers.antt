-- `own_word` meets its contract: every reading is led through the diagonal cell.
use Rattle.choose.proofs.Fitting.{own_is}
use Rattle.choose.proofs.walk.own_word.Goals as goal

pub returns : goal.returns
returns c = own_is _ _ _ _ _ _ c.below-all.ensures c.cell.ensures.words c.narrowed.ensures

use Rattle.sheet.proofs.Words.{between_masks}
use Rattle.sheet.proofs.gap.between.Goals as goal

pub returns : goal.returns
returns c = between_masks _ _ _ _ _ c.ranges.w.fits c.below.ensures c.below-2.ensures

-- `row_mask` meets its contract: the mask where the row is one of the field, else no bit.
use Rattle.table.proofs.Faults.{mask_open, mask_shut}
use Rattle.table.proofs.shaping.row_mask.Goals as goal

pub returns-then-a-size : goal.returns-then-a-size
returns-then-a-size c = mask_open _ _ _ c.ranges.mask.fits c.if-a-size.true

pub returns-else-a-size : goal.returns-else-a-size
returns-else-a-size c = mask_shut _ _ _ c.if-a-size.false

-- `stray_at` meets its contract: the test of the words is the test of the rows they stand for.
use Rattle.table.proofs.Rows.{stray_row_lem}
use Rattle.table.proofs.shaping.stray_at.Goals as goal

pub returns : goal.returns
returns c = stray_row_lem _ _ _ _ c.cell.ensures c.field_size-size.ensures c.field_size.ensures c.below-mask.ensures c.stray_in.ensures

-- `is_stray` meets its contract: the test of the word is the test of the definition.
use Rattle.table.proofs.Faults.{stray_at}
use Rattle.table.proofs.shaping.is_stray.Goals as goal

pub returns : goal.returns
returns c = stray_at _ _ _ _ c.row_mask.ensures c.outside.ensures

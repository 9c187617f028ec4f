use Rattle.sheet.proofs.Cells.{cell_narrowed}
use Rattle.sheet.proofs.gap.narrow_cell.Goals as goal

pub returns : goal.returns
returns c = let z = c.requires in cell_narrowed _ _ _ _ _ _ _ _ z.0 z.1 z.2 c.cell_start-at.ensures c.narrow.ensures

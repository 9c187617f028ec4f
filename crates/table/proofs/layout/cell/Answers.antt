-- `cell` meets its contract: the part of 32 words from the start of the cell.
use Rattle.table.proofs.Places.{cell_is}
use Rattle.table.proofs.layout.cell.Goals as goal

pub returns : goal.returns
returns c = cell_is c.requires.0 c.cell_start-at.ensures

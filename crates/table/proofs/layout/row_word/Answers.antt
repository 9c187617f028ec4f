-- `row_word` meets its contract: the row is the word at the start of the cell and its number.
use Rattle.table.proofs.Places.{row_is}
use Rattle.table.proofs.layout.row_word.Goals as goal

pub returns : goal.returns
returns c = row_is _ _ _ _ _ _ c.cell_start.ensures.start

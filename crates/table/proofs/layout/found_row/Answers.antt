-- `found_row` meets its contract: the row at a row's number is that row.
use Rattle.table.proofs.Rows.{numbered_row}
use Rattle.table.proofs.layout.found_row.Goals as goal

pub returns-then-a-lt-READINGS_MOST : goal.returns-then-a-lt-READINGS_MOST
returns-then-a-lt-READINGS_MOST c = numbered_row c.requires.1 c.if-a-lt-READINGS_MOST.true c.cell_start.ensures.start c.row_at.ensures

use Rattle.sheet.proofs.Cells.{open_all}
use Rattle.sheet.proofs.open.open_table.Goals as goal

pub returns : goal.returns
returns c = open_all c.loop-i.invariant c.loop-i-test.false

-- `mirror_at` meets its contract: above the diagonal the words are tested.
use Rattle.table.proofs.Rows.{mirror_off, mirror_row_lem}
use Rattle.table.proofs.shaping.mirror_at.Goals as goal

pub returns-then-j-i : goal.returns-then-j-i
returns-then-j-i c = mirror_off _ _ _ _ c.if-j-i.true

pub returns : goal.returns
returns c = mirror_row_lem _ _ _ _ c.if-j-i.false c.cell.ensures c.cell-2.ensures c.mirror_in.ensures

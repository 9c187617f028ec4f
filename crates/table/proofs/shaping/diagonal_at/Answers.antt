-- `diagonal_at` meets its contract: a cell of two fields has no diagonal, and in one of a field the words are tested.
use Rattle.table.proofs.Rows.{diagonal_off, diagonal_row_lem}
use Rattle.table.proofs.shaping.diagonal_at.Goals as goal

pub returns-then-i-j : goal.returns-then-i-j
returns-then-i-j c = diagonal_off _ _ _ _ c.if-i-j.true

pub returns : goal.returns
returns c = diagonal_row_lem _ _ _ _ c.if-i-j.false c.cell.ensures c.diagonal_in.ensures

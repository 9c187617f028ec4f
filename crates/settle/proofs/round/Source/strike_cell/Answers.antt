use Rattle.std.proofs.Common.{rules}
use Rattle.settle.specs.Round.{OfRow}
use Rattle.settle.proofs.Parts.{passed_start, passed_more, rows_end}
use Rattle.settle.proofs.round.Source.strike_cell.Goals as goal

pub loop-a-init : goal.loop-a-init
loop-a-init c = passed_start _ _ _

pub loop-a-preserved : goal.loop-a-preserved
loop-a-preserved c = passed_more (OfRow _ _) (search rules) c.loop-a.invariant c.strike_row-fields.ensures

pub returns : goal.returns
returns c = rows_end _ _ _ _ c.loop-a-test.false c.loop-a.invariant

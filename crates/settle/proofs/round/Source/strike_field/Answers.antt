use Rattle.std.proofs.Common.{rules}
use Rattle.settle.specs.Round.{OfCell}
use Rattle.settle.proofs.Parts.{passed_start, passed_more, cells_end}
use Rattle.settle.proofs.round.Source.strike_field.Goals as goal

pub loop-j-init : goal.loop-j-init
loop-j-init c = passed_start _ _ _

pub loop-j-preserved : goal.loop-j-preserved
loop-j-preserved c = passed_more (OfCell _) (search rules) c.loop-j.invariant c.strike_moved-fields.ensures

pub returns : goal.returns
returns c = cells_end _ _ _ c.loop-j-test.false c.loop-j.invariant

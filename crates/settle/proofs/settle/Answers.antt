-- `settle` meets its contract: what the checks find is refused, and of a good table the rounds tell the rest.
use Rattle.std.proofs.Common.{rules}
use Rattle.table.specs.CheckLaws.{passed}
use Rattle.table.specs.ShapeLaws.{check_shape}
use Rattle.settle.proofs.Answering.{shape_refused, length-refused, good-lent, good_run, ran_sized, ran_answer}
use Rattle.settle.proofs.settle.Goals as goal

pub returns-in_err-shape : goal.returns-in_err-shape
returns-in_err-shape c = shape_refused _ _ _ _ _ _ c.from_residual.ensures.1 c.in_err-shape.ensures

pub returns-then-scratch-table : goal.returns-then-scratch-table
returns-then-scratch-table c = length-refused _ _ _ _ (passed (check_shape _ _) c.in_ok-shape.ensures) c.if-scratch-table.true

pub run-requires : goal.run-requires
run-requires c = good_run (good-lent (passed (check_shape _ _) c.in_ok-shape.ensures) c.if-scratch-table.false)

pub map-settled-requires : goal.map-settled-requires
map-settled-requires c =
    let h = ran_sized (good-lent (passed (check_shape _ _) c.in_ok-shape.ensures) c.if-scratch-table.false) c.run.ensures in
    search rules

pub returns : goal.returns
returns c = ran_answer (good-lent (passed (check_shape _ _) c.in_ok-shape.ensures) c.if-scratch-table.false) c.run.ensures (search rules)

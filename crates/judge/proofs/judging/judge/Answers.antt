-- `judge` meets its contract: the search, where the shape is good.
use Rattle.std.proofs.Common.{◌∙◌}
use Rattle.table.specs.ShapeLaws.{check_shape, good-sized}
use Rattle.table.specs.AnswerLaws.{said_on, told-refused, told-good, told_on}
use Rattle.judge.specs.Asked.{rows_says}
use Rattle.judge.proofs.judging.judge.Goals as goal

pub returns-in_err-shape : goal.returns-in_err-shape
unfolding rows_says
returns-in_err-shape c = said_on _ _ _ c.from_residual.ensures.1 (told-refused (check_shape _ _) c.shape.ensures _ c.in_err-shape.was _)

pub first_broken-requires : goal.first_broken-requires
first_broken-requires c = good-sized (told-good (check_shape _ _) c.shape.ensures c.in_ok-shape.was)

pub returns : goal.returns
unfolding rows_says
returns c = c.first_broken.ensures ∙ told_on (check_shape _ _) c.shape.ensures c.in_ok-shape.was _

-- `judged` meets its contract: the checks one after the other, each of which leaves the word to the next where it passes.
use Rattle.std.proofs.Common.{◌∙◌}
use Rattle.table.specs.ShapeLaws.{check_shape, good-sized}
use Rattle.table.specs.AnswerLaws.{said_on, told-refused, told-good, told_on}
use Rattle.choose.specs.ChoosingLaws.{check-table, check_fixed}
use Rattle.choose.proofs.Judging.{lent-wrong, lent-right, readings_of}
use Rattle.choose.proofs.checks.judged.Goals as goal

pub returns-in_err-shape : goal.returns-in_err-shape
returns-in_err-shape c = said_on _ _ _ c.from_residual.ensures.1 (told-refused (check_shape _ _) c.shape.ensures _ c.in_err-shape.was _)

-- past 1 to 6

pub returns-then-fixed-n : goal.returns-then-fixed-n
returns-then-fixed-n c = lent-wrong _ _ _ _ c.then-fixed-n.either ∙ told_on (check_shape _ _) c.shape.ensures c.in_ok-shape.was _

pub check_table-requires : goal.check_table-requires
check_table-requires c = told-good (check_shape _ _) c.shape.ensures c.in_ok-shape.was

-- past 7

pub returns-in_err-check_table : goal.returns-in_err-check_table
returns-in_err-check_table c =
    let g = told-good (check_shape _ _) c.shape.ensures c.in_ok-shape.was in
    said_on _ _ _ c.from_residual-in_err-check_table.ensures.1
    (told-refused (check-table g.formed) c.check_table.ensures _ c.in_err-check_table.was _
    ∙ lent-right _ _ _ _ c.if-fixed-n.false c.if-room-n.false ∙ told_on (check_shape _ _) c.shape.ensures c.in_ok-shape.was _)

-- past 10

pub returns-in_err-check_bytes : goal.returns-in_err-check_bytes
returns-in_err-check_bytes c =
    let g = told-good (check_shape _ _) c.shape.ensures c.in_ok-shape.was in
    said_on _ _ _ c.from_residual-in_err-check_bytes.ensures.1
    (told-refused (check_fixed _ _) c.check_bytes.ensures _ c.in_err-check_bytes.was _
    ∙ told_on (check-table g.formed) c.check_table.ensures c.in_ok-check_table.was _
    ∙ lent-right _ _ _ _ c.if-fixed-n.false c.if-room-n.false ∙ told_on (check_shape _ _) c.shape.ensures c.in_ok-shape.was _)

pub check_pairs-requires : goal.check_pairs-requires
check_pairs-requires c =
    let g = told-good (check_shape _ _) c.shape.ensures c.in_ok-shape.was in
    (good-sized g, c.if-fixed-n.false, readings_of c.args.fixed.now g (told-good (check_fixed _ _) c.check_bytes.ensures c.in_ok-check_bytes.was))

pub returns : goal.returns
returns c =
    let g = told-good (check_shape _ _) c.shape.ensures c.in_ok-shape.was in
    c.check_pairs.ensures ∙ told_on (check_fixed _ _) c.check_bytes.ensures c.in_ok-check_bytes.was _
    ∙ told_on (check-table g.formed) c.check_table.ensures c.in_ok-check_table.was _
    ∙ lent-right _ _ _ _ c.if-fixed-n.false c.if-room-n.false ∙ told_on (check_shape _ _) c.shape.ensures c.in_ok-shape.was _

-- `show` meets its contract: the table that `shown_from` names has the words.
use Rattle.std.proofs.Common.{refl, ap, ◌∙◌, arith}
use Rattle.std.specs.Prelude.{Ok}
use Rattle.judge.proofs.Shows.{told_show, told-opening, told-settled, told_none, shown_near}
use Rattle.judge.proofs.showing.show.Goals as goal

pub cell-requires : goal.cell-requires
cell-requires c =
    let g = told_show _ _ _ _ _ _ c.shown_from.ensures (c.in-Ok-Opening.is ∙ ap Ok c.in-Ok-Opening.field-0-is) refl in
    omega arith

pub cell-requires-in-Ok-Settled : goal.cell-requires-in-Ok-Settled
cell-requires-in-Ok-Settled c =
    let g = told_show _ _ _ _ _ _ c.shown_from.ensures (c.in-Ok-Settled.is ∙ ap Ok c.in-Ok-Settled.field-0-is) refl in
    omega arith

pub returns-in-Ok-Opening : goal.returns-in-Ok-Opening
returns-in-Ok-Opening c =
    told-opening _ _ _ _ _ _ c.shown_from.ensures (c.in-Ok-Opening.is ∙ ap Ok c.in-Ok-Opening.field-0-is) c.cell.ensures
    ∙ shown_near _ _ _ _ c.nearer-near.ensures

pub returns-in-Ok-Settled : goal.returns-in-Ok-Settled
returns-in-Ok-Settled c =
    told-settled _ _ _ _ _ _ c.shown_from.ensures (c.in-Ok-Settled.is ∙ ap Ok c.in-Ok-Settled.field-0-is) c.cell-in-Ok-Settled.ensures
    ∙ shown_near _ _ _ _ c.nearer-near.ensures

pub returns-in-Err : goal.returns-in-Err
returns-in-Err c = told_none _ _ _ _ _ _ c.shown_from.ensures _ c.in-Err.is ∙ shown_near _ _ _ _ c.nearer-near.ensures

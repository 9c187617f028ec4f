-- `shown_from` meets its contract: the checks one after the other, then the settled table searched for a bit.
use Rattle.std.proofs.Common.{sym, ◌∙◌}
use mathlib.Core.Bool.{true, false}
use Rattle.table.specs.ShapeLaws.{check-sizes}
use Rattle.table.specs.AnswerLaws.{said_on, told-refused, told-good}
use Rattle.judge.specs.Asked.{after_show, show_says}
use Rattle.judge.proofs.Shows.{show_opening_length, show_settled_length, show_no_first, show_no_second, show_from}
use Rattle.judge.proofs.showing.shown_from.Goals as goal

pub returns-in_err-sized : goal.returns-in_err-sized
unfolding show_says after_show
returns-in_err-sized c = said_on _ _ _ c.from_residual.ensures.1 (told-refused (check-sizes _) c.sized.ensures _ c.in_err-sized.was _)

pub table_length-requires : goal.table_length-requires
table_length-requires c = (told-good (check-sizes _) c.sized.ensures c.in_ok-sized.was).few

pub returns-then-opening-table_length : goal.returns-then-opening-table_length
returns-then-opening-table_length c =
    show_opening_length _ _ _ _ _ (told-good (check-sizes _) c.sized.ensures c.in_ok-sized.was) (λ h. c.if-opening-table_length.true (h ∙ sym c.table_length.ensures))

pub returns-then-settled-opening : goal.returns-then-settled-opening
returns-then-settled-opening c =
    let long = c.if-opening-table_length.false ∙ c.table_length.ensures in
    show_settled_length _ _ _ _ _ (told-good (check-sizes _) c.sized.ensures c.in_ok-sized.was) long (λ h. c.if-settled-opening.true (h ∙ sym long))

pub returns-then-i-n : goal.returns-then-i-n
returns-then-i-n c =
    let long = c.if-opening-table_length.false ∙ c.table_length.ensures in
    show_no_first _ _ _ _ _ (told-good (check-sizes _) c.sized.ensures c.in_ok-sized.was) long (c.if-settled-opening.false ∙ long) c.if-i-n.true

pub returns-then-j-n : goal.returns-then-j-n
returns-then-j-n c =
    let long = c.if-opening-table_length.false ∙ c.table_length.ensures in
    show_no_second _ _ _ _ _ (told-good (check-sizes _) c.sized.ensures c.in_ok-sized.was) long (c.if-settled-opening.false ∙ long) c.if-i-n.false c.if-j-n.true

pub cell_start-at-requires : goal.cell_start-at-requires
cell_start-at-requires c =
    ((told-good (check-sizes _) c.sized.ensures c.in_ok-sized.was).few, c.if-i-n.false, c.if-j-n.false)

pub returns-then-holds_none : goal.returns-then-holds_none
returns-then-holds_none c =
    let long = c.if-opening-table_length.false ∙ c.table_length.ensures in
    show_from _ _ _ _ _ (told-good (check-sizes _) c.sized.ensures c.in_ok-sized.was) long (c.if-settled-opening.false ∙ long) _ true
    (λ p. (c.type_inv.settled p).fits) c.if-i-n.false c.if-j-n.false c.cell_start-at.ensures.start c.holds_none.ensures c.if-holds_none.true

pub returns : goal.returns
returns c =
    let long = c.if-opening-table_length.false ∙ c.table_length.ensures in
    show_from _ _ _ _ _ (told-good (check-sizes _) c.sized.ensures c.in_ok-sized.was) long (c.if-settled-opening.false ∙ long) _ false
    (λ p. (c.type_inv.settled p).fits) c.if-i-n.false c.if-j-n.false c.cell_start-at.ensures.start c.holds_none.ensures c.if-holds_none.false

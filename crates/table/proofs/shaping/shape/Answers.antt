-- `shape` meets its contract: the checks of the sizes, the length and the rows one after the other.
use mathlib.Core.Path.{sym, ◌∙◌}
use Rattle.table.specs.ShapeLaws.{check-sizes}
use Rattle.table.specs.AnswerLaws.{said_on, told-refused, told-good, told_on}
use Rattle.table.proofs.Says.{length_wrong, length-right}
use Rattle.table.proofs.shaping.shape.Goals as goal

pub returns-in_err-sized : goal.returns-in_err-sized
returns-in_err-sized c = said_on _ _ _ c.from_residual.ensures.1 (told-refused (check-sizes _) c.sized.ensures _ c.in_err-sized.was _)

pub table_length-requires : goal.table_length-requires
table_length-requires c = (told-good (check-sizes _) c.sized.ensures c.in_ok-sized.was).few

pub returns-then-table-table_length : goal.returns-then-table-table_length
returns-then-table-table_length c = length_wrong _ _ _ (λ e. c.if-table-table_length.true (e ∙ sym c.table_length.ensures)) ∙ told_on (check-sizes _) c.sized.ensures c.in_ok-sized.was _

pub formed-requires : goal.formed-requires
formed-requires c = record { few = (told-good (check-sizes _) c.sized.ensures c.in_ok-sized.was).few; long = c.if-table-table_length.false ∙ c.table_length.ensures }

pub returns : goal.returns
returns c = c.formed.ensures ∙ length-right _ _ _ (c.if-table-table_length.false ∙ c.table_length.ensures) ∙ told_on (check-sizes _) c.sized.ensures c.in_ok-sized.was _

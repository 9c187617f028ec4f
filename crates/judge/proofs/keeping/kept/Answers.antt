-- `kept` meets its contract: the ones of the diagonal cell of a good table are the readings kept.
use mathlib.Core.Path.{ap, ◌∙◌}
use mathlib.Core.List.{[], ◌∷◌}
use Prim.Native.Nat.{ℕ}
use native.Mathlib.Omega.{arith}
use Rattle.refusal.specs.Said.{says}
use Rattle.table.specs.ShapeLaws.{check_shape, good-sized}
use Rattle.table.specs.AnswerLaws.{said_on, told-refused, told-good, told_on}
use Rattle.judge.specs.Asked.{kept_says}
use Rattle.judge.specs.AskedLaws.{field_no, field_yes}
use Rattle.judge.proofs.Counts.{ones-kept}
use Rattle.judge.proofs.keeping.kept.Goals as goal

pub returns-in_err-shape : goal.returns-in_err-shape
unfolding kept_says
returns-in_err-shape c = said_on _ _ _ c.from_residual.ensures.1 (told-refused (check_shape _ _) c.shape.ensures _ c.in_err-shape.was _)

pub returns-then-field-sizes : goal.returns-then-field-sizes
unfolding kept_says
returns-then-field-sizes c =
    field_no _ _ (omega (arith, c.if-field-sizes.true)) _ ∙ told_on (check_shape _ _) c.shape.ensures c.in_ok-shape.was _

pub cell-requires : goal.cell-requires
cell-requires c =
    (good-sized (told-good (check_shape _ _) c.shape.ensures c.in_ok-shape.was), c.if-field-sizes.false, c.if-field-sizes.false)

pub returns : goal.returns
unfolding kept_says
returns c =
    let g = told-good (check_shape _ _) c.shape.ensures c.in_ok-shape.was in
    let h = c.if-field-sizes.false in
    ap (λ (k : ℕ). says 0 (k ∷ [])) (ones-kept _ _ _ g h c.cell.ensures c.ones_in.ensures)
    ∙ field_yes _ _ h _ ∙ told_on (check_shape _ _) c.shape.ensures c.in_ok-shape.was _

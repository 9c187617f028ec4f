use Rattle.std.proofs.Common.{arith}
use Rattle.std.proofs.lemmas.Grind.{common_steps}
use Rattle.theory.specs.Limits.{readings_most}
use Rattle.scan.specs.Sheet.{days_at}
use Rattle.table.specs.LayoutLaws.{length-tabulate}
use Rattle.scan.proofs.Days.{take-padded}
use Rattle.scan.proofs.field.days_at.Goals as goal

pub returns-then-not-is_right : goal.returns-then-not-is_right
unfolding days_at
returns-then-not-is_right c =
    let days = take-padded readings_most _ _ _ c.listed-days.ensures in
    grind (arith, common_steps, days)

pub returns : goal.returns
unfolding days_at
returns c =
    let days = take-padded readings_most _ _ _ c.listed-days.ensures in
    grind (arith, common_steps, days, length-tabulate)

use Rattle.sheet.proofs.Cells.{part-days}
use Rattle.sheet.proofs.gap.days_of.Goals as goal

pub returns : goal.returns
returns c = part-days _ _ _

-- `refused::refusal_line` meets its contract: over zeros the line stands alone.
use Rattle.std.proofs.Common.{arith}
use Rattle.text.specs.WritingLaws.{wrote_shows}
use Rattle.text.proofs.refused.refusal_line.Goals as goal

pub returns : goal.returns
returns c = wrote_shows 75 (grind arith)

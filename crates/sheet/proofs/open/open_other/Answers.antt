use mathlib.Core.Path.{◌∙◌}
use native.Mathlib.Omega.{arith}
use Rattle.scan.specs.FillLaws.{filled-all}
use Rattle.sheet.proofs.open.open_other.Goals as goal

pub returns : goal.returns
returns c = filled-all c.loop-a.invariant (omega arith) ∙ rw c.requires

use native.Mathlib.Omega.{arith}
use Rattle.sheet.proofs.Narrowing.{parts_here}
use Rattle.sheet.proofs.gap.past.Goals as goal

pub returns-then-days-b : goal.returns-then-days-b
returns-then-days-b c = parts_here c.loop-b.invariant (omega arith) (omega arith)

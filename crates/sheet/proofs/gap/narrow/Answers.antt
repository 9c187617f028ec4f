use native.Mathlib.Omega.{arith}
use Rattle.sheet.proofs.Narrowing.{narrows_more, narrows_all}
use Rattle.sheet.proofs.gap.narrow.Goals as goal

pub loop-a-preserved : goal.loop-a-preserved
loop-a-preserved c = narrows_more c.loop-a.invariant (omega arith) (omega (arith, c.loop-a.invariant.two)) _ _ _ c.past-from.ensures c.past-to.ensures c.between.ensures

pub returns : goal.returns
returns c = narrows_all c.loop-a.invariant (omega arith)

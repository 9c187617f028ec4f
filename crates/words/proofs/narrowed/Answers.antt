use mathlib.Core.Logic.{inl, inr}
use native.Mathlib.Nat.{pos_of_ne-zero}
use native.Mathlib.Omega.{arith}
use Rattle.words.proofs.Reach.{going_more, going_end}
use Rattle.words.proofs.narrowed.Goals as goal
use Rattle.words.proofs.narrowed.Goals.{then-loop-left-test+else-rest-ne0, else-loop-left-test}

pub loop-left-preserved : goal.loop-left-preserved
loop-left-preserved c =
    let l = c.loop-left in
    let a = c.args in
    going_more 32 a.w a.row a.cell.now l.left l.rest l.invariant (pos_of_ne-zero c.if-rest-ne0.true)
    (omega arith)

pub returns : goal.returns
returns c =
    let l = c.loop-left in
    let a = c.args in
    going_end 32 a.w a.row a.cell.now l.left l.rest c.ranges.w.fits l.invariant
    (elim c.loop-left-test.branch [ then-loop-left-test+else-rest-ne0 w ↦ inr w.if-rest-ne0.false | else-loop-left-test w ↦ inl w.loop-left-test.false ])

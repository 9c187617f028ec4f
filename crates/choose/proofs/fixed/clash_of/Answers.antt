use Rattle.std.proofs.Common.{le_refl, arith}
use Rattle.table.proofs.Search.{hit, miss, found, passed_one, passed-all, some_is, none_is}
use Rattle.choose.proofs.Held.{from_own, clashes}
use Rattle.choose.proofs.fixed.clash_of.Goals as goal

pub loop-j-init : goal.loop-j-init
loop-j-init c = (le_refl _, from_own _ _ _ _ c.requires.1)

pub returns-then-apart : goal.returns-then-apart
returns-then-apart c =
    let l = c.loop-j in
    some_is _ _ (found l.invariant.1 c.loop-j-test.true (hit (clashes _ _ _ _ _ l.invariant.0 c.apart.ensures) c.if-apart.true)) c.loop-j-test.true

pub loop-j-preserved : goal.loop-j-preserved
loop-j-preserved c =
    let l = c.loop-j in
    (omega arith, passed_one l.invariant.1 c.loop-j-test.true (miss (clashes _ _ _ _ _ l.invariant.0 c.apart.ensures) c.if-apart.false))

pub returns : goal.returns
returns c = none_is _ _ (passed-all c.loop-j.invariant.1 c.loop-j-test.false) c.loop-j-test.false

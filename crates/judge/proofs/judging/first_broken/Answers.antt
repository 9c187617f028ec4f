use Rattle.std.proofs.Common.{◌<◌, ap, arith}
use Rattle.std.specs.Prelude.{not}
use Rattle.theory.specs.Limits.{readings_most}
use Rattle.table.proofs.Search.{hit, miss}
use Rattle.judge.proofs.Gaps.{row-broken, none_more, broken-said, whole-said}
use Rattle.judge.proofs.judging.first_broken.Goals as goal

pub loop-a-preserved : goal.loop-a-preserved
loop-a-preserved c =
    let h : c.loop-a.a < readings_most = omega arith in
    none_more _ _ _ _ _ c.loop-a.invariant c.loop-i-test.true c.loop-j-test.true h
    (miss (row-broken _ _ _ _ _ c.cell-cell.ensures c.field_size.ensures c.below-stand.ensures h c.is_whole.ensures) (ap not c.if-not-is_whole.false))

pub returns-then-not-is_whole : goal.returns-then-not-is_whole
returns-then-not-is_whole c =
    let h : c.loop-a.a < readings_most = omega arith in
    broken-said _ _ _ _ _ c.loop-a.invariant c.loop-i-test.true c.loop-j-test.true h
    (hit (row-broken _ _ _ _ _ c.cell-cell.ensures c.field_size.ensures c.below-stand.ensures h c.is_whole.ensures) (ap not c.if-not-is_whole.true))

pub returns-after-loop-i : goal.returns-after-loop-i
returns-after-loop-i c = whole-said _ _ _ c.loop-i.invariant c.loop-i-test.false

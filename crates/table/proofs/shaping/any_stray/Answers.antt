use borrow.Author.Rules.{rules}
use Rattle.table.proofs.Gather.{gathered_none, gathered_more, stray_bits}
use Rattle.table.proofs.shaping.any_stray.Goals as goal

pub loop-a-init : goal.loop-a-init
loop-a-init c = gathered_none _

pub loop-a-preserved : goal.loop-a-preserved
loop-a-preserved c = gathered_more _ c.loop-a.invariant c.loop-a-test.true (stray_bits _ _ _ _ (search rules) c.row_mask.ensures)

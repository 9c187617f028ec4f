use borrow.Author.Rules.{rules}
use native.Mathlib.Omega.{arith}
use Rattle.settle.proofs.Narrowing.{kept-start, kept_more, kept_end, kept_none}
use Rattle.settle.proofs.round.round_row.Goals as goal

pub loop-k-init : goal.loop-k-init
loop-k-init c = kept-start _ _ _ _ _ _ (search rules) (omega arith) c.row_word-w.ensures

pub loop-k-preserved : goal.loop-k-preserved
loop-k-preserved c =
    kept_more _ _ _ _ _ _ _ _ _ _ (search rules) c.loop-k.invariant (search rules)
    c.row_word.ensures c.cell.ensures.words c.narrowed-w.ensures

pub returns-then-w-eq0 : goal.returns-then-w-eq0
returns-then-w-eq0 c = kept_none _ _ _ _ _ _ _ c.loop-k.invariant c.if-w-eq0.true

pub returns-after-loop-k : goal.returns-after-loop-k
returns-after-loop-k c = kept_end _ _ _ _ _ _ _ c.loop-k.invariant (search rules)

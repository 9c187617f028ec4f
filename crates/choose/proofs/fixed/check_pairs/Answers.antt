use Rattle.std.proofs.Common.{sym, ◌∙◌}
use Rattle.choose.proofs.Held.{pair_found, pair_more, pair_none}
use Rattle.choose.proofs.fixed.check_pairs.Goals as goal

pub returns-in-Some : goal.returns-in-Some
returns-in-Some c = pair_found _ _ _ _ _ c.loop-i.invariant c.loop-i-test.true (sym c.in-Some.is ∙ c.clash_of.ensures)

pub loop-i-preserved : goal.loop-i-preserved
loop-i-preserved c = pair_more _ _ _ _ c.loop-i.invariant c.loop-i-test.true (sym c.in_default.is ∙ c.clash_of.ensures)

pub returns : goal.returns
returns c = pair_none _ _ _ _ c.loop-i.invariant c.loop-i-test.false

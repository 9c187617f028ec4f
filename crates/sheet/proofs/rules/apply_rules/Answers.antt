use mathlib.Core.Path.{sym, ◌∙◌}
use native.Mathlib.Omega.{arith}
use Rattle.sheet.proofs.Ruling.{rule_there, interval_there, pair_there, rules_done, table-opened}
use Rattle.sheet.proofs.rules.apply_rules.Goals as goal

pub mark_at-requires : goal.mark_at-requires
mark_at-requires c = rule_there c.loop-table.invariant.0

pub overflow_add-at : goal.overflow_add-at
overflow_add-at c = omega (arith, interval_there c.loop-table.invariant.0 (sym c.mark_at.ensures ∙ c.in-Gap.is))

pub loop-table-smaller-in-Gap : goal.loop-table-smaller-in-Gap
loop-table-smaller-in-Gap c = omega (arith, interval_there c.loop-table.invariant.0 (sym c.mark_at.ensures ∙ c.in-Gap.is))

pub overflow_add-at-in-Strike : goal.overflow_add-at-in-Strike
overflow_add-at-in-Strike c = omega (arith, pair_there c.loop-table.invariant.0 (sym c.mark_at.ensures ∙ c.in-Strike.is))

pub loop-table-smaller : goal.loop-table-smaller
loop-table-smaller c = omega (arith, pair_there c.loop-table.invariant.0 (sym c.mark_at.ensures ∙ c.in-Strike.is))

pub returns-in_default : goal.returns-in_default
returns-in_default c = table-opened c.loop-table.invariant.0 c.loop-table.invariant.1 (rules_done c.loop-table.invariant.0 c.mark_at.ensures c.in_default.not-Gap c.in_default.not-Strike)

use Rattle.std.proofs.Common.{◌≡◌, ◌+◌, ◌*◌, replicate}
use Rattle.std.proofs.Math.Seq.{paste}
use Rattle.theory.specs.Limits.{readings_most}
use Rattle.table.specs.Layout.{tabulate}
use Rattle.scan.specs.Sheet.{number_at}
use Rattle.scan.proofs.field.listed.Given as goal

abbrev pub invariant-loop-k : goal.invariant-loop-k
invariant-loop-k l = l.days ≡ paste (replicate readings_most 0) 0 (tabulate l.count (λ p. number_at l.sheet (l.from + 2 * p))) l.k

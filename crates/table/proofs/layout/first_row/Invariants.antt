-- `first_row` meets its contract: no row of the cells passed fails a test that the closure answers for.
use Rattle.std.proofs.Common.{ℕ, Bool, ◌+◌, ◌*◌}
use Rattle.table.specs.Post.{FindsIn}
use Rattle.table.proofs.Rows.{PassedCells}
use Rattle.table.proofs.layout.first_row.Given as goal

abbrev pub invariant-loop-i : goal.invariant-loop-i
invariant-loop-i g l = (test : ℕ → ℕ → ℕ → Bool) → FindsIn l.n test (goal.F-post g l.in_cell) → PassedCells l.n test (l.i * l.n)

abbrev pub invariant-loop-j : goal.invariant-loop-j
invariant-loop-j g l = (test : ℕ → ℕ → ℕ → Bool) → FindsIn l.n test (goal.F-post g l.in_cell) → PassedCells l.n test (l.i * l.n + l.j)

-- `vectors::line::Args::read` meets its contract: each number took a byte of the line at least.
use Rattle.std.proofs.Common.{◌≡◌, ◌≤◌, ◌<◌, true}
use Rattle.vectors.proofs.line.Args.read.Given as goal

abbrev pub invariant-loop-b : goal.invariant-loop-b
invariant-loop-b l = (l.self.count ≤ l.b-index) × (l.inside ≡ true → l.self.count < l.b-index)

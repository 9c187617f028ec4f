-- `vectors::line::Args::bytes` meets its contract: each number so far has its byte, and there is room for all.
use Rattle.std.proofs.Common.{◌≡◌, ◌%◌, map, take}
use Rattle.vectors.proofs.line.Args.bytes.Given as goal

abbrev pub invariant-loop-k : goal.invariant-loop-k
invariant-loop-k l = l.bytes.items ≡ map (λ v. v % 256) (take l.k l.self.values)

-- `vectors::file::read_full` meets its contract: each read brings a byte at least, and no more than there is room for.
use Rattle.std.proofs.Common.{◌≡◌, ◌-◌, ◌≤◌, length}
use Rattle.vectors.proofs.file.read_full.Given as goal

abbrev pub invariant-loop-n : goal.invariant-loop-n
invariant-loop-n g l = (length l.space ≡ length l.initial.space) × (l.n ≤ length l.space)

abbrev pub decreases-loop-n : goal.decreases-loop-n
decreases-loop-n g l = length l.initial.space - l.n

-- `read_all` meets its contract: each read brings a byte at least, and no more than there is room for.
use Rattle.std.proofs.Common.{◌-◌, ◌≤◌, length}
use Rattle.lister.proofs.read_all.Given as goal

abbrev pub invariant-loop-n : goal.invariant-loop-n
invariant-loop-n g l = l.n ≤ length l.initial.room

abbrev pub decreases-loop-n : goal.decreases-loop-n
decreases-loop-n g l = length l.initial.room - l.n

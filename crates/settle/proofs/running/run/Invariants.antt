-- `run` meets its contract: the table holds the state after r rounds where r is even, and scratch where it is odd; the other one
-- holds the state before, and no round so far was idle.
use Rattle.table.specs.Layout.{rel}
use Rattle.settle.proofs.Turns.{Running}
use Rattle.settle.proofs.running.run.Given as goal

abbrev pub invariant-loop-r : goal.invariant-loop-r
invariant-loop-r l = Running l.n (rel l.n l.initial.table) l.r l.table l.scratch l.moved

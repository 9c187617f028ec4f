-- `clash_of` meets its contract: no field passed clashes with i, and those before i are not asked.
use Prim.Native.Nat.{◌≤◌}
use Rattle.theory.specs.Choice.{clash}
use Rattle.table.specs.Layout.{rel}
use Rattle.table.proofs.Search.{Passed}
use Rattle.choose.specs.Choosing.{choice_of}
use Rattle.choose.proofs.fixed.clash_of.Given as goal

abbrev pub invariant-loop-j : goal.invariant-loop-j
invariant-loop-j l = (l.i ≤ l.j) × Passed l.n (clash (rel l.n l.table) (choice_of l.fixed) l.i) l.j

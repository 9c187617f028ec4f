-- `check_pairs` meets its contract: no field passed clashes with any.
use Rattle.theory.specs.Bound.{any}
use Rattle.theory.specs.Choice.{clash}
use Rattle.table.specs.Layout.{rel}
use Rattle.table.proofs.Search.{Passed}
use Rattle.choose.specs.Choosing.{choice_of}
use Rattle.choose.proofs.fixed.check_pairs.Given as goal

abbrev pub invariant-loop-i : goal.invariant-loop-i
invariant-loop-i l = Passed l.n (λ k. any l.n (clash (rel l.n l.table) (choice_of l.fixed) k)) l.i

-- `check_bytes` meets its contract: no byte passed is bad.
use lib.ListN.{length}
use Rattle.table.proofs.Search.{Passed}
use Rattle.choose.specs.Choosing.{bad_fixed}
use Rattle.choose.proofs.fixed.check_bytes.Given as goal

abbrev pub invariant-loop-f : goal.invariant-loop-f
invariant-loop-f l = Passed (length l.sizes) (bad_fixed l.sizes l.fixed) l.f

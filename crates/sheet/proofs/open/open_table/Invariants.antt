use Rattle.sheet.specs.Writing.{OpenTo}
use Rattle.sheet.proofs.open.open_table.Given as goal

abbrev pub invariant-loop-i : goal.invariant-loop-i
invariant-loop-i l = OpenTo l.sizes l.table l.i 0

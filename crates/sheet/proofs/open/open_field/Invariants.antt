use Rattle.sheet.specs.Writing.{OpenTo}
use Rattle.sheet.proofs.open.open_field.Given as goal

abbrev pub invariant-loop-j : goal.invariant-loop-j
invariant-loop-j l = OpenTo l.sizes l.table l.i l.j

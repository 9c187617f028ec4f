use Rattle.scan.specs.FillLaws.{Filled}
use Rattle.sheet.specs.Writing.{other_row}
use Rattle.sheet.proofs.open.open_other.Given as goal

abbrev pub invariant-loop-a : goal.invariant-loop-a
invariant-loop-a l = Filled (other_row l.rows l.mask) l.initial.cell l.cell l.a

-- `any_stray` meets its contract: the word is 0 exactly where no row passed has a stray bit.
use Rattle.table.specs.Cells.{stray_in}
use Rattle.table.proofs.Gather.{Gathered}
use Rattle.table.proofs.shaping.any_stray.Given as goal

abbrev pub invariant-loop-a : goal.invariant-loop-a
invariant-loop-a l = Gathered (stray_in l.size l.mask l.cell) l.strays l.a

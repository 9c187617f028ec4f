-- `first_broken` meets its contract: at each level of the search no row passed is broken.
use Rattle.std.proofs.Common.{◌+◌, ◌*◌, length}
use Rattle.theory.specs.Limits.{readings_most}
use Rattle.table.specs.Layout.{row_number}
use Rattle.judge.proofs.Gaps.{NoneBroken}
use Rattle.judge.proofs.judging.first_broken.Given as goal

abbrev pub invariant-loop-a : goal.invariant-loop-a
invariant-loop-a l = NoneBroken l.sizes l.table (row_number (length l.sizes) l.i l.j l.a)

abbrev pub invariant-loop-j : goal.invariant-loop-j
invariant-loop-j l = NoneBroken l.sizes l.table ((l.i * length l.sizes + l.j) * readings_most)

abbrev pub invariant-loop-i : goal.invariant-loop-i
invariant-loop-i l = NoneBroken l.sizes l.table (l.i * length l.sizes * readings_most)

-- A cell of a field with itself, or of two; the cells before it stay.
use mathlib.Core.Path.{sym}
use borrow.Author.Tests.{eq-eqb, ne_eqb}
use Rattle.sheet.proofs.Cells.{open_more}
use Rattle.sheet.proofs.Words.{cell_own, cell_other}
use Rattle.sheet.proofs.open.open_field.Goals as goal
use Rattle.sheet.proofs.open.open_field.Goals.{then-i-j, else-i-j}

pub loop-j-preserved : goal.loop-j-preserved
loop-j-preserved c =
    elim c.if-i-j.branch [
      | then-i-j w ↦
          rw w.table-is
          (open_more c.loop-j.invariant c.loop-j-test.true c.cell_start-at.ensures c.byte_at-rows.ensures c.byte_at.ensures (sym (eq-eqb _ _ w.if-i-j.true))
          (cell_own _ _ c.below-mask.ensures w.open_own.ensures))
      | else-i-j w ↦
          rw w.table-is
          (open_more c.loop-j.invariant c.loop-j-test.true c.cell_start-at.ensures c.byte_at-rows.ensures c.byte_at.ensures (sym (ne_eqb _ _ w.if-i-j.false))
          (cell_other _ _ c.below-mask.ensures w.open_other.ensures))
    ]

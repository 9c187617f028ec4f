use mathlib.Core.Path.{ap, ◌∙◌}
use native.Mathlib.Nat.{le_refl, mul-le-mul}
use native.Mathlib.Omega.{arith}
use Rattle.std.specs.Prelude.{Some}
use Rattle.table.proofs.Rows.{cells_same, cells_more, cells_found, cells_all}
use Rattle.table.proofs.layout.first_row.Goals as goal

pub loop-j-init : goal.loop-j-init
loop-j-init g c test finds = cells_same (c.loop-i.invariant test finds) (omega arith)

pub returns-in-Some : goal.returns-in-Some
returns-in-Some g c test finds =
    ap Some c.found_row.ensures
    ∙ cells_found _ _ _ _ (c.loop-j.invariant test finds) c.loop-i-test.true c.loop-j-test.true (finds _ _ _ c.loop-i-test.true c.loop-j-test.true c.in_cell.ensures) c.in-Some.is

pub loop-j-preserved : goal.loop-j-preserved
loop-j-preserved g c test finds =
    cells_more _ _ _ _ (c.loop-j.invariant test finds) c.loop-i-test.true c.loop-j-test.true (finds _ _ _ c.loop-i-test.true c.loop-j-test.true c.in_cell.ensures) c.in_default.is

pub loop-i-preserved : goal.loop-i-preserved
loop-i-preserved g c test finds = cells_same (c.loop-j.invariant test finds) (omega arith)

pub returns : goal.returns
returns g c test finds = cells_all _ _ (c.loop-i.invariant test finds) (mul-le-mul c.loop-i-test.false (le_refl _))

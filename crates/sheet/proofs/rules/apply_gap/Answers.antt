-- The cell of a GP, and then its mirror by the interval from the other side.
use mathlib.Core.Path.{◌∙◌}
use native.Mathlib.Omega.{arith}
use Rattle.sheet.proofs.Ruling.{rules_sized, days-room, interval_there, first_in, second_in_lem, low, high, two, two_turned, gap_applied}
use Rattle.sheet.proofs.rules.apply_gap.Goals as goal

pub at-g-requires : goal.at-g-requires
at-g-requires c = interval_there c.requires.0 c.requires.1

pub byte_at-requires : goal.byte_at-requires
byte_at-requires c = first_in c.requires.0 c.requires.1 c.at-g.ensures

pub days_of-first-requires : goal.days_of-first-requires
days_of-first-requires c = days-room c.requires.0 _ _ (first_in c.requires.0 c.requires.1 c.at-g.ensures) c.byte_at.ensures

pub byte_at-requires-2 : goal.byte_at-requires-2
byte_at-requires-2 c = second_in_lem c.requires.0 c.requires.1 c.at-g.ensures

pub days_of-second-requires : goal.days_of-second-requires
days_of-second-requires c = days-room c.requires.0 _ _ (second_in_lem c.requires.0 c.requires.1 c.at-g.ensures) c.byte_at-2.ensures

pub narrow_cell-requires : goal.narrow_cell-requires
narrow_cell-requires c =
    let l = low c.requires.0 c.requires.1 c.at-g.ensures in
    let h = high c.requires.0 c.requires.1 c.at-g.ensures in (
      rules_sized c.requires.0,
      first_in c.requires.0 c.requires.1 c.at-g.ensures,
      second_in_lem c.requires.0 c.requires.1 c.at-g.ensures,
      two c.requires.0 c.requires.1 c.at-g.ensures c.byte_at.ensures c.days_of-first.ensures c.byte_at-2.ensures c.days_of-second.ensures,
      omega (arith, l, h),
      omega (arith, l, h),
    )

pub turned-requires : goal.turned-requires
turned-requires c = (low c.requires.0 c.requires.1 c.at-g.ensures, high c.requires.0 c.requires.1 c.at-g.ensures)

pub narrow_cell-requires-2 : goal.narrow_cell-requires-2
narrow_cell-requires-2 c =
    let z = rules_sized c.requires.0 in
    rw c.turned.ensures (
      record { few = z.few; long = c.narrow_cell.ensures.long ∙ z.long },
      second_in_lem c.requires.0 c.requires.1 c.at-g.ensures,
      first_in c.requires.0 c.requires.1 c.at-g.ensures,
      two_turned c.requires.0 c.requires.1 c.at-g.ensures c.byte_at.ensures c.days_of-first.ensures c.byte_at-2.ensures c.days_of-second.ensures,
      omega arith,
      omega arith,
    )

pub returns : goal.returns
returns c =
    let mirror = rw c.turned.ensures at c.narrow_cell-2.ensures in
    gap_applied c.requires.0 c.requires.1 c.at-g.ensures
    c.byte_at.ensures c.days_of-first.ensures c.byte_at-2.ensures c.days_of-second.ensures
    c.narrow_cell.ensures mirror

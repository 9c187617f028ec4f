use mathlib.Core.Path.{refl, ap₂}
use Prim.Native.Nat.{ℕ, ◌+◌, ◌≤◌}
use native.Mathlib.Omega.{arith}
use native.Mathlib.Numerals.{add-one}
use Rattle.theory.specs.Bound.{sum}
use Rattle.theory.specs.BoundLaws.{sum_last, sum_most}
use Rattle.calendar.specs.Calendar.{months, month_length}
use Rattle.calendar.specs.CalendarLaws.{month_most}
use Rattle.calendar.proofs.gregorian.months_before.Goals as goal

-- twelve months at most, of 31 days at most
few : (y k : ℕ) → k ≤ 12 → sum k (month_length y) ≤ 372
few y k h = omega (arith, sum_most k 31 (month_length y) (λ i l. month_most y i))

pub loop-k-init : goal.loop-k-init
unfolding sum month_length months
loop-k-init c = refl

pub overflow_add-days : goal.overflow_add-days
overflow_add-days c =
    let y = c.args.y in
    let k = c.loop-k.k in
    omega (arith, few y k (omega arith), month_most y k, c.month_length-days.ensures)

pub loop-k-preserved : goal.loop-k-preserved
loop-k-preserved c = rw (add-one, sum_last) (ap₂ ◌+◌ c.loop-k.invariant c.month_length-days.ensures)

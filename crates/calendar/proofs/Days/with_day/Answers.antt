use mathlib.Core.Path.{◌≡◌, subst, ◌∙◌}
use Prim.Native.Nat.{ℕ, ◌≤◌, ◌<◌}
use native.Mathlib.Numerals.{add-one}
use native.Mathlib.Omega.{arith}
use lib.ListN.{length}
use Rattle.calendar.specs.DateText.{dates_most}
use Rattle.calendar.specs.DaysFound.{held}
use Rattle.calendar.proofs.Carry.{Carried, carry_start, carry_under, carry_over, carry_same, carry_end}
use Rattle.calendar.proofs.Days.with_day.Goals as goal
use Rattle.calendar.proofs.Days.with_day.Goals.{then-carried-here-2, else-carried-here-2}

over : {x y : ℕ} → y ≤ x → (x ≡ y → ⊥) → y < x
over h n = omega arith

pub loop-p-init : goal.loop-p-init
loop-p-init c =
    let r = c.requires in
    carry_start dates_most (held c.args.self) _ _ (omega (arith, r.holds.count)) r.holds.days r.in_order

pub returns-then-carried-here : goal.returns-then-carried-here
returns-then-carried-here c =
    let h = c.requires.holds in
    let done = carry_same c.loop-p.invariant (omega (arith, h.count)) c.if-carried-here.true in
    record { count = h.count ∙ done.0; days = done.1 }

pub loop-p-preserved : goal.loop-p-preserved
loop-p-preserved c =
    let l = c.loop-p in
    let h : l.p < length (held c.args.self) = omega (arith, c.requires.holds.count) in
    rw add-one
    (elim c.if-carried-here-2.branch [
      | then-carried-here-2 w ↦ rw (w.days-is, w.carried-is, w.swap.ensures.x_after, w.swap.ensures.y_after) (carry_under l.invariant h w.if-carried-here-2.true)
      | else-carried-here-2 w ↦ rw (w.days-is, w.carried-is) (carry_over l.invariant h (over w.if-carried-here-2.false c.if-carried-here.false))
    ])

pub returns : goal.returns
returns c =
    let f = c.args.self in
    let h = c.requires.holds in
    let l = c.loop-p in
    let e : l.p ≡ f.count = omega (arith, l.invariant.upto, h.count) in
    let done = carry_end (subst (Carried dates_most (held f) _ l.days l.carried) e l.invariant) (omega (arith, h.count)) in
    record { count = done.0; days = done.1 }

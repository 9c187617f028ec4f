use Rattle.std.proofs.Common.{rules, arith, ◌∙◌}
use mathlib.Core.Logic.{inl, inr}
use Rattle.settle.proofs.Turns.{Rounded, ready_out, ready_back, running_start, running_on, running_still, ran_still, ran_out, ran_over}
use Rattle.settle.proofs.running.run.Goals as goal
use Rattle.settle.proofs.running.run.Goals.{else-loop-r-test, then-loop-r-test+else-moved-eq0+else-r-budget, then-r-eq0, else-r-eq0}

pub loop-r-init : goal.loop-r-init
loop-r-init c = running_start c.requires.0 (λ p. search rules)

pub round_into-moved-requires : goal.round_into-moved-requires
round_into-moved-requires c =
    let (l, w) = c.requires in
    ready_out w.1 l.sized.few c.loop-r.invariant (c.loop-r.auto.table ∙ l.sized.long) (c.loop-r.auto.scratch ∙ l.other) c.if-r-eq0.true

pub round_into-moved-requires-else-r-eq0 : goal.round_into-moved-requires-else-r-eq0
round_into-moved-requires-else-r-eq0 c =
    let (l, w) = c.requires in
    ready_back w.1 l.sized.few c.loop-r.invariant (c.loop-r.auto.table ∙ l.sized.long) (c.loop-r.auto.scratch ∙ l.other) c.if-r-eq0.false

pub returns-then-moved-eq0 : goal.returns-then-moved-eq0
returns-then-moved-eq0 c =
    let (l, w) = c.requires in
    let d : Rounded c.args.n c.loop-r.r c.loop-r.table c.loop-r.scratch c.if-r-eq0.table c.if-r-eq0.scratch c.if-r-eq0.moved = elim c.if-r-eq0.branch [
      | then-r-eq0 w ↦ inl (w.if-r-eq0.true, w.table-is, rw (w.scratch-is, w.moved-is) w.round_into-moved.ensures)
      | else-r-eq0 w ↦ inr (w.if-r-eq0.false, w.scratch-is, rw (w.table-is, w.moved-is) w.round_into-moved-else-r-eq0.ensures)
    ] in
    ran_still _ _ _ (running_still w.1 l.sized.few c.loop-r.invariant d c.if-moved-eq0.true) c.loop-r.invariant.least c.loop-r-test.true

pub loop-r-preserved : goal.loop-r-preserved
loop-r-preserved c =
    let (l, w) = c.requires in
    let d : Rounded c.args.n c.loop-r.r c.loop-r.table c.loop-r.scratch c.if-r-eq0.table c.if-r-eq0.scratch c.if-r-eq0.moved = elim c.if-r-eq0.branch [
      | then-r-eq0 w ↦ inl (w.if-r-eq0.true, w.table-is, rw (w.scratch-is, w.moved-is) w.round_into-moved.ensures)
      | else-r-eq0 w ↦ inr (w.if-r-eq0.false, w.scratch-is, rw (w.table-is, w.moved-is) w.round_into-moved-else-r-eq0.ensures)
    ] in
    running_on w.1 l.sized.few c.loop-r.invariant d c.if-moved-eq0.false

-- after the last round

pub returns-then-budget-eq1 : goal.returns-then-budget-eq1
returns-then-budget-eq1 c = elim c.loop-r-test.branch [
  | else-loop-r-test w ↦ absurd (omega arith)
  | then-loop-r-test+else-moved-eq0+else-r-budget v ↦
      let (l, w) = c.requires in
      let d : Rounded c.args.n c.loop-r.r c.loop-r.table c.loop-r.scratch v.if-r-eq0.table v.if-r-eq0.scratch v.if-r-eq0.moved = elim v.if-r-eq0.branch [
        | then-r-eq0 w ↦ inl (w.if-r-eq0.true, w.table-is, rw (w.scratch-is, w.moved-is) w.round_into-moved.ensures)
        | else-r-eq0 w ↦ inr (w.if-r-eq0.false, w.scratch-is, rw (w.table-is, w.moved-is) w.round_into-moved-else-r-eq0.ensures)
      ] in
      let e = c.swap_with_slice.ensures in
      rw (e.after ∙ v.scratch-is, e.other_after ∙ v.table-is) (ran_over _ _ _ (running_on w.1 l.sized.few c.loop-r.invariant d v.if-moved-eq0.false) (omega arith) c.if-budget-eq1.true)
]

pub returns-else-budget-eq1 : goal.returns-else-budget-eq1
returns-else-budget-eq1 c = elim c.loop-r-test.branch [
  | else-loop-r-test w ↦ absurd (omega arith)
  | then-loop-r-test+else-moved-eq0+else-r-budget v ↦
      let (l, w) = c.requires in
      let d : Rounded c.args.n c.loop-r.r c.loop-r.table c.loop-r.scratch v.if-r-eq0.table v.if-r-eq0.scratch v.if-r-eq0.moved = elim v.if-r-eq0.branch [
        | then-r-eq0 w ↦ inl (w.if-r-eq0.true, w.table-is, rw (w.scratch-is, w.moved-is) w.round_into-moved.ensures)
        | else-r-eq0 w ↦ inr (w.if-r-eq0.false, w.scratch-is, rw (w.table-is, w.moved-is) w.round_into-moved-else-r-eq0.ensures)
      ] in
      rw (v.table-is, v.scratch-is) (ran_out _ _ _ (running_on w.1 l.sized.few c.loop-r.invariant d v.if-moved-eq0.false) (omega arith) c.if-budget-eq1.false)
]

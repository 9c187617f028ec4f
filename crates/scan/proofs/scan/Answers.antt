use mathlib.Core.Path.{◌≡◌, subst}
use native.Mathlib.Omega.{arith}
use Rattle.std.specs.Prelude.{Ok}
use Rattle.refusal.specs.Said.{refused}
use Rattle.calendar.specs.DateText.{separator}
use Rattle.table.specs.AnswerLaws.{said_on}
use Rattle.scan.specs.Judging.{Gist, gist_of}
use Rattle.scan.specs.declared.step.Verdict.{Verdict}
use Rattle.scan.proofs.Scans.{judging_start, field_room, field_forward, field_again, rule_forward, rule_again, scanned-whole, scanned_faulty}
use Rattle.scan.proofs.scan.Goals as goal

-- the verdict is the arm's
judged : {v w : Verdict} {g : Gist} → v ≡ w → gist_of (Ok v) ≡ g → gist_of (Ok w) ≡ g
judged {g = g} e h = subst (λ (x : Verdict). gist_of (Ok x) ≡ g) e h

pub loop-size-init : goal.loop-size-init
loop-size-init c = judging_start separator _

pub bounds-sizes-n : goal.bounds-sizes-n
bounds-sizes-n c = field_room c.loop-size.invariant _ _ (judged c.in-Field.is c.in_ok-size.ensures)

pub loop-size-smaller-in-Field : goal.loop-size-smaller-in-Field
loop-size-smaller-in-Field c = omega (arith, field_forward c.loop-size.invariant _ _ (judged c.in-Field.is c.in_ok-size.ensures))

pub loop-size-preserved-in-Field : goal.loop-size-preserved-in-Field
loop-size-preserved-in-Field c = field_again c.loop-size.invariant _ _ (judged c.in-Field.is c.in_ok-size.ensures)

pub loop-size-smaller : goal.loop-size-smaller
loop-size-smaller c = omega (arith, rule_forward c.loop-size.invariant _ (judged c.in-Rule.is c.in_ok-size.ensures))

pub loop-size-preserved : goal.loop-size-preserved
loop-size-preserved c = rule_again c.loop-size.invariant _ (judged c.in-Rule.is c.in_ok-size.ensures)

pub returns-in-End : goal.returns-in-End
returns-in-End c = scanned-whole c.loop-size.invariant (judged c.in-End.is c.in_ok-size.ensures)

pub returns-in_err-size : goal.returns-in_err-size
returns-in_err-size c = said_on _ _ _ c.from_residual.ensures.1 (scanned_faulty c.loop-size.invariant (refused c.in_err-size.field-0.0) c.in_err-size.ensures)

use Rattle.std.proofs.Common.{rules, ◌≡◌, ◌∙◌, sym, subst, ltb, true}
use Rattle.std.proofs.Math.Dec.{T}
use Rattle.std.proofs.lemmas.Fn.{always_returns_same}
use Rattle.calendar.specs.Ascending.{ascending}
use Rattle.scan.proofs.Days.{ascending_by_steps, early_by_last, early_of_none}
use Rattle.scan.proofs.field.is_right.Goals as goal

pub returns-then-not-is_sorted_by : goal.returns-then-not-is_sorted_by
returns-then-not-is_sorted_by c =
    let d = c.args.days.now in
    let a : c.is_sorted_by.result ≡ ascending d = ascending_by_steps d _ (c.is_sorted_by.ensures.cases ltb (always_returns_same _ _ _ (λ x r f k. search rules))) in
    rw (← a, c.if-not-is_sorted_by.true)

pub returns-then-n-eq0 : goal.returns-then-n-eq0
returns-then-n-eq0 c =
    let d = c.args.days.now in
    let a : c.is_sorted_by.result ≡ ascending d = ascending_by_steps d _ (c.is_sorted_by.ensures.cases ltb (always_returns_same _ _ _ (λ x r f k. search rules))) in
    rw (← a, c.if-not-is_sorted_by.false, c.if-n-eq0.true) (early_of_none d c.if-n-eq0.true)

pub returns-else-n-eq0 : goal.returns-else-n-eq0
returns-else-n-eq0 c =
    let d = c.args.days.now in
    let a : c.is_sorted_by.result ≡ ascending d = ascending_by_steps d _ (c.is_sorted_by.ensures.cases ltb (always_returns_same _ _ _ (λ x r f k. search rules))) in
    let b : ascending d ≡ true = sym a ∙ c.if-not-is_sorted_by.false in
    rw b (early_by_last d (subst T (sym b) tt) (search rules))

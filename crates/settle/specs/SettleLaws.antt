-- The checks 1 to 7 refuse exactly what is not a good table with scratch of its length; what settling says determines its answer.
use Rattle.std.specs.Prelude.{◌≡◌, refl, Bool, true, false, cond, List, [], ◌∷◌, ℕ, ◌≤◌, ◌<◌, eqb, leb, length, Option, Some, None}
use Rattle.std.proofs.Common.{sym, ap, ◌∙◌, arith, eqb→eq, lit≤, ne_eqb, le-leb}
use Rattle.std.proofs.Math.Dec.{eqb_refl}
use Rattle.std.proofs.lemmas.Bool.{lt-leb}
use Rattle.theory.specs.Bound.{val}
use Rattle.theory.specs.Relation.{Rel, round, rounds}
use Rattle.theory.specs.Reading.{empty}
use Rattle.theory.specs.Settling.{steps}
use Rattle.refusal.specs.Said.{Said, says, refused}
use Rattle.refusal.specs.Refusals.{number}
use Rattle.refusal.specs.RefusalLaws.{numbered}
use Rattle.refusal.proofs.Determined.{said_determines}
use Rattle.refusal.specs.declared.Refusal.{Refusal}
use Rattle.table.specs.Layout.{table_length, rel, words}
use Rattle.table.specs.Checks.{Check}
use Rattle.table.specs.CheckLaws.{both, check_of, check_test}
use Rattle.table.specs.Shape.{after_shape}
use Rattle.table.specs.ShapeLaws.{check_shape}
use Rattle.settle.specs.declared.Settled.{Settled}
use Rattle.settle.specs.Settle.{GoodLent, Settling, said_settled, said_settling, after_lent, rounds_say, settle_says, reached, table_after, scratch_after, Settlement}

pub check-lent : (sizes t s : List ℕ) → Check (GoodLent sizes t s) (after_lent sizes t s)
unfolding after_lent
check-lent sizes t s =
    check_of (λ h. record { good = h.0; other = h.1 }) (λ g. (g.good, g.other))
    (both {A = after_shape sizes t} (check_shape sizes t)
    (λ _. check_of (eqb→eq (length s) (table_length (length sizes))) (λ e. rw e (eqb_refl (table_length (length sizes))))
    (check_test (eqb (length s) (table_length (length sizes))) (says 7 []) (lit≤ tt))))

-- what rounds say

pub says-settled : (n : ℕ) (R : Rel) (budget : ℕ) → steps n R ≤ budget → rounds_say n R budget ≡ says 0 (steps n R ∷ val (empty n (rounds n (steps n R) R)) ∷ [])
unfolding rounds_say
says-settled n R budget h = rw (le-leb (steps n R) budget h)

pub says-unfinished : (n : ℕ) (R : Rel) (budget : ℕ) → budget < steps n R → rounds_say n R budget ≡ says 0 []
unfolding rounds_say
says-unfinished n R budget h = rw (lt-leb (steps n R) budget h)

says-result : (n : ℕ) (R : Rel) (budget : ℕ) → (rounds_say n R budget).state ≡ 0
unfolding rounds_say
says-result n R budget = go (leb (steps n R) budget)
  where
    go : (b : Bool) → (cond b (says 0 (steps n R ∷ val (empty n (rounds n (steps n R) R)) ∷ [])) (says 0 [])).state ≡ 0
    go true = refl
    go false = refl

-- what settling says of a good table, and what it leaves

module _ {sizes t s : List ℕ} (g : GoodLent sizes t s) (budget : ℕ) where
  pub good-says : settle_says sizes t s budget ≡ rounds_say (length sizes) (rel (length sizes) t) budget
  unfolding settle_says
  good-says = (check-lent sizes t s).passes g (rounds_say (length sizes) (rel (length sizes) t) budget)

  good-state : eqb (settle_says sizes t s budget).state 0 ≡ true
  good-state = rw (good-says, says-result (length sizes) (rel (length sizes) t) budget)

  pub good-table : table_after sizes t s budget ≡ words (length sizes) (reached (length sizes) (rel (length sizes) t) budget)
  unfolding table_after
  good-table = rw good-state

  pub good-scratch : scratch_after sizes t s budget ≡ words (length sizes) (round (length sizes) (reached (length sizes) (rel (length sizes) t) budget))
  unfolding scratch_after
  good-scratch = rw good-state

-- a refusal leaves both

module _ (sizes t s : List ℕ) (budget : ℕ) (q : Refusal) (e : refused q ≡ settle_says sizes t s budget) where
  refused-state : eqb (settle_says sizes t s budget).state 0 ≡ false
  refused-state = rw (← e) (ne_eqb (number q) 0 (λ z. omega (arith, numbered q)))

  pub refused-table : table_after sizes t s budget ≡ t
  unfolding table_after
  refused-table = rw refused-state

  pub refused-scratch : scratch_after sizes t s budget ≡ s
  unfolding scratch_after
  refused-scratch = rw refused-state

-- what an answer says determines it

pub val_same : (x y : Bool) → val x ≡ val y → x ≡ y
val_same true true e = refl
val_same true false e = absurd (omega arith)
val_same false true e = absurd (omega arith)
val_same false false e = refl

settled-determined : (x y : Option Settled) → said_settled x ≡ said_settled y → x ≡ y
settled-determined (Some x) (Some y) p =
    let v : x.rounds ∷ val x.empty ∷ [] ≡ y.rounds ∷ val y.empty ∷ [] = ap (λ (s : Said). s.values) p in
    let r : x.rounds ≡ y.rounds = cc in
    let f : val x.empty ≡ val y.empty = cc in
    ap Some (λ i. record { rounds = r i; empty = val_same x.empty y.empty f i })
settled-determined (Some x) None p = let v : x.rounds ∷ val x.empty ∷ [] ≡ [] = ap (λ (s : Said). s.values) p in cc
settled-determined None (Some y) p = let v : [] ≡ y.rounds ∷ val y.empty ∷ [] = ap (λ (s : Said). s.values) p in cc
settled-determined None None p = refl

pub settling_determined : (x y : Settling) → said_settling x ≡ said_settling y → x ≡ y
settling_determined = said_determines said_settled result settled-determined
  where
    result : (x : Option Settled) → (said_settled x).state ≡ 0
    result (Some x) = refl
    result None = refl

-- the promise has one answer and one final state
pub settlement_unique : {sizes t s : List ℕ} {budget : ℕ} {x y : Settling} {t₁ s₁ t₂ s₂ : List ℕ}
    → Settlement sizes t s budget x t₁ s₁ → Settlement sizes t s budget y t₂ s₂ → (x ≡ y) × (t₁ ≡ t₂) × (s₁ ≡ s₂)
settlement_unique {x = x} {y = y} p q = (settling_determined x y (p.says ∙ sym q.says), p.table ∙ sym q.table, p.scratch ∙ sym q.scratch)

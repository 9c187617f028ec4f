-- Checks after one another, and what an answer of checks tells.
use Rattle.std.specs.Prelude.{◌≡◌, refl, ◌⊎◌, Bool, true, false, cond, List, [], ℕ, ◌≤◌, ◌<◌, T}
use Rattle.std.proofs.Common.{sym, ap, ◌∙◌, inl, inr, arith, lt-ltb, le-ltb}
use Rattle.theory.specs.Bound.{first}
use Rattle.theory.specs.BoundLaws.{first_none, first-le, lt_or_ge}
use Rattle.refusal.specs.Said.{Said, says, refused}
use Rattle.refusal.specs.RefusalLaws.{numbered}
use Rattle.refusal.specs.Refusals.{number}
use Rattle.refusal.specs.declared.Refusal.{Refusal}
use Rattle.table.specs.Checks.{at_first, Refuses, Check}

-- one check after another
pub both : {P Q : Type 0} {A B : Said → Said} → Check P A → (P → Check Q B) → Check (P × Q) (λ rest. A (B rest))
both {P} {Q} {A} {B} c d = record {
  passes = λ h rest. c.passes h.0 (B rest) ∙ (d h.0).passes h.1 rest;
  decides = elim c.decides [
    | inl p ↦ go p (d p).decides
    | inr r ↦ inr (r.0, r.1, λ rest. r.2 (B rest))
  ];
}
  where
    go : P → Q ⊎ Refuses B → (P × Q) ⊎ Refuses (λ rest. A (B rest))
    go p (inl q) = inl (p, q)
    go p (inr r) = inr (r.0, r.1, λ rest. c.passes p (B rest) ∙ r.2 rest)

-- the same check of a statement that says the same
pub check_of : {P Q : Type 0} {A : Said → Said} → (P → Q) → (Q → P) → Check P A → Check Q A
check_of {P} {Q} {A} f g c = record { passes = λ q. c.passes (g q); decides = go c.decides }
  where
    go : P ⊎ Refuses A → Q ⊎ Refuses A
    go (inl p) = inl (f p)
    go (inr r) = inr r

-- a test that refuses with what k says unless it holds
pub check_test : (b : Bool) (k : Said) → 1 ≤ k.state → Check (T b) (λ rest. cond b rest k)
check_test true k h = record { passes = λ t rest. refl; decides = inl tt }
check_test false k h = record { passes = λ t. absurd t; decides = inr (k, h, λ rest. refl) }

-- the first number of which p holds is refused
pub check-first : (n : ℕ) (p : ℕ → Bool) (say : ℕ → Said) → ((i : ℕ) → 1 ≤ (say i).state) → Check ((i : ℕ) → i < n → T (p i) → ⊥) (at_first n p say)
check-first n p say h = record { passes = λ f. none ((first_none n p).1 f); decides = go (lt_or_ge (first n p) n) }
  where
    none : first n p ≡ n → (rest : Said) → at_first n p say rest ≡ rest
    none e rest = ap (λ (b : Bool). cond b (say (first n p)) rest) (le-ltb (first n p) n (omega arith))

    go : (first n p < n) ⊎ (n ≤ first n p) → ((i : ℕ) → i < n → T (p i) → ⊥) ⊎ Refuses (at_first n p say)
    go (inl l) = inr (say (first n p), h (first n p), λ rest. ap (λ (b : Bool). cond b (say (first n p)) rest) (lt-ltb (first n p) n l))
    go (inr g) = inl ((first_none n p).0 (omega (arith, first-le n p)))

-- what is not refused holds
pub passed : {P : Type 0} {A : Said → Said} → Check P A → says 0 [] ≡ A (says 0 []) → P
passed {P} {A} c e = go c.decides
  where
    go : P ⊎ Refuses A → P
    go (inl p) = p
    go (inr r) = let z : 0 ≡ r.0.state = ap (λ (s : Said). s.state) (e ∙ r.2 (says 0 [])) in absurd (omega (arith, r.1))

-- what is refused is refused whatever comes after
pub refused_on : {P : Type 0} {A : Said → Said} → Check P A → (q : Refusal) → refused q ≡ A (says 0 []) → (rest : Said) → refused q ≡ A rest
refused_on {P} {A} c q e rest = go c.decides
  where
    go : P ⊎ Refuses A → refused q ≡ A rest
    go (inl p) = let z : number q ≡ 0 = ap (λ (s : Said). s.state) (e ∙ c.passes p (says 0 [])) in absurd (omega (arith, numbered q))
    go (inr r) = e ∙ r.2 (says 0 []) ∙ sym (r.2 rest)

-- a result is given where the checks pass, and is the one that comes after them
pub answered : {P : Type 0} {A : Said → Said} → Check P A → {v w : List ℕ} → says 0 v ≡ A (says 0 w) → P × (v ≡ w)
answered {P} {A} c {v} {w} e = go c.decides
  where
    go : P ⊎ Refuses A → P × (v ≡ w)
    go (inl p) = (p, ap (λ (s : Said). s.values) (e ∙ c.passes p (says 0 w)))
    go (inr r) = let z : 0 ≡ r.0.state = ap (λ (s : Said). s.state) (e ∙ r.2 (says 0 w)) in absurd (omega (arith, r.1))

-- A round that changes something removes a pair on or above the diagonal, so settling takes at most as many rounds as there are pairs.
use Rattle.std.specs.Prelude.{◌≡◌, ◌⊎◌, not, ◌||◌, ℕ, zero, suc, ◌+◌, ◌≤◌, ◌<◌, T}
use Rattle.std.proofs.Common.{inl, inr, arith}
use Rattle.theory.specs.Limits.{readings_most}
use Rattle.theory.specs.BoundLaws.{known, not_e, imp_by, imp_use, lt_or_ge, all4_i, all4_e, all4_not, imp_not, first_found, first_least}
use Rattle.theory.specs.Relation.{Rel, WellFormed, Settled, round, rounds}
use Rattle.theory.proofs.RelationLaws.{turned, pair_small, round_within, round_wf, rounds_wf, within_settled, settled_unchanged, unchanged_settled}
use Rattle.theory.specs.Reading.{pairs}
use Rattle.theory.proofs.ReadingLaws.{pairs_lt}
use Rattle.theory.specs.Settling.{stable, steps, Settles, Unfinished}

-- the test of a round that changes nothing

pub stable_i : (n : ℕ) (R : Rel) → Settled n R → T (stable n R)
unfolding stable
stable_i n R s = all4_i n n readings_most readings_most _ (λ i j a b hi hj ha hb. imp_by (R i j a b) (round n R i j a b) (λ t. rw (settled_unchanged n R s i j a b hi hj) t))

pub stable_e : {n : ℕ} {size : ℕ → ℕ} {R : Rel} → WellFormed n size R → T (stable n R) → Settled n R
unfolding stable
stable_e {n} {size} {R} w t = within_settled n R (λ i j a b hi hj s.
    let l = pair_small w i j a b hi hj s in
    imp_use (R i j a b) (round n R i j a b) (all4_e n n readings_most readings_most (λ k m c d. not (R k m c d) || round n R k m c d) t i j a b hi hj l.0 l.1) s)

-- where the test fails, a round takes a pair away
unstable_e : (n : ℕ) (R : Rel) → T (not (stable n R)) → (i : ℕ) × (j : ℕ) × (a : ℕ) × (b : ℕ) × (i < n) × (j < n) × T (R i j a b) × T (not (round n R i j a b))
unfolding stable
unstable_e n R t =
    let (i, j, a, b, hi, hj, u) = all4_not n n readings_most readings_most (λ k m c d. not (R k m c d) || round n R k m c d) t in
    let d = imp_not (R i j a b) (round n R i j a b) u in
    (i, j, a, b, hi, hj, d.0, d.1)

-- one on or above the diagonal
pub round_removes : {n : ℕ} {size : ℕ → ℕ} {R : Rel} → WellFormed n size R → (Settled n R → ⊥) → (i : ℕ) × (j : ℕ) × (a : ℕ) × (b : ℕ) × (i ≤ j) × (j < n) × T (R i j a b) × T (not (round n R i j a b))
round_removes {n} {size} {R} w d = elim (known (stable n R)) [
  | inl t ↦ absurd (d (stable_e w t))
  | inr t ↦
      let (i, j, a, b, hi, hj, s, u) = unstable_e n R t in
      elim (lt_or_ge j i) [
        | inl h ↦ (j, i, b, a, omega arith, hi, turned w i j a b hi hj s, rw ((round_wf w).turn i j a b hi hj) at u)
        | inr h ↦ (i, j, a, b, h, hj, s, u)
      ]
]

pub round_fewer : {n : ℕ} {size : ℕ → ℕ} {R : Rel} → WellFormed n size R → (Settled n R → ⊥) → pairs n (round n R) < pairs n R
round_fewer {n} {size} {R} w d =
    let (i, j, a, b, h, hj, t, u) = round_removes w d in
    let l = pair_small w i j a b (omega arith) hj t in
    pairs_lt n R (round n R) (round_within n R) i j a b h hj l.0 l.1 t u

-- some number of rounds below r has settled R, or each of r rounds has removed a pair
settles_by : {n : ℕ} {size : ℕ → ℕ} {R : Rel} → WellFormed n size R → (r : ℕ) → ((q : ℕ) × (q < r) × Settled n (rounds n q R)) ⊎ (pairs n (rounds n r R) + r ≤ pairs n R)
unfolding rounds
settles_by w zero = inr (omega arith)
settles_by {n} {size} {R} w (suc r) = step (settles_by w r)
  where
    step : ((q : ℕ) × (q < r) × Settled n (rounds n q R)) ⊎ (pairs n (rounds n r R) + r ≤ pairs n R) → ((q : ℕ) × (q < suc r) × Settled n (rounds n q R)) ⊎ (pairs n (round n (rounds n r R)) + suc r ≤ pairs n R)
    step (inl s) = inl (s.0, omega (arith, s.1), s.2)
    step (inr h) = elim (known (stable n (rounds n r R))) [
      | inl t ↦ inl (r, omega arith, stable_e (rounds_wf r w) t)
      | inr t ↦ inr (omega (arith, round_fewer (rounds_wf r w) (λ s. not_e (stable n (rounds n r R)) t (stable_i n (rounds n r R) s))))
    ]

settles : {n : ℕ} {size : ℕ → ℕ} {R : Rel} → WellFormed n size R → (r : ℕ) × (r ≤ pairs n R) × T (stable n (rounds n r R))
settles {n} {size} {R} w = elim (settles_by w (suc (pairs n R))) [
  | inl s ↦ (s.0, omega (arith, s.1), stable_i n (rounds n s.0 R) s.2)
  | inr h ↦ absurd (omega arith)
]

-- steps is the least number of rounds after which R is settled

pub steps-le : {n : ℕ} {size : ℕ → ℕ} {R : Rel} → WellFormed n size R → steps n R ≤ pairs n R
unfolding steps
steps-le {n} {size} {R} w =
    let s = settles w in
    omega (arith, s.1, (first_found (suc (pairs n R)) (λ r. stable n (rounds n r R)) s.0 (omega (arith, s.1)) s.2).0)

pub steps-settled : {n : ℕ} {size : ℕ → ℕ} {R : Rel} → WellFormed n size R → Settled n (rounds n (steps n R) R)
unfolding steps
steps-settled {n} {size} {R} w =
    let s = settles w in
    stable_e (rounds_wf (steps n R) w) (first_found (suc (pairs n R)) (λ r. stable n (rounds n r R)) s.0 (omega (arith, s.1)) s.2).1

pub steps_least : (n : ℕ) (R : Rel) (r : ℕ) → r < steps n R → Settled n (rounds n r R) → ⊥
unfolding steps
steps_least n R r h s = first_least (suc (pairs n R)) (λ q. stable n (rounds n q R)) r h (stable_i n (rounds n r R) s)

-- settled within a budget, or unfinished

pub settles-steps : {n : ℕ} {size : ℕ → ℕ} {R : Rel} → WellFormed n size R → (budget : ℕ) → steps n R ≤ budget → Settles n R budget (steps n R)
settles-steps {n} {size} {R} w budget h = record {
  enough = h;
  ends = settled_unchanged n (rounds n (steps n R) R) (steps-settled w);
  moves = λ q l e. steps_least n R q l (unchanged_settled n (rounds n q R) e);
}

pub unfinished-steps : {n : ℕ} {size : ℕ → ℕ} {R : Rel} → WellFormed n size R → (budget : ℕ) → budget < steps n R → Unfinished n R budget
unfinished-steps {n} {size} {R} w budget h q l e = steps_least n R q (omega arith) (unchanged_settled n (rounds n q R) e)

-- r is one number, whatever the budget
pub settles_unique : {n : ℕ} {R : Rel} {budget budget' r r' : ℕ} → Settles n R budget r → Settles n R budget' r' → r ≡ r'
settles_unique {r = r} {r' = r'} s s' = elim (lt_or_ge r r') [
  | inl h ↦ absurd (s'.moves r h s.ends)
  | inr h ↦ elim (lt_or_ge r' r) [ inl h' ↦ absurd (s.moves r' h' s'.ends) | inr h' ↦ omega arith ]
]

pub settles-not-unfinished : {n : ℕ} {R : Rel} {budget r : ℕ} → Settles n R budget r → Unfinished n R budget → ⊥
settles-not-unfinished {r = r} s u = u r s.enough s.ends

pub settles_larger : {n : ℕ} {R : Rel} {budget budget' r : ℕ} → budget ≤ budget' → Settles n R budget r → Settles n R budget' r
settles_larger h s = record { enough = omega (arith, s.enough); ends = s.ends; moves = s.moves }

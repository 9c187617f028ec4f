-- A run loses exactly what was struck and what no settled relation within the rest has, so its end rests on what was struck only.
use Rattle.std.specs.Prelude.{◌≡◌, not, ◌&&◌, ℕ, ◌<◌, T}
use Rattle.std.proofs.Common.{ap₂, ap}
use Rattle.theory.specs.BoundLaws.{and_i, and_l, and_r, or_l, or_r, or_use, not_i, not_e}
use Rattle.theory.specs.Relation.{Rel, WellFormed, Within, Agree, Settled, Largest, Sound}
use Rattle.theory.proofs.RelationLaws.{sound_trans, sound_largest}
use Rattle.theory.specs.Strike.{strike, nothing, either, Run, start, struck, reduced}

pub strike_i : (P R : Rel) (i j a b : ℕ) → T (R i j a b) → (T (P i j a b) → ⊥) → T (strike P R i j a b)
unfolding strike
strike_i P R i j a b t d = and_i (R i j a b) _ t (not_i (P i j a b) d)

pub strike_in : (P R : Rel) (i j a b : ℕ) → T (strike P R i j a b) → T (R i j a b)
unfolding strike
strike_in P R i j a b t = and_l (R i j a b) _ t

pub strike_out : (P R : Rel) (i j a b : ℕ) → T (strike P R i j a b) → T (P i j a b) → ⊥
unfolding strike
strike_out P R i j a b t = not_e (P i j a b) (and_r (R i j a b) _ t)

pub strike_within : (n : ℕ) (P R : Rel) → Within n (strike P R) R
strike_within n P R i j a b hi hj = strike_in P R i j a b

-- pairs struck together with their mirror images leave the form
pub strike_wf : {n : ℕ} {size : ℕ → ℕ} {R : Rel} (P : Rel) → ((i j a b : ℕ) → i < n → j < n → P i j a b ≡ P j i b a) → WellFormed n size R → WellFormed n size (strike P R)
unfolding strike
strike_wf {n} {size} {R} P turn w = record {
  small = w.small;
  inside = λ i j a b hi hj t. w.inside i j a b hi hj (strike_in P R i j a b t);
  same = λ i a b hi t. w.same i a b hi (strike_in P R i i a b t);
  turn = λ i j a b hi hj. ap₂ ◌&&◌ (w.turn i j a b hi hj) (ap not (turn i j a b hi hj));
}

pub strike_agree : {n : ℕ} {P P' : Rel} → Agree n P P' → (R : Rel) → Agree n (strike P R) (strike P' R)
unfolding strike
strike_agree e R i j a b hi hj = ap (λ c. R i j a b && not c) (e i j a b hi hj)

pub run_sound : {n : ℕ} {R P Q : Rel} → Run n R P Q → Sound n (strike P R) Q
unfolding nothing either
run_sound {n} {R} start = record {
  within = λ i j a b hi hj t. strike_i nothing R i j a b t (λ s. s);
  keeps = λ S s w i j a b hi hj t. strike_in nothing R i j a b (w i j a b hi hj t);
}
run_sound {n} {R} (struck {P} {Q} r S) = let f = run_sound r in record {
  within = λ i j a b hi hj t.
      let u = f.within i j a b hi hj (strike_in S Q i j a b t) in
      strike_i (either P S) R i j a b (strike_in P R i j a b u) (λ s. strike_out S Q i j a b t (or_use (P i j a b) (S i j a b) s (not_i (P i j a b) (strike_out P R i j a b u))));
  keeps = λ N s w i j a b hi hj t. strike_i S Q i j a b
      (f.keeps N s (λ k l c d hk hl u. strike_i P R k l c d (strike_in (either P S) R k l c d (w k l c d hk hl u)) (λ v. strike_out (either P S) R k l c d (w k l c d hk hl u) (or_l (P k l c d) _ v))) i j a b hi hj t)
      (λ v. strike_out (either P S) R i j a b (w i j a b hi hj t) (or_r (P i j a b) _ v));
}
run_sound (reduced r s) = sound_trans (run_sound r) s

pub run_largest : {n : ℕ} {R P Q : Rel} → Run n R P Q → Settled n Q → Largest n (strike P R) Q
run_largest r = sound_largest (run_sound r)

-- A round lies within, keeps the form and loses no settled part; a sound reduction that ends settled is the largest settled relation.
use Rattle.std.specs.Prelude.{◌≡◌, ◌⊎◌, ◌&&◌, ℕ, zero, suc, ◌≤◌, ◌<◌, T}
use Rattle.std.proofs.Common.{subst, inl, inr, eq-or-lt_of_le, arith}
use Rattle.theory.specs.Limits.{readings_most}
use Rattle.theory.specs.Bound.{all, any}
use Rattle.theory.specs.BoundLaws.{and_i, and_l, and_r, or_r, T_ext, all_i, all_e, any_i, any_e}
use Rattle.theory.specs.Relation.{Rel, WellFormed, Within, Agree, composed, Settled, round, rounds, Largest, Sound}

-- well_formed relations

-- the mirror image as an implication
pub turned : {n : ℕ} {size : ℕ → ℕ} {R : Rel} → WellFormed n size R → (i j a b : ℕ) → i < n → j < n → T (R i j a b) → T (R j i b a)
turned w i j a b hi hj t = rw (w.turn i j a b hi hj) at t

-- an allowed pair has readings below 32
pub pair_small : {n : ℕ} {size : ℕ → ℕ} {R : Rel} → WellFormed n size R → (i j a b : ℕ) → i < n → j < n → T (R i j a b) → (a < readings_most) × (b < readings_most)
pair_small w i j a b hi hj t = omega (arith, w.inside i j a b hi hj t, w.small i hi, w.small j hj)

-- what a pair of one field names is a kept reading
pub pair_kept : {n : ℕ} {size : ℕ → ℕ} {R : Rel} → WellFormed n size R → (i a b : ℕ) → i < n → T (R i i a b) → T (R i i b b)
pair_kept {R = R} w i a b hi t = subst (λ (c : ℕ). T (R i i c b)) (w.same i a b hi t) t

-- composition

pub composed_i : (R : Rel) (i k j a b c : ℕ) → c < readings_most → T (R i k a c) → T (R k j c b) → T (composed R i k j a b)
unfolding composed
composed_i R i k j a b c h s t =
    let found : T (any readings_most (λ d. R i k a d && R k j d b)) = any_i readings_most (λ d. R i k a d && R k j d b) c h (and_i (R i k a c) (R k j c b) s t) in
    search (found, or_r)

pub composed_e : (R : Rel) (i k j a b : ℕ) → T (composed R i k j a b) → (c : ℕ) × (c < readings_most) × T (R i k a c) × T (R k j c b)
unfolding composed
composed_e R i k j a b t =
    let w = any_e readings_most (λ c. R i k a c && R k j c b) t in
    (w.0, w.1, and_l (R i k a w.0) (R k j w.0 b) w.2, and_r (R i k a w.0) (R k j w.0 b) w.2)

pub composed_within : (n : ℕ) (R S : Rel) → Within n R S → (i k j a b : ℕ) → i < n → k < n → j < n → T (composed R i k j a b) → T (composed S i k j a b)
composed_within n R S w i k j a b hi hk hj t =
    let c = composed_e R i k j a b t in
    composed_i S i k j a b c.0 c.1 (w i k a c.0 hi hk c.2) (w k j c.0 b hk hj c.3)

-- a round

pub round_i : (n : ℕ) (R : Rel) (i j a b : ℕ) → T (R i j a b) → ((k : ℕ) → k < n → T (composed R i k j a b)) → T (round n R i j a b)
unfolding round
round_i n R i j a b t f =
    let each : T (all n (λ k. composed R i k j a b)) = all_i n (λ k. composed R i k j a b) f in
    and_i (R i j a b) _ t (search (each, or_r))

pub round_in : (n : ℕ) (R : Rel) (i j a b : ℕ) → T (round n R i j a b) → T (R i j a b)
unfolding round
round_in n R i j a b t = and_l (R i j a b) _ t

pub round-composed : (n : ℕ) (R : Rel) (i j a b : ℕ) → T (round n R i j a b) → (k : ℕ) → k < n → T (composed R i k j a b)
unfolding round
round-composed n R i j a b t = all_e n (λ k. composed R i k j a b) (and_r (R i j a b) _ t)

pub round_within : (n : ℕ) (R : Rel) → Within n (round n R) R
round_within n R i j a b hi hj = round_in n R i j a b

pub round_mono : (n : ℕ) (R S : Rel) → Within n R S → Within n (round n R) (round n S)
round_mono n R S w i j a b hi hj t = round_i n S i j a b (w i j a b hi hj (round_in n R i j a b t)) (λ k hk. composed_within n R S w i k j a b hi hk hj (round-composed n R i j a b t k hk))

pub round_wf : {n : ℕ} {size : ℕ → ℕ} {R : Rel} → WellFormed n size R → WellFormed n size (round n R)
round_wf {n} {size} {R} w = record {
  small = w.small;
  inside = λ i j a b hi hj t. w.inside i j a b hi hj (round_in n R i j a b t);
  same = λ i a b hi t. w.same i a b hi (round_in n R i i a b t);
  turn = λ i j a b hi hj. T_ext (round n R i j a b) (round n R j i b a) (back i j a b hi hj) (back j i b a hj hi);
}
  where
    back : (i j a b : ℕ) → i < n → j < n → T (round n R i j a b) → T (round n R j i b a)
    back i j a b hi hj t = round_i n R j i b a (turned w i j a b hi hj (round_in n R i j a b t)) (λ k hk.
        let c = composed_e R i k j a b (round-composed n R i j a b t k hk) in
        composed_i R j k i b a c.0 c.1 (turned w k j c.0 b hk hj c.3) (turned w i k a c.0 hi hk c.2))

-- a round changes nothing exactly when the relation is settled

pub settled_unchanged : (n : ℕ) (R : Rel) → Settled n R → Agree n (round n R) R
settled_unchanged n R s i j a b hi hj = T_ext (round n R i j a b) (R i j a b) (round_in n R i j a b) (λ t. round_i n R i j a b t (λ k hk. s i k j a b hi hk hj t))

pub within_settled : (n : ℕ) (R : Rel) → Within n R (round n R) → Settled n R
within_settled n R w i k j a b hi hk hj t = round-composed n R i j a b (w i j a b hi hj t) k hk

pub unchanged_settled : (n : ℕ) (R : Rel) → Agree n (round n R) R → Settled n R
unchanged_settled n R e = within_settled n R (λ i j a b hi hj t. rw (e i j a b hi hj) t)

-- sound reductions

pub sound_refl : (n : ℕ) (R : Rel) → Sound n R R
sound_refl n R = record { within = λ i j a b hi hj t. t; keeps = λ S s w. w }

pub sound_trans : {n : ℕ} {R Q P : Rel} → Sound n R Q → Sound n Q P → Sound n R P
sound_trans f g = record {
  within = λ i j a b hi hj t. f.within i j a b hi hj (g.within i j a b hi hj t);
  keeps = λ S s w. g.keeps S s (f.keeps S s w);
}

pub sound_chain : (n r : ℕ) (Q : ℕ → Rel) → ((s : ℕ) → s < r → Sound n (Q s) (Q (suc s))) → Sound n (Q 0) (Q r)
sound_chain n zero Q f = sound_refl n (Q 0)
sound_chain n (suc r) Q f = sound_trans (sound_chain n r Q (λ s h. f s (omega arith))) (f r (omega arith))

pub round_sound : (n : ℕ) (R : Rel) → Sound n R (round n R)
round_sound n R = record {
  within = round_within n R;
  keeps = λ S s w i j a b hi hj t. round_i n R i j a b (w i j a b hi hj t) (λ k hk. composed_within n S R w i k j a b hi hk hj (s i k j a b hi hk hj t));
}

pub sound_largest : {n : ℕ} {R Q : Rel} → Sound n R Q → Settled n Q → Largest n R Q
sound_largest f s = record { settled = s; within = f.within; above = f.keeps }

-- rounds

pub rounds_sound : (n r : ℕ) (R : Rel) → Sound n R (rounds n r R)
unfolding rounds
rounds_sound n zero R = sound_refl n R
rounds_sound n (suc r) R = sound_trans (rounds_sound n r R) (round_sound n (rounds n r R))

pub rounds_wf : {n : ℕ} (r : ℕ) {size : ℕ → ℕ} {R : Rel} → WellFormed n size R → WellFormed n size (rounds n r R)
unfolding rounds
rounds_wf zero w = w
rounds_wf (suc r) w = round_wf (rounds_wf r w)

-- more rounds allow less
pub rounds_down : (n : ℕ) (R : Rel) (r q : ℕ) → r ≤ q → Within n (rounds n q R) (rounds n r R)
unfolding rounds
rounds_down n R r zero h i j a b hi hj t = let e : r ≡ 0 = omega arith in rw e t
rounds_down n R r (suc q) h i j a b hi hj t = step (eq-or-lt_of_le h) (λ l. rounds_down n R r q l i j a b hi hj (round_in n (rounds n q R) i j a b t))
  where
    step : (r ≡ suc q) ⊎ (r < suc q) → (r ≤ q → T (rounds n r R i j a b)) → T (rounds n r R i j a b)
    step (inl e) f = rw e t
    step (inr l) f = f (omega arith)

-- once settled, later rounds change nothing
pub settled-stays : (n : ℕ) (R : Rel) (r q : ℕ) → r ≤ q → Settled n (rounds n r R) → Agree n (rounds n q R) (rounds n r R)
settled-stays n R r q h s i j a b hi hj = T_ext (rounds n q R i j a b) (rounds n r R i j a b)
    (rounds_down n R r q h i j a b hi hj)
    ((rounds_sound n q R).keeps (rounds n r R) s (rounds_sound n r R).within i j a b hi hj)

-- the largest settled relation

pub largest_sound : {n : ℕ} {R M : Rel} → Largest n R M → Sound n R M
largest_sound l = record { within = l.within; keeps = l.above }

-- what is within a relation has its largest settled one within the other's
pub largest_mono : {n : ℕ} {R S M N : Rel} → Within n R S → Largest n R M → Largest n S N → Within n M N
largest_mono {M = M} w l k = k.above M l.settled (λ i j a b hi hj t. w i j a b hi hj (l.within i j a b hi hj t))

pub largest_unique : {n : ℕ} {R M N : Rel} → Largest n R M → Largest n R N → Agree n M N
largest_unique {n} {R} {M} {N} l k i j a b hi hj = T_ext (M i j a b) (N i j a b)
    (k.above M l.settled l.within i j a b hi hj)
    (l.above N k.settled k.within i j a b hi hj)

-- a settled relation is its own
pub largest_self : (n : ℕ) (R : Rel) → Settled n R → Largest n R R
largest_self n R = sound_largest (sound_refl n R)

pub largest_wf : {n : ℕ} {size : ℕ → ℕ} {R M : Rel} → WellFormed n size R → Largest n R M → WellFormed n size M
largest_wf {n} {size} {R} {M} w l = record {
  small = w.small;
  inside = λ i j a b hi hj t. w.inside i j a b hi hj (l.within i j a b hi hj t);
  same = λ i a b hi t. w.same i a b hi (l.within i i a b hi hi t);
  turn = λ i j a b hi hj. T_ext (M i j a b) (M j i b a) (back j i b a hj hi) (back i j a b hi hj);
}
  where
    mirror : Rel
    mirror i j a b = M j i b a

    settled : Settled n mirror
    settled i k j a b hi hk hj t =
        let c = composed_e M j k i b a (l.settled j k i b a hj hk hi t) in
        composed_i mirror i k j a b c.0 c.1 c.3 c.2

    back : Within n mirror M
    back = l.above mirror settled (λ i j a b hi hj t. turned w j i b a hj hi (l.within j i b a hj hi t))

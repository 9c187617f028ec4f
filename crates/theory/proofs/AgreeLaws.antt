-- Relations that allow the same among n fields are the same to every notion of the theory.
use Rattle.std.specs.Prelude.{◌≡◌, refl, ◌||◌, ℕ, zero, suc, ◌≤◌, ◌<◌, T}
use Rattle.std.proofs.Common.{sym, ap₂, ◌∙◌, arith}
use Rattle.std.proofs.Math.Path.{ap}
use Rattle.std.proofs.Math.Bool.{not}
use Rattle.theory.specs.Limits.{readings_most}
use Rattle.theory.specs.Bound.{first}
use Rattle.theory.specs.BoundLaws.{T_ext, all_same, any_same, first_same, sum_same, count_same}
use Rattle.theory.specs.Relation.{Rel, WellFormed, Within, Agree, composed, Settled, round, rounds, Largest, Sound}
use Rattle.theory.proofs.RelationLaws.{composed_within, round_mono}
use Rattle.theory.specs.Reading.{Full, kept_count, holds, empty, pairs}
use Rattle.theory.specs.Rows.{WholeRows}
use Rattle.theory.proofs.RowsLaws.{stands_agree}
use Rattle.theory.specs.Settling.{Stable, stable, steps, Settles, Unfinished}
use Rattle.theory.specs.Choice.{Order, Allowed, First, left, Walked}
use Rattle.theory.proofs.ChoiceLaws.{left_e, left_i}

-- agreement

pub agree_refl : (n : ℕ) (R : Rel) → Agree n R R
agree_refl n R i j a b hi hj = refl

pub agree_sym : (n : ℕ) (R S : Rel) → Agree n R S → Agree n S R
agree_sym n R S e i j a b hi hj = sym (e i j a b hi hj)

pub agree_trans : (n : ℕ) (R S Q : Rel) → Agree n R S → Agree n S Q → Agree n R Q
agree_trans n R S Q e d i j a b hi hj = e i j a b hi hj ∙ d i j a b hi hj

pub agree_within : (n : ℕ) (R S : Rel) → Agree n R S → Within n R S
agree_within n R S e i j a b hi hj t = rw (e i j a b hi hj) at t

pub within_agree : (n : ℕ) (R S : Rel) → Within n R S → Within n S R → Agree n R S
within_agree n R S v w i j a b hi hj = T_ext (R i j a b) (S i j a b) (v i j a b hi hj) (w i j a b hi hj)

module _ (n : ℕ) (R S : Rel) (e : Agree n R S) where
  -- relations

  pub agree_wf : {size : ℕ → ℕ} → WellFormed n size R → WellFormed n size S
  agree_wf w = record {
    small = w.small;
    inside = λ i j a b hi hj t. w.inside i j a b hi hj (rw (e i j a b hi hj) t);
    same = λ i a b hi t. w.same i a b hi (rw (e i i a b hi hi) t);
    turn = λ i j a b hi hj. sym (e i j a b hi hj) ∙ (w.turn i j a b hi hj ∙ e j i b a hj hi);
  }

  pub agree_composed : (i k j a b : ℕ) → i < n → k < n → j < n → composed R i k j a b ≡ composed S i k j a b
  agree_composed i k j a b hi hk hj = T_ext (composed R i k j a b) (composed S i k j a b)
      (composed_within n R S (agree_within n R S e) i k j a b hi hk hj)
      (composed_within n S R (agree_within n S R (agree_sym n R S e)) i k j a b hi hk hj)

  pub agree_settled : Settled n R → Settled n S
  agree_settled s i k j a b hi hk hj t = rw (agree_composed i k j a b hi hk hj) at (s i k j a b hi hk hj (rw (e i j a b hi hj) t))

  pub agree_round : Agree n (round n R) (round n S)
  agree_round = within_agree n (round n R) (round n S) (round_mono n R S (agree_within n R S e)) (round_mono n S R (agree_within n S R (agree_sym n R S e)))

  pub agree_sound : (Q : Rel) → Sound n R Q → Sound n S Q
  agree_sound Q s = record {
    within = λ i j a b hi hj t. rw (e i j a b hi hj) at (s.within i j a b hi hj t);
    keeps = λ N u w. s.keeps N u (λ i j a b hi hj t. rw (e i j a b hi hj) (w i j a b hi hj t));
  }

  pub agree_largest : (M : Rel) → Largest n R M → Largest n S M
  agree_largest M l = record {
    settled = l.settled;
    within = λ i j a b hi hj t. rw (e i j a b hi hj) at (l.within i j a b hi hj t);
    above = λ N u w. l.above N u (λ i j a b hi hj t. rw (e i j a b hi hj) (w i j a b hi hj t));
  }

  -- readings

  pub agree_full : (x : ℕ → ℕ) → Full n R x → Full n S x
  agree_full x f i j hi hj = rw (e i j (x i) (x j) hi hj) at (f i j hi hj)

  pub agree_kept_count : (i : ℕ) → i < n → kept_count R i ≡ kept_count S i
  agree_kept_count i hi = count_same readings_most _ _ (λ a ha. e i i a a hi hi)

  pub agree_holds : (i j : ℕ) → i < n → j < n → holds R i j ≡ holds S i j
  unfolding holds
  agree_holds i j hi hj = any_same readings_most _ _ (λ a ha. any_same readings_most _ _ (λ b hb. e i j a b hi hj))

  pub agree_empty : empty n R ≡ empty n S
  unfolding empty
  agree_empty = all_same n _ _ (λ i hi. all_same n _ _ (λ j hj. ap not (agree_holds i j hi hj)))

  pub agree_pairs : pairs n R ≡ pairs n S
  unfolding pairs
  agree_pairs = sum_same n _ _ (λ j hj. sum_same (suc j) _ _ (λ i hi. sum_same readings_most _ _ (λ a ha. count_same readings_most _ _ (λ b hb. e i j a b (omega arith) hj))))

  -- rows

  pub agree_whole : (size : ℕ → ℕ) → WholeRows n size R → WholeRows n size S
  agree_whole size w i j a hi hj b1 b b2 l k t u st = rw (e i j a b hi hj) at (w i j a hi hj b1 b b2 l k (rw (e i j a b1 hi hj) t) (rw (e i j a b2 hi hj) u) (rw (stands_agree n R S e size j b hj) st))

  -- choice

  pub agree_allowed : (fixed : ℕ → ℕ) → Allowed n R fixed → Allowed n S fixed
  agree_allowed fixed ok i j hi hj si sj = rw (e i j (fixed i) (fixed j) hi hj) at (ok i j hi hj si sj)

  agree-left-one : (order fixed x : ℕ → ℕ) (p b : ℕ) → Order n order → p < n → T (left n order R fixed x p b) → T (left n order S fixed x p b)
  agree-left-one order fixed x p b o h t =
      let f = order p in
      let hf = o.within p h in
      let l = left_e n order R fixed x p b t in
      left_i n order S fixed x p b (record {
        keeps = rw (e f f b b hf hf) at l.keeps;
        own = l.own;
        chosen = λ q k. rw (e (order q) f (x (order q)) b (o.within q (omega arith)) hf) at (l.chosen q k);
        held = λ g hg u. rw (e g f (fixed g) b hg hf) at (l.held g hg u);
      })

pub agree_left : (n : ℕ) (R S : Rel) → Agree n R S → (order fixed x : ℕ → ℕ) (p b : ℕ) → Order n order → p < n → left n order R fixed x p b ≡ left n order S fixed x p b
agree_left n R S e order fixed x p b o h = T_ext (left n order R fixed x p b) (left n order S fixed x p b) (agree-left-one n R S e order fixed x p b o h) (agree-left-one n S R (agree_sym n R S e) order fixed x p b o h)

-- rounds

pub agree_rounds : (n r : ℕ) (R S : Rel) → Agree n R S → Agree n (rounds n r R) (rounds n r S)
unfolding rounds
agree_rounds n zero R S e = e
agree_rounds n (suc r) R S e = agree_round n (rounds n r R) (rounds n r S) (agree_rounds n r R S e)

pub agree_stable : (n : ℕ) (R S : Rel) → Agree n R S → stable n R ≡ stable n S
unfolding stable
agree_stable n R S e = all_same n _ _ (λ i hi. all_same n _ _ (λ j hj. all_same readings_most _ _ (λ a ha. all_same readings_most _ _ (λ b hb. ap₂ (λ s t. not s || t) (e i j a b hi hj) (agree_round n R S e i j a b hi hj)))))

pub agree_steps : (n : ℕ) (R S : Rel) → Agree n R S → steps n R ≡ steps n S
unfolding steps
agree_steps n R S e = ap (λ k. first (suc k) (λ r. stable n (rounds n r R))) (agree_pairs n R S e) ∙ first_same (suc (pairs n S)) _ _ (λ r h. agree_stable n (rounds n r R) (rounds n r S) (agree_rounds n r R S e))

pub agree_unchanged : (n : ℕ) (R S : Rel) → Agree n R S → Stable n R → Stable n S
agree_unchanged n R S e s i j a b hi hj = sym (agree_round n R S e i j a b hi hj) ∙ (s i j a b hi hj ∙ e i j a b hi hj)

pub agree_settles : (n : ℕ) (R S : Rel) → Agree n R S → (budget r : ℕ) → Settles n R budget r → Settles n S budget r
agree_settles n R S e budget r s = record {
  enough = s.enough;
  ends = agree_unchanged n (rounds n r R) (rounds n r S) (agree_rounds n r R S e) s.ends;
  moves = λ q h u. s.moves q h (agree_unchanged n (rounds n q S) (rounds n q R) (agree_rounds n q S R (agree_sym n R S e)) u);
}

pub agree_unfinished : (n : ℕ) (R S : Rel) → Agree n R S → (budget : ℕ) → Unfinished n R budget → Unfinished n S budget
agree_unfinished n R S e budget f q h u = f q h (agree_unchanged n (rounds n q S) (rounds n q R) (agree_rounds n q S R (agree_sym n R S e)) u)

-- the first reading

pub agree_walked : (n : ℕ) (R S : Rel) → Agree n R S → (order size fixed x : ℕ → ℕ) → Order n order → (m : ℕ) → m ≤ n → Walked n order size R fixed x m → Walked n order size S fixed x m
agree_walked n R S e order size fixed x o m l g p h = g p h ∙ first_same (size (order p)) _ _ (λ b k. agree_left n R S e order fixed x p b o (omega arith))

pub agree_first : (n : ℕ) (R S : Rel) → Agree n R S → (order fixed x : ℕ → ℕ) → First n order R fixed x → First n order S fixed x
agree_first n R S e order fixed x f = record {
  full = agree_full n R S e x f.full;
  keeps = f.keeps;
  least = λ y g. f.least y (agree_full n S R (agree_sym n R S e) y g);
}

-- The theorems of the theory, each beside the sentence of 01 that it carries.
use Rattle.std.specs.Prelude.{◌≡◌, refl, ◌↔◌, ◌⊎◌, Bool, not, ℕ, suc, ◌≤◌, ◌<◌, T, eqb}
use Rattle.std.proofs.Common.{◌∙◌, inl, inr, le_refl, le_antisymm, arith, eqb→eq}
use Rattle.theory.specs.Limits.{fields_most, rounds_most}
use Rattle.theory.specs.BoundLaws.{known, not_i, not_e, lt_or_ge}
use Rattle.theory.specs.Relation.{Rel, WellFormed, Within, Agree, Settled, round, rounds, Largest, Sound}
use Rattle.theory.proofs.RelationLaws.{pair_small, round_sound, round_within, round_wf, rounds_sound, settled_unchanged, unchanged_settled, settled-stays, sound_refl, sound_trans, sound_chain, sound_largest, largest_sound, largest_mono, largest_unique, largest_self, largest_wf}
use Rattle.theory.specs.Reading.{Full, kept, holds, empty, pairs, pairs_most}
use Rattle.theory.proofs.ReadingLaws.{sound_full, holds_i, empty_i, empty_e, filled_i, settled-filled, pairs_most_lem, pairs_most_limit}
use Rattle.theory.specs.Rows.{stands, Whole, WholeRows}
use Rattle.theory.proofs.RowsLaws.{stands-inside}
use Rattle.theory.proofs.Interval.{step_lemma}
use Rattle.theory.specs.Settling.{Stable, stable, steps, Settles, Unfinished}
use Rattle.theory.proofs.SettlingLaws.{stable_i, stable_e, round_removes, round_fewer, steps-le, steps-settled, steps_least, settles-steps, unfinished-steps, settles_unique, settles-not-unfinished, settles_larger}
use Rattle.theory.specs.Choice.{Order, by_number, Fixed, Keeps, Allowed, Same, First, left, Walked, only, walk, WholeAlong, clash, clash_from, clash_to}
use Rattle.theory.proofs.ChoiceLaws.{left_i, full-left, walked_left, walked_first, walked_unique, walk_walked, first_unique, keeps_allowed, only_here, only_allowed, clash_i, clash_e, clash-le, clash-found, no_clash}
use Rattle.theory.specs.Strike.{strike, Run}
use Rattle.theory.proofs.StrikeLaws.{strike_within, strike_wf, strike_agree, run_largest}
use Rattle.theory.proofs.AgreeLaws.{agree_largest}

-- 1. Rounds (01, "Settling": one round replaces every cell by what lies in it and in every composition)

pub round_lies_within : (n : ℕ) (R : Rel) → Within n (round n R) R
round_lies_within = round_within

pub round_keeps_form : {n : ℕ} {size : ℕ → ℕ} {R : Rel} → WellFormed n size R → WellFormed n size (round n R)
round_keeps_form = round_wf

-- "after which a further one changes nothing": that is, settled
pub unchanged_iff_settled : (n : ℕ) (R : Rel) → Stable n R ↔ Settled n R
unchanged_iff_settled n R = (unchanged_settled n R, settled_unchanged n R)

pub stable_iff_settled : {n : ℕ} {size : ℕ → ℕ} {R : Rel} → WellFormed n size R → T (stable n R) ↔ Settled n R
stable_iff_settled {n} {size} {R} w = (stable_e w, stable_i n R)

-- 2. "The settled table is the largest settled one inside the given one."

pub settled_outlives_rounds : (n r : ℕ) (R S : Rel) → Settled n S → Within n S R → Within n S (rounds n r R)
settled_outlives_rounds n r R = (rounds_sound n r R).keeps

pub settled_rounds_are_largest : (n r : ℕ) (R : Rel) → Settled n (rounds n r R) → Largest n R (rounds n r R)
settled_rounds_are_largest n r R = sound_largest (rounds_sound n r R)

pub largest_is_one : {n : ℕ} {R M N : Rel} → Largest n R M → Largest n R N → Agree n M N
largest_is_one = largest_unique

pub largest_exists : {n : ℕ} {size : ℕ → ℕ} {R : Rel} → WellFormed n size R → Largest n R (rounds n (steps n R) R)
largest_exists {n} {size} {R} w = settled_rounds_are_largest n (steps n R) R (steps-settled w)

pub largest_keeps_form : {n : ℕ} {size : ℕ → ℕ} {R M : Rel} → WellFormed n size R → Largest n R M → WellFormed n size M
largest_keeps_form = largest_wf

-- however it is reached: a sound reduction that ends settled gives it; a round is sound, and so are sound steps one after the other

pub sound_and_settled_is_largest : {n : ℕ} {R Q : Rel} → Sound n R Q → Settled n Q → Largest n R Q
sound_and_settled_is_largest = sound_largest

pub round_is_sound : (n : ℕ) (R : Rel) → Sound n R (round n R)
round_is_sound = round_sound

pub no_step_is_sound : (n : ℕ) (R : Rel) → Sound n R R
no_step_is_sound = sound_refl

pub two_sound_steps_are_sound : {n : ℕ} {R Q P : Rel} → Sound n R Q → Sound n Q P → Sound n R P
two_sound_steps_are_sound = sound_trans

pub sound_steps_are_sound : (n r : ℕ) (Q : ℕ → Rel) → ((s : ℕ) → s < r → Sound n (Q s) (Q (suc s))) → Sound n (Q 0) (Q r)
sound_steps_are_sound = sound_chain

-- 3. "When the table is the settled form of an opening table, these are also the opening table's full readings."

pub rounds_keep_full_readings : {n : ℕ} {size : ℕ → ℕ} {R : Rel} → WellFormed n size R → (r : ℕ) (x : ℕ → ℕ) → Full n R x ↔ Full n (rounds n r R) x
rounds_keep_full_readings {n} {size} {R} w r = sound_full w (rounds_sound n r R)

pub largest_keeps_full_readings : {n : ℕ} {size : ℕ → ℕ} {R M : Rel} → WellFormed n size R → Largest n R M → (x : ℕ → ℕ) → Full n R x ↔ Full n M x
largest_keeps_full_readings w l = sound_full w (largest_sound l)

-- so the first of them is the same one
pub first_of_opening : {n : ℕ} {size : ℕ → ℕ} {R M : Rel} → WellFormed n size R → Largest n R M → (order fixed x : ℕ → ℕ) → First n order R fixed x ↔ First n order M fixed x
first_of_opening w l order fixed x = (
  λ f. record {
    full = (largest_keeps_full_readings w l x).0 f.full;
    keeps = f.keeps;
    least = λ y g. f.least y ((largest_keeps_full_readings w l y).1 g);
  },
  λ f. record {
    full = (largest_keeps_full_readings w l x).1 f.full;
    keeps = f.keeps;
    least = λ y g. f.least y ((largest_keeps_full_readings w l y).0 g);
  },
)

-- 4. "Either all its cells hold a pair or all are empty; empty means no full reading."

pub all_cells_or_none : (n : ℕ) (R : Rel) → Settled n R → ((i j : ℕ) → i < n → j < n → T (holds R i j)) ⊎ T (empty n R)
all_cells_or_none n R s = elim (known (empty n R)) [ inl t ↦ inr t | inr d ↦ inl (settled-filled n R s d) ]

pub never_all_cells_and_none : (n : ℕ) (R : Rel) → 0 < n → ((i j : ℕ) → i < n → j < n → T (holds R i j)) → T (empty n R) → ⊥
never_all_cells_and_none n R h f = not_e (empty n R) (filled_i n R 0 0 h h (f 0 0 h h))

-- empty says of a well_formed table that it has no pair at all
pub empty_iff_no_pair : {n : ℕ} {size : ℕ → ℕ} {R : Rel} → WellFormed n size R → T (empty n R) ↔ ((i j a b : ℕ) → i < n → j < n → T (R i j a b) → ⊥)
empty_iff_no_pair {n} {size} {R} w = (empty_e w, empty_i n R)

pub empty_means_no_full_reading : {n : ℕ} {size : ℕ → ℕ} {R : Rel} → WellFormed n size R → 0 < n → T (empty n R) → (x : ℕ → ℕ) → Full n R x → ⊥
empty_means_no_full_reading w h t x f = empty_e w t 0 0 (x 0) (x 0) h h (f 0 0 h h)

-- 5. "The rounds r never exceed the number of allowed pairs on or above the diagonal at the start, at most 123,392."

pub changing_round_removes_a_pair : {n : ℕ} {size : ℕ → ℕ} {R : Rel} → WellFormed n size R → (Stable n R → ⊥) → (i : ℕ) × (j : ℕ) × (a : ℕ) × (b : ℕ) × (i ≤ j) × (j < n) × T (R i j a b) × T (not (round n R i j a b))
changing_round_removes_a_pair {n} {size} {R} w d = round_removes w (λ s. d (settled_unchanged n R s))

pub changing_round_leaves_fewer : {n : ℕ} {size : ℕ → ℕ} {R : Rel} → WellFormed n size R → (Stable n R → ⊥) → pairs n (round n R) < pairs n R
changing_round_leaves_fewer {n} {size} {R} w d = round_fewer w (λ s. d (settled_unchanged n R s))

-- "Let r be the least number of rounds after which a further one changes nothing": steps n R
pub steps_end_stable : {n : ℕ} {size : ℕ → ℕ} {R : Rel} → WellFormed n size R → Stable n (rounds n (steps n R) R)
steps_end_stable {n} {size} {R} w = settled_unchanged n (rounds n (steps n R) R) (steps-settled w)

pub steps_are_least : (n : ℕ) (R : Rel) (r : ℕ) → Stable n (rounds n r R) → steps n R ≤ r
steps_are_least n R r e = elim (lt_or_ge r (steps n R)) [ inl h ↦ absurd (steps_least n R r h (unchanged_settled n (rounds n r R) e)) | inr h ↦ h ]

pub steps_at_most_pairs : {n : ℕ} {size : ℕ → ℕ} {R : Rel} → WellFormed n size R → steps n R ≤ pairs n R
steps_at_most_pairs = steps-le

pub pairs_at_most : {n : ℕ} {size : ℕ → ℕ} {R : Rel} → WellFormed n size R → pairs n R ≤ pairs_most n
pairs_at_most = pairs_most_lem

pub steps_at_most_rounds_most : {n : ℕ} {size : ℕ → ℕ} {R : Rel} → WellFormed n size R → n ≤ fields_most → steps n R ≤ rounds_most
steps_at_most_rounds_most {n} w h = omega (arith, steps-le w, pairs_most_lem w, pairs_most_limit n h)

-- 6. "If r is at most the budget, the answer is settled, r, and whether it is empty. Otherwise the answer is unfinished."

pub settled_or_unfinished : {n : ℕ} {size : ℕ → ℕ} {R : Rel} → WellFormed n size R → (budget : ℕ) → Settles n R budget (steps n R) ⊎ Unfinished n R budget
settled_or_unfinished {n} {size} {R} w budget = elim (lt_or_ge budget (steps n R)) [ inl h ↦ inr (unfinished-steps w budget h) | inr h ↦ inl (settles-steps w budget h) ]

pub settled_iff_enough : {n : ℕ} {size : ℕ → ℕ} {R : Rel} → WellFormed n size R → (budget r : ℕ) → Settles n R budget r ↔ ((r ≡ steps n R) × (r ≤ budget))
settled_iff_enough {n} {size} {R} w budget r = (λ s. (settles_unique s (settles-steps w (steps n R) (le_refl (steps n R))), s.enough), λ h. let k : steps n R ≤ budget = omega arith in rw h.0 (settles-steps w budget k))

pub unfinished_iff_not_enough : {n : ℕ} {size : ℕ → ℕ} {R : Rel} → WellFormed n size R → (budget : ℕ) → Unfinished n R budget ↔ (budget < steps n R)
unfinished_iff_not_enough {n} {size} {R} w budget = (λ u. elim (lt_or_ge budget (steps n R)) [ inl h ↦ h | inr h ↦ absurd (u (steps n R) h (steps_end_stable w)) ], unfinished-steps w budget)

pub never_settled_and_unfinished : {n : ℕ} {R : Rel} {budget r : ℕ} → Settles n R budget r → Unfinished n R budget → ⊥
never_settled_and_unfinished = settles-not-unfinished

pub settled_count_is_one : {n : ℕ} {R : Rel} {budget budget' r r' : ℕ} → Settles n R budget r → Settles n R budget' r' → r ≡ r'
settled_count_is_one = settles_unique

-- "A larger budget never alters a settled answer."
pub larger_budget_same_answer : {n : ℕ} {R : Rel} {budget budget' r : ℕ} → budget ≤ budget' → Settles n R budget r → Settles n R budget' r
larger_budget_same_answer = settles_larger

pub settled_answer_is_largest : {n : ℕ} {R : Rel} {budget r : ℕ} → Settles n R budget r → Largest n R (rounds n r R)
settled_answer_is_largest {n} {R} {r = r} s = settled_rounds_are_largest n r R (unchanged_settled n (rounds n r R) s.ends)

-- and rounds beyond r leave the table as it is
pub further_rounds_change_nothing : {n : ℕ} {R : Rel} {budget r : ℕ} → Settles n R budget r → (q : ℕ) → r ≤ q → Agree n (rounds n q R) (rounds n r R)
further_rounds_change_nothing {n} {R} {r = r} s q h = settled-stays n R r q h (unchanged_settled n (rounds n r R) s.ends)

-- the lister's budget always suffices
pub budget_rounds_most_settles : {n : ℕ} {size : ℕ → ℕ} {R : Rel} → WellFormed n size R → n ≤ fields_most → Settles n R rounds_most (steps n R)
budget_rounds_most_settles w h = settles-steps w rounds_most (steps_at_most_rounds_most w h)

-- 7. Document 000, lemma 1 and theorem 1: `interval_lemma` and `step_lemma` of Interval.antt, and the latter over what stands

-- chosen fields (possibly none), pairwise allowed, with whole rows from each of them to f, leave a reading of f that goes with all
pub step_lemma_stands : {n : ℕ} {size : ℕ → ℕ} {R : Rel} → WellFormed n size R → Settled n R → T (not (empty n R))
    → (on : ℕ → Bool) (v : ℕ → ℕ)
    → ((i j : ℕ) → i < n → j < n → T (on i) → T (on j) → T (R i j (v i) (v j)))
    → (f : ℕ) → f < n
    → ((g : ℕ) → g < n → T (on g) → Whole (stands size R f) (R g f (v g)))
    → (b : ℕ) × T (kept R f b) × ((g : ℕ) → g < n → T (on g) → T (R g f (v g) b))
step_lemma_stands {n} {size} {R} w s filled on v ok f hf = step_lemma w s filled f hf (stands size R f) (λ i a b hi. stands-inside w s i f a b hi hf) on v ok

-- 8. Demand 3: "the first full reading, compared field by field from field 0, among all that keep the fixed readings"

pub field_order : (n : ℕ) → Order n by_number
field_order n = record { within = λ p h. h; onto = λ f h. (f, h, refl) }

-- a table all of whose rows are whole is whole along every order
pub whole_along : {n : ℕ} {order size : ℕ → ℕ} {R : Rel} → Order n order → WholeRows n size R → (fixed : ℕ → ℕ) → WholeAlong n order size R fixed
whole_along {order = order} o whole fixed = record {
  earlier = λ q p a l h. whole (order q) (order p) a (o.within q (omega arith)) (o.within p h);
  held = λ g p a hg h t. whole g (order p) a hg (o.within p h);
}

module _ {n : ℕ} {size : ℕ → ℕ} {R : Rel} (w : WellFormed n size R) (s : Settled n R) (filled : T (not (empty n R))) (whole : WholeRows n size R) (fixed : ℕ → ℕ) (ok : Allowed n R fixed) where
  -- the walk finds a reading at every field
  pub walk_finds_a_reading : (x : ℕ → ℕ) (p : ℕ) → p < n → Walked n by_number size R fixed x p → (b : ℕ) × (b < size p) × T (left n by_number R fixed x p b)
  walk_finds_a_reading x = walked_left n by_number size R fixed x (field_order n) w s filled ok (whole_along (field_order n) whole fixed)

  -- what it ends with is full, keeps the fixed readings and is the first that does
  pub walk_ends_first : (x : ℕ → ℕ) → Walked n by_number size R fixed x n → First n by_number R fixed x
  walk_ends_first x = walked_first n by_number size R fixed x (field_order n) w s filled ok (whole_along (field_order n) whole fixed)

  pub first_exists : First n by_number R fixed (walk n by_number size R fixed n)
  first_exists = walk_ends_first (walk n by_number size R fixed n) (walk_walked n by_number size R fixed (field_order n) n (le_refl n))

-- there is one first reading, and one walk
pub first_is_one : {n : ℕ} {R : Rel} {fixed x y : ℕ → ℕ} → First n by_number R fixed x → First n by_number R fixed y → (i : ℕ) → i < n → x i ≡ y i
first_is_one {n} = first_unique (field_order n)

pub walk_is_one : (n : ℕ) (order size : ℕ → ℕ) (R : Rel) (fixed x y : ℕ → ℕ) (m : ℕ) → Walked n order size R fixed x m → Walked n order size R fixed y m → Same m order x y
walk_is_one = walked_unique

-- a full reading that keeps the fixed readings and is the same so far is always left
pub full_reading_is_left : (n : ℕ) (order : ℕ → ℕ) (R : Rel) (fixed x y : ℕ → ℕ) → Order n order → Full n R y → Keeps n fixed y → (p : ℕ) → p < n → Same p order x y → T (left n order R fixed x p (y (order p)))
full_reading_is_left n order R fixed x y o full keeps p h e = left_i n order R fixed x p (y (order p)) (full-left n order R fixed x y o full keeps p h e)

-- 9. "Refusal 12 is given exactly when no full reading keeps the fixed readings"

pub kept_by_one_then_allowed : (n : ℕ) (R : Rel) (fixed y : ℕ → ℕ) → Full n R y → Keeps n fixed y → Allowed n R fixed
kept_by_one_then_allowed = keeps_allowed

pub kept_by_none_iff_clash : {n : ℕ} {size : ℕ → ℕ} {R : Rel} → WellFormed n size R → Settled n R → T (not (empty n R)) → WholeRows n size R → (fixed : ℕ → ℕ)
    → ((y : ℕ → ℕ) → Full n R y → Keeps n fixed y → ⊥) ↔ ((i : ℕ) × (j : ℕ) × (j < n) × T (clash R fixed i j))
kept_by_none_iff_clash {n} {size} {R} w s filled whole fixed = (clashes, none)
  where
    clashes : ((y : ℕ → ℕ) → Full n R y → Keeps n fixed y → ⊥) → (i : ℕ) × (j : ℕ) × (j < n) × T (clash R fixed i j)
    clashes d = elim (lt_or_ge (clash_from n R fixed) n) [
      | inl h ↦ let c = clash-found n R fixed h in (clash_from n R fixed, clash_to n R fixed, c.0, clash_i R fixed (clash_from n R fixed) (clash_to n R fixed) c.1)
      | inr h ↦
          let ok : Allowed n R fixed = (no_clash w fixed).0 (le_antisymm (clash-le n R fixed) h) in
          let f = first_exists w s filled whole fixed ok in
          absurd (d (walk n by_number size R fixed n) f.full f.keeps)
    ]

    none : (i : ℕ) × (j : ℕ) × (j < n) × T (clash R fixed i j) → (y : ℕ → ℕ) → Full n R y → Keeps n fixed y → ⊥
    none (i, j, hj, t) y full keeps =
        let c = clash_e R fixed i j t in
        not_e (R i j (fixed i) (fixed j)) c.apart (keeps_allowed n R fixed y full keeps i j (omega (arith, c.ordered)) hj c.from c.to)

-- so every kept reading of a settled table of whole rows is one of a full reading (document 000, theorem 1)
pub kept_reading_in_a_full_one : {n : ℕ} {size : ℕ → ℕ} {R : Rel} → WellFormed n size R → Settled n R → WholeRows n size R → (i a : ℕ) → i < n → T (kept R i a) → (x : ℕ → ℕ) × Full n R x × (x i ≡ a)
kept_reading_in_a_full_one {n} {size} {R} w s whole i a hi t =
    let small = pair_small w i i a a hi hi t in
    let f = first_exists w s (filled_i n R i i hi hi (holds_i R i i a a small.0 small.0 t)) whole (only i a) (only_allowed n R i a t) in
    (walk n by_number size R (only i a) n, f.full, f.keeps i hi (rw (only_here i a) (not_i (eqb a 255) (λ e. omega (arith, small.0, eqb→eq a 255 e)))) ∙ only_here i a)

-- 10. The same along any order of the fields, with nothing fixed, where the rows to each field from every earlier one are whole

module _ {n : ℕ} {order size : ℕ → ℕ} {R : Rel} (o : Order n order) (w : WellFormed n size R) (s : Settled n R) (filled : T (not (empty n R))) (fixed : ℕ → ℕ) (nothing : (f : ℕ) → f < n → Fixed fixed f → ⊥) (whole : (q p a : ℕ) → q < p → p < n → Whole (stands size R (order p)) (R (order q) (order p) a)) where
  along : WholeAlong n order size R fixed
  along = record { earlier = whole; held = λ g p a hg h t. absurd (nothing g hg t) }

  none-fixed : Allowed n R fixed
  none-fixed i j hi hj t = absurd (nothing i hi t)

  pub walk_along_finds_a_reading : (x : ℕ → ℕ) (p : ℕ) → p < n → Walked n order size R fixed x p → (b : ℕ) × (b < size (order p)) × T (left n order R fixed x p b)
  walk_along_finds_a_reading x = walked_left n order size R fixed x o w s filled none-fixed along

  pub walk_along_ends_first : (x : ℕ → ℕ) → Walked n order size R fixed x n → First n order R fixed x
  walk_along_ends_first x = walked_first n order size R fixed x o w s filled none-fixed along

  pub first_along_exists : First n order R fixed (walk n order size R fixed n)
  first_along_exists = walk_along_ends_first (walk n order size R fixed n) (walk_walked n order size R fixed o n (le_refl n))

pub first_along_is_one : {n : ℕ} {order : ℕ → ℕ} {R : Rel} {fixed x y : ℕ → ℕ} → Order n order → First n order R fixed x → First n order R fixed y → (i : ℕ) → i < n → x i ≡ y i
first_along_is_one = first_unique

-- 11. Closure: strikes and settling, in any order

pub largest_grows : {n : ℕ} {R S M N : Rel} → Within n R S → Largest n R M → Largest n S N → Within n M N
largest_grows = largest_mono

pub largest_again : {n : ℕ} {R M N : Rel} → Largest n R M → Largest n M N → Agree n N M
largest_again {n} {R} {M} l k = largest_unique k (largest_self n M l.settled)

-- pairs struck on both sides of the diagonal
pub strike_keeps_form : {n : ℕ} {size : ℕ → ℕ} {R : Rel} (P : Rel) → ((i j a b : ℕ) → i < n → j < n → P i j a b ≡ P j i b a) → WellFormed n size R → WellFormed n size (strike P R)
strike_keeps_form = strike_wf

-- a run that ends settled ends with the largest settled relation of what all its strikes leave
pub run_ends_largest : {n : ℕ} {R P Q : Rel} → Run n R P Q → Settled n Q → Largest n (strike P R) Q
run_ends_largest = run_largest

-- so two runs that struck the same pairs end the same
pub order_of_strikes_does_not_matter : {n : ℕ} {R P P' Q Q' : Rel} → Run n R P Q → Run n R P' Q' → Agree n P P' → Settled n Q → Settled n Q' → Agree n Q Q'
order_of_strikes_does_not_matter {n} {R} {P} {P'} {Q} r r' e s s' = largest_unique (agree_largest n (strike P R) (strike P' R) (strike_agree e R) Q (run_largest r s)) (run_largest r' s')

pub strike_brings_nothing_back : {n : ℕ} {R M N : Rel} (P : Rel) → Largest n R M → Largest n (strike P R) N → Within n N M
strike_brings_nothing_back {n} {R} P l k = largest_mono (strike_within n P R) k l

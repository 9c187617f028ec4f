-- What settling comes to, from its promise alone, each beside the sentence of 01 that it carries.
use Rattle.std.specs.Prelude.{◌≡◌, refl, ◌↔◌, ◌⊎◌, Bool, true, not, List, [], ◌∷◌, T, length, Option, Some, None, Ok, Err}
use Rattle.std.proofs.Math.Path.{sym}
use Rattle.std.proofs.Common.{ap, ◌∙◌, inl, inr}
use Prim.Native.Nat.{ℕ, min, ◌≤◌, ◌<◌}
use native.Mathlib.Omega.{arith}
use Rattle.theory.specs.Limits.{rounds_most}
use Rattle.theory.specs.Bound.{val}
use Rattle.theory.specs.BoundLaws.{T_ext, lt_or_ge}
use Rattle.theory.specs.Relation.{Rel, WellFormed, Agree, Settled, round, rounds, Largest, Sound}
use Rattle.theory.proofs.RelationLaws.{pair_small, rounds_wf, rounds_sound, sound_largest, largest_unique, settled_unchanged}
use Rattle.theory.specs.Reading.{Full, holds, empty, pairs}
use Rattle.theory.proofs.ReadingLaws.{sound_full, filled_i, settled-filled, pairs_most_lem, pairs_most_limit}
use Rattle.theory.specs.Choice.{First}
use Rattle.theory.specs.Settling.{steps, Settles, Unfinished}
use Rattle.theory.proofs.SettlingLaws.{steps-le, steps-settled, settles-steps, unfinished-steps}
use Rattle.theory.proofs.Theorems.{steps_are_least, steps_at_most_rounds_most, empty_means_no_full_reading, first_of_opening}
use Rattle.theory.proofs.AgreeLaws.{agree_sym, agree_wf, agree_settled, agree_round, agree_empty}
use Rattle.refusal.specs.Said.{Said, says}
use Rattle.refusal.specs.declared.Refusal.{Refusal}
use Rattle.table.specs.Layout.{words, size_of}
use Rattle.table.specs.LayoutLaws.{Narrow, Fit, rel-words, length-words, words_same, words-rel, words_fit_lem}
use Rattle.table.specs.Checks.{Refuses}
use Rattle.table.specs.AnswerLaws.{no_result}
use Rattle.table.specs.Shape.{GoodTable, after_shape}
use Rattle.table.specs.ShapeLaws.{check_shape}
use Rattle.table.specs.declared.layout.Row.{Row}
use Rattle.settle.specs.Changes.{after_settled, said_changed}
use Rattle.settle.specs.ChangesLaws.{check-settled, told-settled, changed_determined}
use Rattle.settle.specs.Settle.{rel_of, GoodLent, Settling, settled_after, unfinished, said_settling, after_lent, rounds_say, settle_says, reached, Settlement}
use Rattle.settle.specs.SettleLaws.{check-lent, says-settled, says-unfinished, good-says, good-table, good-scratch, refused-table, refused-scratch, val_same}

-- 1. Refusals: "a number is given exactly when its check is the first to fail. Refusals write nothing."

pub refusal_writes_nothing : {sizes t s : List ℕ} {budget : ℕ} {q : Refusal} {t' s' : List ℕ} → Settlement sizes t s budget (Err q) t' s' → (t' ≡ t) × (s' ≡ s)
refusal_writes_nothing {sizes} {t} {s} {budget} {q} p = (p.table ∙ refused-table sizes t s budget q p.says, p.scratch ∙ refused-scratch sizes t s budget q p.says)

-- what is not refused is a good table with scratch of its length
pub answered_is_good : {sizes t s : List ℕ} {budget : ℕ} {x : Settling} {t' s' : List ℕ} → Settlement sizes t s budget x t' s' → (said_settling x).state ≡ 0 → GoodLent sizes t s
unfolding settle_says
answered_is_good {sizes} {t} {s} {budget} {x} p z = go (check-lent sizes t s).decides
  where
    go : GoodLent sizes t s ⊎ Refuses (after_lent sizes t s) → GoodLent sizes t s
    go (inl g) = g
    go (inr r) =
        let e : (said_settling x).state ≡ r.0.state = ap (λ (a : Said). a.state) (p.says ∙ r.2 (rounds_say (length sizes) (rel_of sizes t) budget)) in
        absurd (omega (arith, r.1))

-- 2. Any answer but a refusal leaves a good table, which any other entry point takes, and scratch "one further round of what the
-- table holds"

module _ {sizes t s : List ℕ} {budget : ℕ} {x : Settling} {t' s' : List ℕ} (p : Settlement sizes t s budget x t' s') (z : (said_settling x).state ≡ 0) where
  good : GoodLent sizes t s
  good = answered_is_good p z

  formed : WellFormed (length sizes) (size_of sizes) (rel_of sizes t)
  formed = good.good.formed

  left : t' ≡ words (length sizes) (reached (length sizes) (rel_of sizes t) budget)
  left = p.table ∙ good-table good budget

  reached-formed : WellFormed (length sizes) (size_of sizes) (reached (length sizes) (rel_of sizes t) budget)
  unfolding reached
  reached-formed = rounds_wf (min (steps (length sizes) (rel_of sizes t)) budget) formed

  -- the words stand for the state reached
  pub table_stands_for_reached : Agree (length sizes) (rel_of sizes t') (reached (length sizes) (rel_of sizes t) budget)
  table_stands_for_reached = rw left (rel-words (length sizes) (reached (length sizes) (rel_of sizes t) budget) (λ i j a b hi hj. pair_small reached-formed i j a b hi hj))

  pub result_is_good : GoodTable sizes t'
  result_is_good = record {
    good = good.good.good;
    long = ap length left ∙ length-words (length sizes) (reached (length sizes) (rel_of sizes t) budget);
    formed = agree_wf (length sizes) (reached (length sizes) (rel_of sizes t) budget) (rel_of sizes t')
        (agree_sym (length sizes) (rel_of sizes t') (reached (length sizes) (rel_of sizes t) budget) table_stands_for_reached) reached-formed;
  }

  -- so the checks 1 to 6 pass it on
  pub result_passes_the_checks : (rest : Said) → after_shape sizes t' rest ≡ rest
  result_passes_the_checks = (check_shape sizes t').passes result_is_good

  pub scratch_is_one_round_further : s' ≡ words (length sizes) (round (length sizes) (rel_of sizes t'))
  scratch_is_one_round_further =
      p.scratch ∙ (good-scratch good budget ∙ words_same (length sizes) (round (length sizes) (reached (length sizes) (rel_of sizes t) budget)) (round (length sizes) (rel_of sizes t'))
      (agree_round (length sizes) (reached (length sizes) (rel_of sizes t) budget) (rel_of sizes t')
      (agree_sym (length sizes) (rel_of sizes t') (reached (length sizes) (rel_of sizes t) budget) table_stands_for_reached)))

  -- no settled relation within the given one has lost a pair
  pub result_is_sound : Sound (length sizes) (rel_of sizes t) (rel_of sizes t')
  unfolding reached
  result_is_sound =
      let e = table_stands_for_reached in
      let f = rounds_sound (length sizes) (min (steps (length sizes) (rel_of sizes t)) budget) (rel_of sizes t) in
      record {
        within = λ i j a b hi hj u. f.within i j a b hi hj (rw (e i j a b hi hj) at u);
        keeps = λ S c w i j a b hi hj u. rw (e i j a b hi hj) (f.keeps S c w i j a b hi hj u);
      }

  pub result_keeps_full_readings : (y : ℕ → ℕ) → Full (length sizes) (rel_of sizes t) y ↔ Full (length sizes) (rel_of sizes t') y
  result_keeps_full_readings = sound_full formed result_is_sound

  -- whatever scratch held before
  pub scratch_content_is_no_matter : (u : List ℕ) → length u ≡ length s → Settlement sizes t u budget x t' s'
  scratch_content_is_no_matter u e =
      let g : GoodLent sizes t u = record { good = good.good; other = e ∙ good.other } in
      record {
        says = p.says ∙ (good-says good budget ∙ sym (good-says g budget));
        table = left ∙ sym (good-table g budget);
        scratch = p.scratch ∙ (good-scratch good budget ∙ sym (good-scratch g budget));
      }

-- a settled table needs no round, and neither its words change
pub settled_needs_no_round : {sizes t s : List ℕ} → GoodLent sizes t s → Fit t → Settled (length sizes) (rel_of sizes t) → (budget : ℕ)
    → Settlement sizes t s budget (settled_after 0 (empty (length sizes) (rel_of sizes t))) t t
unfolding reached rounds
settled_needs_no_round {sizes} {t} {s} g f c budget =
    let none : steps (length sizes) (rel_of sizes t) ≡ 0 = omega (arith, steps_are_least (length sizes) (rel_of sizes t) 0 (settled_unchanged (length sizes) (rel_of sizes t) c)) in
    let m : min (steps (length sizes) (rel_of sizes t)) budget ≡ 0 = omega arith in
    let own : words (length sizes) (rel_of sizes t) ≡ t = words-rel (length sizes) t g.good.long f in
    record {
      says = sym (rw none at (good-says g budget ∙ says-settled (length sizes) (rel_of sizes t) budget (omega arith)));
      table = sym (good-table g budget ∙ rw m own);
      scratch = sym (good-scratch g budget ∙ rw m (words_same (length sizes) (round (length sizes) (rel_of sizes t)) (rel_of sizes t) (settled_unchanged (length sizes) (rel_of sizes t) c) ∙ own));
    }

-- 3. Settled: "If r is at most the budget, the answer is settled, r, and whether it is empty; the table holds the result."

module _ {sizes t s : List ℕ} {budget r : ℕ} {e : Bool} {t' s' : List ℕ} (p : Settlement sizes t s budget (settled_after r e) t' s') where
  settled-good : GoodLent sizes t s
  settled-good = answered_is_good p refl

  settled-formed : WellFormed (length sizes) (size_of sizes) (rel_of sizes t)
  settled-formed = settled-good.good.formed

  -- r and the flag
  settled-values : (steps (length sizes) (rel_of sizes t) ≤ budget) × (r ≡ steps (length sizes) (rel_of sizes t))
      × (val e ≡ val (empty (length sizes) (rounds (length sizes) (steps (length sizes) (rel_of sizes t)) (rel_of sizes t))))
  settled-values = elim (lt_or_ge budget (steps (length sizes) (rel_of sizes t))) [
    | inl l ↦ absurd (filled (ap (λ (a : Said). a.values) (p.says ∙ (good-says settled-good budget ∙ says-unfinished (length sizes) (rel_of sizes t) budget l))))
    | inr l ↦ let v = ap (λ (a : Said). a.values) (p.says ∙ (good-says settled-good budget ∙ says-settled (length sizes) (rel_of sizes t) budget l)) in (l, one v, two v)
  ]
    where
      filled : r ∷ val e ∷ [] ≡ [] → ⊥
      filled v = let y : ◌≡◌ {A = ℕ} 0 1 = cc in omega arith

      one : {a b : ℕ} → r ∷ val e ∷ [] ≡ a ∷ b ∷ [] → r ≡ a
      one v = cc

      two : {a b : ℕ} → r ∷ val e ∷ [] ≡ a ∷ b ∷ [] → val e ≡ b
      two v = cc

  pub settled_says_least_rounds : Settles (length sizes) (rel_of sizes t) budget r
  settled_says_least_rounds = rw settled-values.1 (settles-steps settled-formed budget settled-values.0)

  settled-stands : Agree (length sizes) (rel_of sizes t') (rounds (length sizes) r (rel_of sizes t))
  unfolding reached
  settled-stands =
      let (l, q, v) = settled-values in
      let m : min (steps (length sizes) (rel_of sizes t)) budget ≡ r = omega arith in
      rw m at (table_stands_for_reached p refl)

  settled-settled : Settled (length sizes) (rounds (length sizes) r (rel_of sizes t))
  settled-settled = rw settled-values.1 (steps-settled settled-formed)

  -- "The settled table is the largest settled one inside the given one."
  pub settled_table_is_largest : Largest (length sizes) (rel_of sizes t) (rel_of sizes t')
  settled_table_is_largest =
      sound_largest (result_is_sound p refl)
      (agree_settled (length sizes) (rounds (length sizes) r (rel_of sizes t)) (rel_of sizes t')
      (agree_sym (length sizes) (rel_of sizes t') (rounds (length sizes) r (rel_of sizes t)) settled-stands) settled-settled)

  -- however that is reached, the words are these
  pub settled_table_is_one : (M : Rel) → Largest (length sizes) (rel_of sizes t) M → t' ≡ words (length sizes) M
  unfolding reached
  settled_table_is_one M l =
      let (h, q, v) = settled-values in
      let m : min (steps (length sizes) (rel_of sizes t)) budget ≡ r = omega arith in
      p.table ∙ (good-table settled-good budget ∙ rw m (words_same (length sizes) (rounds (length sizes) r (rel_of sizes t)) M
      (largest_unique (sound_largest (rounds_sound (length sizes) r (rel_of sizes t)) settled-settled) l)))

  -- "When the table is the settled form of an opening table, these are also the opening table's full readings", the first among them
  pub settled-keeps-first-reading : (order fixed y : ℕ → ℕ) → First (length sizes) order (rel_of sizes t) fixed y ↔ First (length sizes) order (rel_of sizes t') fixed y
  settled-keeps-first-reading = first_of_opening settled-formed settled_table_is_largest

  -- "Either all its cells hold a pair or all are empty": the flag tells which
  pub settled_flag_is_empty : e ≡ empty (length sizes) (rel_of sizes t')
  settled_flag_is_empty =
      let (h, q, v) = settled-values in
      val_same e _ v
      ∙ (ap (λ (k : ℕ). empty (length sizes) (rounds (length sizes) k (rel_of sizes t))) (sym q)
      ∙ sym (agree_empty (length sizes) (rel_of sizes t') (rounds (length sizes) r (rel_of sizes t)) settled-stands))

  pub settled_cells_hold_or_none : (i j : ℕ) → i < length sizes → j < length sizes → holds (rel_of sizes t') i j ≡ not e
  settled_cells_hold_or_none i j hi hj = rw settled_flag_is_empty (T_ext (holds (rel_of sizes t') i j) (not (empty (length sizes) (rel_of sizes t')))
      (λ u. filled_i (length sizes) (rel_of sizes t') i j hi hj u)
      (λ u. settled-filled (length sizes) (rel_of sizes t') settled_table_is_largest.settled u i j hi hj))

  -- "empty means no full reading"
  pub emptied_had_no_full_reading : e ≡ true → (y : ℕ → ℕ) → Full (length sizes) (rel_of sizes t) y → ⊥
  emptied_had_no_full_reading h y f =
      let u : T (empty (length sizes) (rel_of sizes t')) = rw (← settled_flag_is_empty, h) tt in
      empty_means_no_full_reading (result_is_good p refl).formed settled-good.good.good.some u y ((result_keeps_full_readings p refl y).0 f)

  -- "The rounds r never exceed the number of allowed pairs on or above the diagonal at the start, at most 123,392."
  pub settled_rounds_at_most_pairs : (r ≤ pairs (length sizes) (rel_of sizes t)) × (pairs (length sizes) (rel_of sizes t) ≤ rounds_most)
  settled_rounds_at_most_pairs = (rw settled-values.1 (steps-le settled-formed), omega (arith, pairs_most_lem settled-formed, pairs_most_limit (length sizes) settled-good.good.good.few))

  -- "A larger budget never alters a settled answer", nor the table, nor scratch
  pub larger_budget_same : (more : ℕ) → budget ≤ more → Settlement sizes t s more (settled_after r e) t' s'
  unfolding reached
  larger_budget_same more h =
      let (l, q, v) = settled-values in
      let m : min (steps (length sizes) (rel_of sizes t)) budget ≡ min (steps (length sizes) (rel_of sizes t)) more = omega arith in
      record {
        says = p.says
            ∙ (good-says settled-good budget ∙ (says-settled (length sizes) (rel_of sizes t) budget l
            ∙ sym (good-says settled-good more ∙ says-settled (length sizes) (rel_of sizes t) more (omega arith))));
        table = p.table ∙ (good-table settled-good budget ∙ (rw m (sym (good-table settled-good more))));
        scratch = p.scratch ∙ (good-scratch settled-good budget ∙ (rw m (sym (good-scratch settled-good more))));
      }

  -- settled once more, it needs no round, and stays
  pub settled_again : (u : List ℕ) (more : ℕ) → length u ≡ length s → Settlement sizes t' u more (settled_after 0 e) t' t'
  settled_again u more h =
      let g : GoodLent sizes t' u = record { good = result_is_good p refl; other = h ∙ settled-good.other } in
      let f : Fit t' = rw (p.table ∙ good-table settled-good budget) (words_fit_lem (length sizes) (reached (length sizes) (rel_of sizes t) budget)) in
      rw settled_flag_is_empty (settled_needs_no_round g f settled_table_is_largest.settled more)

-- 4. Unfinished: "Otherwise the answer is unfinished and the table holds the state after exactly the budgeted rounds."

module _ {sizes t s : List ℕ} {budget : ℕ} {t' s' : List ℕ} (p : Settlement sizes t s budget unfinished t' s') where
  unfinished-good : GoodLent sizes t s
  unfinished-good = answered_is_good p refl

  unfinished-short : budget < steps (length sizes) (rel_of sizes t)
  unfinished-short = elim (lt_or_ge budget (steps (length sizes) (rel_of sizes t))) [
    | inl l ↦ l
    | inr l ↦ absurd (filled (ap (λ (a : Said). a.values) (p.says ∙ (good-says unfinished-good budget ∙ says-settled (length sizes) (rel_of sizes t) budget l))))
  ]
    where
      filled : {a b : ℕ} → [] ≡ a ∷ b ∷ [] → ⊥
      filled v = let y : ◌≡◌ {A = ℕ} 0 1 = cc in omega arith

  -- each of the budgeted rounds changed something, and one more would
  pub unfinished_every_round_moved : Unfinished (length sizes) (rel_of sizes t) budget
  unfinished_every_round_moved = unfinished-steps unfinished-good.good.formed budget unfinished-short

  pub unfinished_holds_budgeted_rounds : t' ≡ words (length sizes) (rounds (length sizes) budget (rel_of sizes t))
  unfolding reached
  unfinished_holds_budgeted_rounds =
      let l = unfinished-short in
      let m : min (steps (length sizes) (rel_of sizes t)) budget ≡ budget = omega arith in
      p.table ∙ (rw m at (good-table unfinished-good budget))

  -- so a budget of 123,392 is never unfinished
  pub unfinished_budget_is_small : budget < rounds_most
  unfinished_budget_is_small = omega (arith, unfinished-short, steps_at_most_rounds_most unfinished-good.good.formed unfinished-good.good.good.few)

-- 5. A good table with scratch of its length is answered, and settled where the budget is 123,392 or more

pub good_is_not_refused : {sizes t s : List ℕ} {budget : ℕ} {q : Refusal} {t' s' : List ℕ} → GoodLent sizes t s → Settlement sizes t s budget (Err q) t' s' → ⊥
good_is_not_refused {sizes} {t} {s} {budget} {q} g p = elim (lt_or_ge budget (steps (length sizes) (rel_of sizes t))) [
  | inl l ↦ no_result q (p.says ∙ (good-says g budget ∙ says-unfinished (length sizes) (rel_of sizes t) budget l))
  | inr l ↦ no_result q (p.says ∙ (good-says g budget ∙ says-settled (length sizes) (rel_of sizes t) budget l))
]

pub large_budget_settles : {sizes t s : List ℕ} {budget : ℕ} {x : Settling} {t' s' : List ℕ} → GoodLent sizes t s → rounds_most ≤ budget
    → Settlement sizes t s budget x t' s' → (r : ℕ) × (e : Bool) × (x ≡ settled_after r e)
large_budget_settles {x = Ok (Some x)} g h p = (x.rounds, x.empty, refl)
large_budget_settles {x = Ok None} g h p = absurd (omega (arith, unfinished_budget_is_small p))
large_budget_settles {x = Err q} g h p = absurd (good_is_not_refused g p)

-- 6. The first row that a round would change: one answer, and none exactly of a settled table

pub first_changed_is_one : (n : ℕ) (R : Rel) (x y : Option Row) → said_changed x ≡ after_settled n R (says 0 []) → said_changed y ≡ after_settled n R (says 0 []) → x ≡ y
first_changed_is_one n R x y p q = changed_determined x y (p ∙ sym q)

pub nowhere_changed_iff_settled : (n : ℕ) (R : Rel) → Narrow n R → (x : Option Row) → said_changed x ≡ after_settled n R (says 0 []) → (x ≡ None) ↔ Settled n R
nowhere_changed_iff_settled n R w x p = (told-settled n R w p, λ s. changed_determined x None (p ∙ (check-settled n R w).passes s (says 0 [])))

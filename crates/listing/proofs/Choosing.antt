-- The days that the lister prints are those of the first reading that choosing finds, or none where it refuses.
use mathlib.Core.Path.{◌≡◌, refl, sym, ap, subst, ◌∙◌}
use mathlib.Core.Logic.{inl, inr}
use mathlib.Core.Bool.{not}
use mathlib.Core.List.{List, [], ◌++◌}
use Prim.Native.Nat.{ℕ, ◌≤◌, ◌<◌}
use native.Mathlib.Omega.{arith}
use lib.Dec.{T}
use lib.Ieee.Bits.{is_true, is_false}
use Rattle.std.specs.Prelude.{Result, Err}
use lib.ListN.{length, take, replicate, get_or-replicate}
use lib.Seq.{get_or-take}
use Rattle.theory.specs.BoundLaws.{known}
use Rattle.theory.specs.Relation.{Rel}
use Rattle.theory.proofs.RelationLaws.{pair_small}
use Rattle.theory.specs.Reading.{empty}
use Rattle.theory.specs.Choice.{by_number, Fixed, First}
use Rattle.theory.proofs.Theorems.{first_exists, first_is_one}
use Rattle.refusal.specs.Said.{Said}
use Rattle.refusal.specs.declared.Refusal.{Refusal}
use Rattle.table.specs.Layout.{rel, size_of}
use Rattle.table.specs.AnswerLaws.{no_result}
use Rattle.table.specs.Shape.{GoodTable}
use Rattle.table.specs.ShapeLaws.{check_shape}
use Rattle.judge.specs.Asked.{rows_says}
use Rattle.judge.specs.Theorems.{Judged, all_whole, first_broken, rows_are_judged, whole_is_said_iff_whole}
use Rattle.choose.specs.Choosing.{choice_of}
use Rattle.choose.specs.Answers.{said_choice, chosen, Chooses}
use Rattle.choose.specs.Theorems.{chosen-passed, never_refuses_free}
use Rattle.text.specs.Text.{said, line_feed, first_line}
use Rattle.text.specs.TextLaws.{first_some}
use Rattle.listing.specs.ListingLaws.{days-length}
use Rattle.listing.specs.Listing.{days_of, broken_place, chosen_days, Answered, Ended}
use Rattle.listing.specs.SameLaws.{days_same}

-- the place that judging names
place_of : (sizes t : List ℕ) → GoodTable sizes t → (rows_says sizes t).values ≡ broken_place (length sizes) (size_of sizes) (rel (length sizes) t)
unfolding rows_says broken_place
place_of sizes t g = ap (λ (s : Said). s.values) ((check_shape sizes t).passes g _)

-- nothing is fixed
abbrev pub Free : List ℕ → List ℕ → Type 0
Free sizes fixed = (f : ℕ) → f < length sizes → choice_of fixed f ≡ 255

pub all-free : (sizes : List ℕ) → length sizes ≤ 16 → Free sizes (take (length sizes) (replicate 16 255))
all-free sizes h f l = get_or-take (length sizes) (replicate 16 255) f 0 l ∙ get_or-replicate 16 f 255 0 (omega arith)

module _ {sizes t days fixed before after : List ℕ} {x : Result Unit Refusal} (g : Ended sizes t days) (p : Chooses sizes t fixed before after x) (free : Free sizes fixed) where
  told : {y : Result Unit Refusal} → x ≡ y → Chooses sizes t fixed before after y
  told e = subst (Chooses sizes t fixed before after) e p

  module _ (e : x ≡ chosen) where
    -- with nothing fixed no reading is asked for
    first-free : First (length sizes) by_number (rel (length sizes) t) (λ f. 255) (choice_of after)
    first-free = record {
      full = (told e).holds.full;
      keeps = λ i h k. absurd k;
      least = λ y full keeps. (told e).holds.least y full (λ i h k. absurd (subst (λ (v : ℕ). Fixed (λ f. v) i) (free i h) k));
    }

    chosen-days-are : (day : ℕ → ℕ → ℕ) → chosen_days (length sizes) (size_of sizes) day (rel (length sizes) t) ≡ days_of (length sizes) day (choice_of after)
    unfolding chosen_days
    chosen-days-are day =
        let n = length sizes in
        let R = rel n t in
        let a = (chosen-passed (told e)).0 in
        let whole : broken_place n (size_of sizes) R ≡ [] = sym (place_of sizes t g.good) ∙ ap (λ (s : Said). s.values) ((whole_is_said_iff_whole sizes t g.good).1 a.whole) in
        let first = first_exists g.good.formed g.settled a.filled a.whole (λ f. 255) (λ i j hi hj k. absurd k) in
        rw (is_false (empty n R) a.filled, whole) (days_same n day _ _ (first_is_one first first-free))

    pub chosen_line : (day : ℕ → ℕ → ℕ) → length after ≡ length sizes
        → first_line (chosen_days (length sizes) (size_of sizes) day (rel (length sizes) t)) ≡ said "first" (days_of (length after) day (choice_of after)) ++ line_feed
    chosen_line day l =
        let days = days_of (length after) day (choice_of after) in
        ap first_line (chosen-days-are day ∙ ap (λ (n : ℕ). days_of n day (choice_of after)) (sym l))
        ∙ first_some days (omega (arith, days-length (length after) day (choice_of after), g.good.good.some))

    pub answered : length after ≡ length sizes → Answered after days
    answered l = record {
      long = rw l g.long;
      small = λ i h. (pair_small g.good.formed i i _ _ (rw l at h) (rw l at h) ((told e).holds.full i i (rw l at h) (rw l at h))).0;
    }

  pub none_chosen : {q : Refusal} → x ≡ Err q → length fixed ≡ length sizes → length before ≡ length sizes
      → (day : ℕ → ℕ → ℕ) → chosen_days (length sizes) (size_of sizes) day (rel (length sizes) t) ≡ []
  unfolding chosen_days
  none_chosen {q} e h l day = elim (known (empty n R)) [ inl z ↦ rw (is_true (empty n R) z) refl | inr z ↦ filled z (rows_says sizes t) (rows_are_judged sizes t g.good) (place_of sizes t g.good) ]
    where
      n : ℕ
      n = length sizes

      R : Rel
      R = rel (length sizes) t

      never : Err q ≡ chosen → ⊥
      never c = no_result q (ap said_choice c)

      filled : T (not (empty n R)) → (s : Said) → Judged n (size_of sizes) R s → s.values ≡ broken_place n (size_of sizes) R → chosen_days n (size_of sizes) day R ≡ []
      filled z s (all_whole w) v = absurd (never (sym e ∙ never_refuses_free p g.good h l g.settled z w free))
      filled z s (first_broken f) v = rw (is_false (empty n R) z, ← v) refl

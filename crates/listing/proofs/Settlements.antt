-- The text of an opening table is that of the table that settling leaves.
use mathlib.Core.Path.{◌≡◌, refl, ap, subst, ◌∙◌}
use mathlib.Core.List.{List}
use Prim.Native.Nat.{ℕ, ◌≤◌, ◌*◌}
use native.Mathlib.Omega.{arith}
use lib.ListN.{length}
use Rattle.theory.specs.Limits.{readings_most, rounds_most}
use Rattle.theory.specs.Relation.{rounds}
use Rattle.theory.proofs.RelationLaws.{largest_unique}
use Rattle.theory.specs.Settling.{steps}
use Rattle.theory.proofs.Theorems.{settled_iff_enough, settled_answer_is_largest, budget_rounds_most_settles}
use Rattle.refusal.specs.declared.Refusal.{Refusal}
use Rattle.table.specs.Layout.{rel, size_of}
use Rattle.std.specs.Prelude.{Some, Ok, Err}
use Rattle.settle.specs.declared.Settled.{Settled}
use Rattle.settle.specs.Settle.{Settling, Settlement, GoodLent, unfinished}
use Rattle.settle.specs.Theorems.{result_is_good, settled_says_least_rounds, settled_table_is_largest, settled_rounds_at_most_pairs, unfinished_budget_is_small, good_is_not_refused}
use Rattle.listing.specs.Listing.{kept_days, broken_place, chosen_days, lines_of, settled_lines, opened_text, Ended}
use Rattle.listing.specs.SameLaws.{lines_same}

module _ {sizes t s t' s' : List ℕ} {x : Settling} (p : Settlement sizes t s rounds_most x t' s') where
  told : {y : Settling} → x ≡ y → Settlement sizes t s rounds_most y t' s'
  told e = subst (λ (z : Settling). Settlement sizes t s rounds_most z t' s') e p

  pub never_unfinished : x ≡ unfinished → ⊥
  never_unfinished e = omega (arith, unfinished_budget_is_small (told e))

  pub never_refused : {q : Refusal} → GoodLent sizes t s → x ≡ Err q → ⊥
  never_refused g e = good_is_not_refused g (told e)

  module _ {a : Settled} (g : GoodLent sizes t s) (e : x ≡ Ok (Some a)) where
    pub ended : (days : List ℕ) → length sizes * readings_most ≤ length days → Ended sizes t' days
    ended days h = record { good = result_is_good (told e) refl; settled = (settled_table_is_largest (told e)).settled; long = h }

    pub few_rounds : a.rounds ≤ rounds_most
    few_rounds = let p = settled_rounds_at_most_pairs (told e) in omega (arith, p.0, p.1)

    pub text-left : (day : ℕ → ℕ → ℕ) → settled_lines sizes t' day a.rounds ≡ opened_text (length sizes) (size_of sizes) day (rel (length sizes) t)
    unfolding opened_text
    text-left day =
        let n = length sizes in
        let R = rel n t in
        let M = rounds n (steps n R) R in
        let largest = settled_answer_is_largest (budget_rounds_most_settles g.good.formed g.good.good.few) in
        lines_same n (size_of sizes) day (rel n t') M (largest_unique (settled_table_is_largest (told e)) largest) a.rounds
        ∙ ap (λ (q : ℕ). lines_of n q (kept_days M day) (broken_place n (size_of sizes) M) (chosen_days n (size_of sizes) day M))
        ((settled_iff_enough g.good.formed rounds_most a.rounds).0 (settled_says_least_rounds (told e))).0

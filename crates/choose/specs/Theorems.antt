-- What follows from the promise of choosing alone, each theorem beside the sentence of 01 that it carries.
use Rattle.std.specs.Prelude.{◌≡◌, ◌↔◌, not, List, [], ℕ, ◌<◌, T, length, Result, Ok, Err}
use Rattle.std.proofs.Common.{sym, ap, ◌∙◌, subst, inl, inr, le_refl, arith, ext_get_or, lt-ltb}
use Rattle.theory.specs.BoundLaws.{lt_or_ge, first_same}
use Rattle.theory.specs.Relation.{Settled, Largest}
use Rattle.theory.specs.Reading.{Full, empty}
use Rattle.theory.specs.Rows.{WholeRows}
use Rattle.theory.specs.Choice.{by_number, Fixed, Keeps, left, Walked, walk, clash_from}
use Rattle.theory.proofs.ChoiceLaws.{left_same, walk_walked, clash-le, no_clash, keeps_allowed}
use Rattle.theory.proofs.Theorems as theory
use Rattle.refusal.specs.Said.{Said, says}
use Rattle.refusal.specs.declared.Refusal.{Refusal}
use Rattle.table.specs.Layout.{size_of}
use Rattle.table.specs.CheckLaws.{passed}
use Rattle.table.specs.Shape.{GoodTable}
use Rattle.table.specs.AnswerLaws.{no_result, shaped_determined}
use Rattle.settle.specs.Settle.{rel_of}
use Rattle.choose.specs.Choosing.{choice_of, after_clash, Ready, Agreed, FirstOf}
use Rattle.choose.specs.ChoosingLaws.{check_ready, check-clash, check_choose}
use Rattle.choose.specs.Answers.{said_choice, chosen, Chooses}

-- 1. What is said determines the answer, and the promise the answer and the buffer

pub choice_determined : (x y : Result Unit Refusal) → said_choice x ≡ said_choice y → x ≡ y
choice_determined = shaped_determined

-- what is chosen has passed every check
pub chosen-passed : {sizes t fixed before after : List ℕ} → Chooses sizes t fixed before after chosen → Ready sizes t fixed (length before) × Agreed sizes t fixed
chosen-passed {sizes} {t} {fixed} {before} p = passed (check_choose sizes t fixed (length before)) p.says

pub one_answer : {sizes t fixed before after after' : List ℕ} {r r' : Result Unit Refusal} → Chooses sizes t fixed before after r → Chooses sizes t fixed before after' r'
    → (r ≡ r') × (after ≡ after')
one_answer {sizes} {t} {fixed} {before} {after} {after'} {r} {r'} p q = (choice_determined r r' (p.says ∙ sym q.says), same r r' p q (p.says ∙ sym q.says))
  where
    same : (r r' : Result Unit Refusal) → Chooses sizes t fixed before after r → Chooses sizes t fixed before after' r' → said_choice r ≡ said_choice r' → after ≡ after'
    same (Ok _) (Ok _) p q e = ext_get_or 0 after after' (p.long ∙ sym q.long) (λ i h. theory.first_is_one p.holds q.holds i (omega (arith, p.long, (chosen-passed p).0.lent)))
    same (Ok _) (Err k) p q e = absurd (no_result k (sym e))
    same (Err k) (Ok _) p q e = absurd (no_result k e)
    same (Err k) (Err l) p q e = p.holds ∙ sym q.holds

-- 2. What is chosen: "the first full reading, compared field by field from field 0, among all that keep the fixed readings"

module _ {sizes t fixed before after : List ℕ} (p : Chooses sizes t fixed before after chosen) where
  pub chosen-first : FirstOf sizes t fixed after
  chosen-first = p.holds

  pub chosen-full : Full (length sizes) (rel_of sizes t) (choice_of after)
  chosen-full = p.holds.full

  pub chosen-keeps : Keeps (length sizes) (choice_of fixed) (choice_of after)
  chosen-keeps = p.holds.keeps

  -- it is what the walk takes: at each field the lowest reading that is left
  pub chosen_walked : Walked (length sizes) by_number (size_of sizes) (rel_of sizes t) (choice_of fixed) (choice_of after) (length sizes)
  chosen_walked q h =
      same q h
      ∙ (walk_walked n by_number (size_of sizes) (rel_of sizes t) (choice_of fixed) (theory.field_order n) n (le_refl n) q h
      ∙ first_same (size_of sizes q) _ _ (λ b l. left_same n by_number (rel_of sizes t) (choice_of fixed) x (choice_of after) q b (λ k m. sym (same k (omega arith)))))
    where
      n : ℕ
      n = length sizes

      x : ℕ → ℕ
      x = walk n by_number (size_of sizes) (rel_of sizes t) (choice_of fixed) n

      same : (i : ℕ) → i < length sizes → choice_of after i ≡ x i
      same i h =
          let a = chosen-passed p in
          theory.first_is_one p.holds (theory.first_exists a.0.good.formed a.0.settled a.0.filled a.0.whole (choice_of fixed) a.1) i h

  -- and at every field of the walk at least one reading is left to take
  pub chosen-left : (f : ℕ) → f < length sizes → (b : ℕ) × (b < size_of sizes f) × T (left (length sizes) by_number (rel_of sizes t) (choice_of fixed) (choice_of after) f b)
  chosen-left f h =
      let a = chosen-passed p in
      theory.walk_finds_a_reading a.0.good.formed a.0.settled a.0.filled a.0.whole (choice_of fixed) a.1 (choice_of after) f h (λ q l. chosen_walked q (omega arith))

  -- "When the table is the settled form of an opening table, these are also the opening table's full readings."
  pub chosen_of_opening : (opening : List ℕ) → GoodTable sizes opening → Largest (length sizes) (rel_of sizes opening) (rel_of sizes t) → FirstOf sizes opening fixed after
  chosen_of_opening opening g l = (theory.first_of_opening g.formed l by_number (choice_of fixed) (choice_of after)).1 p.holds

module _ {sizes t fixed before after : List ℕ} {r : Result Unit Refusal} (p : Chooses sizes t fixed before after r) where
  -- 3. Demand 3: with its premises choosing never refuses, and at every field of its walk at least one reading is left to take

  pub never_refuses : Ready sizes t fixed (length before) → Agreed sizes t fixed → r ≡ chosen
  never_refuses a b = choice_determined r chosen (p.says ∙ (check_choose sizes t fixed (length before)).passes (a, b) (says 0 []))

  pub always_one_left : Ready sizes t fixed (length before) → Agreed sizes t fixed → (f : ℕ) → f < length sizes
      → (b : ℕ) × (b < size_of sizes f) × T (left (length sizes) by_number (rel_of sizes t) (choice_of fixed) (choice_of after) f b)
  always_one_left a b = chosen-left (subst (λ (x : Result Unit Refusal). Chooses sizes t fixed before after x) (never_refuses a b) p)

  -- with nothing fixed in particular
  pub never_refuses_free : GoodTable sizes t → length fixed ≡ length sizes → length before ≡ length sizes
      → Settled (length sizes) (rel_of sizes t) → T (not (empty (length sizes) (rel_of sizes t))) → WholeRows (length sizes) (size_of sizes) (rel_of sizes t)
      → ((f : ℕ) → f < length sizes → choice_of fixed f ≡ 255) → r ≡ chosen
  never_refuses_free g h l s e w nothing = never_refuses
      (record { good = g; held = h; lent = l; settled = s; filled = e; whole = w; bytes = λ f k q. absurd (unfixed f k q) })
      (λ i j hi hj q. absurd (unfixed i hi q))
    where
      unfixed : (f : ℕ) → f < length sizes → Fixed (choice_of fixed) f → ⊥
      unfixed f k q = rw (nothing f k) at q

  -- 4. "Refusal 12 is given exactly when no full reading keeps the fixed readings, the earlier checks having passed."

  pub twelve_exactly : Ready sizes t fixed (length before) → ((said_choice r).state ≡ 12) ↔ ((y : ℕ → ℕ) → Full (length sizes) (rel_of sizes t) y → Keeps (length sizes) (choice_of fixed) y → ⊥)
  unfolding after_clash
  twelve_exactly a = (none, twelve)
    where
      said : said_choice r ≡ after_clash (length sizes) (rel_of sizes t) (choice_of fixed) (says 0 [])
      said = p.says ∙ (check_ready sizes t fixed (length before)).passes a _

      none : (said_choice r).state ≡ 12 → (y : ℕ → ℕ) → Full (length sizes) (rel_of sizes t) y → Keeps (length sizes) (choice_of fixed) y → ⊥
      none e y full keeps =
          let ok = keeps_allowed (length sizes) (rel_of sizes t) (choice_of fixed) y full keeps in
          let z : (said_choice r).state ≡ 0 = ap (λ (s : Said). s.state) (said ∙ (check-clash a.good.formed (choice_of fixed)).passes ok (says 0 [])) in
          omega arith

      twelve : ((y : ℕ → ℕ) → Full (length sizes) (rel_of sizes t) y → Keeps (length sizes) (choice_of fixed) y → ⊥) → (said_choice r).state ≡ 12
      twelve d = elim (lt_or_ge (clash_from (length sizes) (rel_of sizes t) (choice_of fixed)) (length sizes)) [
        | inl h ↦ ap (λ (s : Said). s.state) said ∙ rw (lt-ltb _ _ h)
        | inr h ↦
            let ok : Agreed sizes t fixed = (no_clash a.good.formed (choice_of fixed)).0 (omega (arith, clash-le (length sizes) (rel_of sizes t) (choice_of fixed))) in
            let f = theory.first_exists a.good.formed a.settled a.filled a.whole (choice_of fixed) ok in
            absurd (d _ f.full f.keeps)
      ]

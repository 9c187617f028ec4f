-- What is said of a cell to show, where each check ends, and the words that go with it.
use mathlib.Core.Path.{◌≡◌, refl, sym, ap, ◌∙◌}
use mathlib.Core.Bool.{Bool, true, false, cond}
use mathlib.Core.List.{List, [], ◌∷◌}
use Prim.Native.Nat.{ℕ, ◌≤◌, ◌<◌}
use native.Mathlib.Omega.{arith}
use lib.ListN.{length, get_or}
use Rattle.std.specs.Prelude.{Result, Ok, Err}
use denote.Ref.{Bor}
use borrow.Author.Tests.{eq-eqb, ne_eqb}
use Rattle.theory.specs.Bound.{val}
use Rattle.refusal.specs.Said.{Said, says, refused}
use Rattle.refusal.specs.declared.Refusal.{Refusal}
use Rattle.table.specs.Layout.{table_length, cell_start, cell_of}
use Rattle.table.specs.LayoutLaws.{Fit}
use Rattle.table.specs.Post.{CellWords}
use Rattle.table.specs.CheckLaws.{answered}
use Rattle.table.specs.AnswerLaws.{no_result}
use Rattle.table.specs.Shape.{after_sizes, GoodSizes}
use Rattle.table.specs.ShapeLaws.{check-sizes}
use Rattle.table.proofs.Says.{length_wrong, length-right}
use Rattle.judge.specs.declared.showing.Shown.{Shown}
use Rattle.judge.specs.declared.showing.Shown.TheVariants.{Settled, Opening}
use Rattle.judge.specs.Bits.{no_bit}
use Rattle.judge.specs.Asked.{after_show, from_opening, show_says, shown_words, GoodShow}
use Rattle.judge.specs.AskedLaws.{field_no, field_yes, check_show}
use Rattle.judge.specs.Answers.{said_shown}
use Rattle.judge.proofs.Zeros.{no_bit_empty}

val_same : (a b : Bool) → val a ≡ val b → a ≡ b
val_same true true e = refl
val_same true false e = absurd (omega arith)
val_same false true e = absurd (omega arith)
val_same false false e = refl

module _ (sizes opening settled : List ℕ) (i j : ℕ) where
  module _ (good : GoodSizes sizes) where
    on : (rest : Said) → rest ≡ after_sizes sizes rest
    on rest = sym ((check-sizes sizes).passes good rest)

    pub show_opening_length : (length opening ≡ table_length (length sizes) → ⊥) → says 3 [] ≡ show_says sizes opening settled i j
    unfolding show_says after_show
    show_opening_length h = length_wrong (length sizes) opening _ h ∙ on _

    module _ (long : length opening ≡ table_length (length sizes)) where
      pub show_settled_length : (length settled ≡ table_length (length sizes) → ⊥) → says 3 [] ≡ show_says sizes opening settled i j
      unfolding show_says after_show
      show_settled_length h = length_wrong (length sizes) settled _ h ∙ length-right (length sizes) opening _ long ∙ on _

      module _ (also : length settled ≡ table_length (length sizes)) where
        pub show_no_first : length sizes ≤ i → says 24 [] ≡ show_says sizes opening settled i j
        unfolding show_says after_show
        show_no_first h = field_no (length sizes) i h _ ∙ length-right (length sizes) settled _ also ∙ length-right (length sizes) opening _ long ∙ on _

        pub show_no_second : i < length sizes → length sizes ≤ j → says 24 [] ≡ show_says sizes opening settled i j
        unfolding show_says after_show
        show_no_second hi h = field_no (length sizes) j h _ ∙ field_yes (length sizes) i hi _ ∙ length-right (length sizes) settled _ also ∙ length-right (length sizes) opening _ long ∙ on _

        pub show_from : {at : ℕ} (from b : Bool) → Fit settled → i < length sizes → j < length sizes → at ≡ cell_start (length sizes) i j → from ≡ no_bit settled → from ≡ b
            → says 0 (val b ∷ at ∷ []) ≡ show_says sizes opening settled i j
        unfolding show_says after_show
        show_from from b fit hi hj e f c =
            ap (λ (x : ℕ). says 0 (val b ∷ x ∷ [])) e
            ∙ ap (λ (x : Bool). says 0 (val x ∷ cell_start (length sizes) i j ∷ [])) (sym c ∙ f ∙ no_bit_empty (length sizes) settled also fit)
            ∙ field_yes (length sizes) j hj _ ∙ field_yes (length sizes) i hi _ ∙ length-right (length sizes) settled _ also ∙ length-right (length sizes) opening _ long ∙ on _

-- what an answer tells of the words that are shown
module _ (sizes opening settled : List ℕ) (i j : ℕ) (x : Result Shown Refusal) (e : said_shown x ≡ show_says sizes opening settled i j) where
  given : {v : List ℕ} → said_shown x ≡ says 0 v → GoodShow sizes opening settled i j × (v ≡ val (from_opening (length sizes) settled) ∷ cell_start (length sizes) i j ∷ [])
  unfolding show_says
  given h = answered (check_show sizes opening settled i j) (sym h ∙ e)

  from : {v : List ℕ} → said_shown x ≡ says 0 v → (b : Bool) → get_or v 0 0 ≡ val b → cell_of (length sizes) (cond b opening settled) i j ≡ shown_words sizes opening settled i j
  unfolding shown_words
  from h b f = sym (
      ap (λ (k : Bool). cond k (cell_of (length sizes) (cond (from_opening (length sizes) settled) opening settled) i j) [])
      (eq-eqb (show_says sizes opening settled i j).state 0 (ap (λ (s : Said). s.state) (sym e ∙ h)))
      ∙ ap (λ (k : Bool). cell_of (length sizes) (cond k opening settled) i j) (val_same (from_opening (length sizes) settled) b (sym (ap (λ (v : List ℕ). get_or v 0 0) (given h).1) ∙ f)))

  pub told_show : {y : Result Shown Refusal} → x ≡ y → {v : List ℕ} → said_shown y ≡ says 0 v → GoodShow sizes opening settled i j
  told_show h k = (given (ap said_shown h ∙ k)).0

  pub told-opening : {at : ℕ} → x ≡ Ok (Opening at) → {s : List ℕ} → CellWords (length sizes) opening i j s → s ≡ shown_words sizes opening settled i j
  told-opening h c = c.words ∙ from (ap said_shown h) true refl

  pub told-settled : {at : ℕ} → x ≡ Ok (Settled at) → {s : List ℕ} → CellWords (length sizes) settled i j s → s ≡ shown_words sizes opening settled i j
  told-settled h c = c.words ∙ from (ap said_shown h) false refl

  pub told_none : (q : Refusal) → x ≡ Err q → [] ≡ shown_words sizes opening settled i j
  unfolding shown_words
  told_none q h = sym (ap (λ (k : Bool). cond k (cell_of (length sizes) (cond (from_opening (length sizes) settled) opening settled) i j) [])
      (ne_eqb (show_says sizes opening settled i j).state 0 (λ z. no_result q {v = (refused q).values}
      (ap (λ (k : ℕ). says k (refused q).values) (ap (λ (s : Said). s.state) (sym (ap said_shown h) ∙ e) ∙ z)))))

-- the settled table at another lifetime is the same table
pub shown_near : (sizes opening : List ℕ) (i j : ℕ) {near far : Bor (List ℕ)} → near ≡ far → shown_words sizes opening near.now i j ≡ shown_words sizes opening far.now i j
shown_near sizes opening i j = ap (λ (x : Bor (List ℕ)). shown_words sizes opening x.now i j)

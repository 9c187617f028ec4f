-- Tables that allow the same, and days that are the same, have the same text.
use Rattle.std.proofs.Common.{lt-ltb, le-ltb, sym, ◌∙◌, inl, inr, le_refl, arith, subst}
use Rattle.std.specs.Prelude.{◌≡◌, refl, Bool, true, false, T, ltb}
use Rattle.std.proofs.Math.Path.{ap, ap₂, fun_ext}
use Rattle.std.proofs.Math.Bool.{cond, not}
use mathlib.Core.List.{List, [], ◌∷◌, ◌++◌}
use Prim.Native.Nat.{ℕ, zero, suc, ◌≤◌, ◌<◌}
use Rattle.theory.specs.Limits.{readings_most}
use Rattle.theory.specs.Bound.{first}
use Rattle.theory.specs.BoundLaws.{lt_or_ge, first_same}
use Rattle.theory.specs.Relation.{Rel, WellFormed, Agree, Settled, rounds}
use Rattle.theory.proofs.RelationLaws.{pair_small, rounds_wf}
use Rattle.theory.proofs.AgreeLaws.{agree_empty, agree_walked, agree_rounds, agree_steps}
use Rattle.theory.specs.Reading.{kept, empty}
use Rattle.theory.specs.Rows.{whole, WholeRows}
use Rattle.theory.proofs.RowsLaws.{stands_agree}
use Rattle.theory.specs.Choice.{by_number, Same, walk}
use Rattle.theory.proofs.ChoiceLaws.{walk_walked, walked_unique}
use Rattle.theory.proofs.Theorems.{field_order, first_exists}
use Rattle.refusal.specs.Said.{says}
use Rattle.table.specs.Layout.{RowIn, search_rows, search_row, at}
use Rattle.table.specs.LayoutLaws.{row_in, search_is_table}
use Rattle.table.specs.CheckLaws.{passed}
use Rattle.table.specs.Shape.{row_place}
use Rattle.judge.specs.Asked.{broken_row}
use Rattle.choose.specs.ChoosingLaws.{check-whole}
use Rattle.text.specs.Text.{joined, state_line, rounds_line, field_line, rows_line, first_line}
use Rattle.listing.specs.Listing.{kept_days, days_of, broken_place, where_whole, chosen_days, lines_of, opened_text}
use Rattle.theory.specs.Settling.{steps}
use Rattle.theory.proofs.SettlingLaws.{steps-settled}

pub joined_same : (k : ℕ) (f g : ℕ → List ℕ) → ((i : ℕ) → i < k → f i ≡ g i) → joined k f ≡ joined k g
unfolding joined
joined_same zero f g e = refl
joined_same (suc k) f g e = ap₂ ◌++◌ (joined_same k f g (λ i h. e i (omega arith))) (e k (omega arith))

pub days_same : (n : ℕ) (day : ℕ → ℕ → ℕ) (x y : ℕ → ℕ) → Same n by_number x y → days_of n day x ≡ days_of n day y
unfolding days_of
days_same n day x y e = joined_same n (λ i. day i (x i) ∷ []) (λ i. day i (y i) ∷ []) (λ i h. ap (λ (a : ℕ). day i a ∷ []) (e i h))

-- the fields of a row that is searched are fields
pub search_in : (n p : ℕ) → p < search_rows n → RowIn n (search_row n p)
search_in n p h = rw (search_is_table n p) (row_in n p h)

-- the number of the first broken row in the search
abbrev pub searched : ℕ → (ℕ → ℕ) → Rel → ℕ
searched n size M = first (search_rows n) (λ p. at (broken_row size M) (search_row n p))

module _ (n : ℕ) (size : ℕ → ℕ) (M : Rel) where
  by-test : Bool → List ℕ
  by-test b = (cond b (says 0 (row_place (search_row n (searched n size M)))) (says 0 [])).values

  pub broken_some : searched n size M < search_rows n → broken_place n size M ≡ row_place (search_row n (searched n size M))
  unfolding broken_place by-test
  broken_some h = ap by-test (lt-ltb (searched n size M) (search_rows n) h)

  pub broken_none : search_rows n ≤ searched n size M → broken_place n size M ≡ []
  unfolding broken_place by-test
  broken_none h = ap by-test (le-ltb (searched n size M) (search_rows n) h)

-- lines of the same parts are the same
pub lines_alike : {n r r' : ℕ} {k k' : ℕ → List ℕ} {b b' c c' : List ℕ} → r ≡ r' → ((i : ℕ) → i < n → k i ≡ k' i) → b ≡ b' → c ≡ c' → lines_of n r k b c ≡ lines_of n r' k' b' c'
unfolding lines_of
lines_alike {n} {k = k} {k' = k'} q e f g =
    ap₂ (λ (u v : List ℕ). state_line (says 0 []) ++ (u ++ v)) (ap rounds_line q)
    (ap₂ ◌++◌ (joined_same n (λ i. field_line i (k i)) (λ i. field_line i (k' i)) (λ i h. ap (field_line i) (e i h)))
    (ap₂ ◌++◌ (ap rows_line f) (ap first_line g)))

module _ (n : ℕ) (size : ℕ → ℕ) (day : ℕ → ℕ → ℕ) (R S : Rel) (e : Agree n R S) where
  pub kept_same : (i : ℕ) → i < n → kept_days R day i ≡ kept_days S day i
  unfolding kept_days
  kept_same i h = joined_same readings_most _ _ (λ a k. ap (λ (b : Bool). cond b (day i a ∷ []) []) (e i i a a h h))

  row_same : (i j a : ℕ) → i < n → j < n → broken_row size R i j a ≡ broken_row size S i j a
  unfolding broken_row
  row_same i j a hi hj = ap not (ap₂ whole (fun_ext (λ b. stands_agree n R S e size j b hj)) (fun_ext (λ b. e i j a b hi hj)))

  pub broken_same : broken_place n size R ≡ broken_place n size S
  unfolding broken_place
  broken_same =
      ap (λ (k : ℕ). (cond (ltb k (search_rows n)) (says 0 (row_place (search_row n k))) (says 0 [])).values)
      (first_same (search_rows n) (λ p. at (broken_row size R) (search_row n p)) (λ p. at (broken_row size S) (search_row n p))
      (λ p h. let r = search_in n p h in row_same (search_row n p).i (search_row n p).j (search_row n p).a r.first r.second))

  walk_same : Same n by_number (walk n by_number size R (λ f. 255) n) (walk n by_number size S (λ f. 255) n)
  walk_same =
      walked_unique n by_number size S (λ f. 255) _ _ n
      (agree_walked n R S e by_number size (λ f. 255) _ (field_order n) n (le_refl n) (walk_walked n by_number size R (λ f. 255) (field_order n) n (le_refl n)))
      (walk_walked n by_number size S (λ f. 255) (field_order n) n (le_refl n))

  pub chosen_same : chosen_days n size day R ≡ chosen_days n size day S
  unfolding chosen_days
  chosen_same = ap₂ (λ (b : Bool) (l : List ℕ). cond b [] l) (agree_empty n R S e) (ap₂ where_whole broken_same (days_same n day _ _ walk_same))

  pub lines_same : (r : ℕ) → lines_of n r (kept_days R day) (broken_place n size R) (chosen_days n size day R) ≡ lines_of n r (kept_days S day) (broken_place n size S) (chosen_days n size day S)
  lines_same r = lines_alike refl kept_same broken_same chosen_same

-- days that are the same for every reading

-- where no row is named, the rows are whole
pub unbroken : {n : ℕ} {size : ℕ → ℕ} {M : Rel} → WellFormed n size M → broken_place n size M ≡ [] → WholeRows n size M
unbroken {n} {size} {M} w e = passed (check-whole w) (elim (lt_or_ge (searched n size M) (search_rows n)) [
  | inl h ↦ absurd (filled (sym (broken_some n size M h) ∙ e))
  | inr h ↦ ap (λ (b : Bool). cond b (says 10 (row_place (search_row n (searched n size M)))) (says 0 [])) (sym (le-ltb (searched n size M) (search_rows n) h))
])
  where
    filled : {v : ℕ} {vs : List ℕ} → v ∷ vs ≡ [] → ⊥
    filled q = let z : ◌≡◌ {A = ℕ} 0 1 = cc in omega arith

module _ (n : ℕ) (size : ℕ → ℕ) (M : Rel) (day day' : ℕ → ℕ → ℕ) (d : (i a : ℕ) → i < n → a < readings_most → day i a ≡ day' i a) where
  pub dated_kept : (i : ℕ) → i < n → kept_days M day i ≡ kept_days M day' i
  unfolding kept_days
  dated_kept i h = joined_same readings_most _ _ (λ a k. ap (λ (v : ℕ). cond (kept M i a) (v ∷ []) []) (d i a h k))

  pub dated_chosen : WellFormed n size M → Settled n M → chosen_days n size day M ≡ chosen_days n size day' M
  unfolding chosen_days days_of
  dated_chosen w s = go (empty n M) (broken_place n size M) (λ e. e) (λ e. e)
    where
      x : ℕ → ℕ
      x = walk n by_number size M (λ f. 255) n

      go : (b : Bool) (l : List ℕ) → (T (not b) → T (not (empty n M))) → (l ≡ [] → broken_place n size M ≡ [])
          → cond b [] (where_whole l (days_of n day x)) ≡ cond b [] (where_whole l (days_of n day' x))
      go true l f g = refl
      go false (v ∷ vs) f g = refl
      go false [] f g =
          let full = (first_exists w s (f tt) (unbroken w (g refl)) (λ f. 255) (λ i j hi hj k. absurd k)).full in
          joined_same n (λ i. day i (x i) ∷ []) (λ i. day' i (x i) ∷ []) (λ i h. ap (λ (v : ℕ). v ∷ []) (d i (x i) h (pair_small w i i (x i) (x i) h h (full i i h h)).0))

  pub dated_lines : WellFormed n size M → Settled n M
      → (r : ℕ) → lines_of n r (kept_days M day) (broken_place n size M) (chosen_days n size day M) ≡ lines_of n r (kept_days M day') (broken_place n size M) (chosen_days n size day' M)
  dated_lines w s r = lines_alike refl dated_kept refl (dated_chosen w s)

-- whichever table a line is of, the one given or the one that settling leaves, it is the same
pub opened_same : (n : ℕ) (size : ℕ → ℕ) (day : ℕ → ℕ → ℕ) (R S : Rel) → Agree n R S → opened_text n size day R ≡ opened_text n size day S
unfolding opened_text
opened_same n size day R S e =
    let q : steps n R ≡ steps n S = agree_steps n R S e in
    let a : Agree n (rounds n (steps n R) R) (rounds n (steps n S) S) =
    subst (λ (r : ℕ). Agree n (rounds n (steps n R) R) (rounds n r S)) q (agree_rounds n (steps n R) R S e) in
    lines_alike q (kept_same n size day _ _ (search (a, e))) (broken_same n size day _ _ (search (a, e))) (chosen_same n size day _ _ (search (a, e)))

pub opened_dated : (n : ℕ) (size : ℕ → ℕ) (R : Rel) → WellFormed n size R
    → (day day' : ℕ → ℕ → ℕ) → ((i a : ℕ) → i < n → a < readings_most → day i a ≡ day' i a) → opened_text n size day R ≡ opened_text n size day' R
unfolding opened_text
opened_dated n size R w day day' d =
    let M = rounds n (steps n R) R in
    lines_alike refl (dated_kept n size _ day day' d) refl (dated_chosen n size M day day' d (rounds_wf (steps n R) w) (steps-settled w))

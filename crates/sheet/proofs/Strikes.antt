-- Records strike their pairs one after the other: what a cell narrowed, and a pair struck, make of what the table stands for.
use mathlib.Core.Path.{◌≡◌, refl, sym, ap, ap₂, ◌∙◌}
use mathlib.Core.Logic.{◌⊎◌, inl, inr}
use mathlib.Core.Bool.{Bool, true, false, cond, not, ◌&&◌, ◌||◌}
use mathlib.Core.List.{List, [], ◌∷◌, ◌++◌, map}
use Prim.Native.Nat.{ℕ, ◌-◌, ◌≤◌, ◌<◌}
use native.Mathlib.Omega.{arith}
use lib.Dec.{T, ltb, eqb, lt→ltb, eqb→eq, eqb_refl}
use lib.ListN.{length, get_or}
use borrow.Author.Tests.{lt-ltb, le-ltb, eq-eqb}
use Rattle.theory.specs.Limits.{readings_most}
use Rattle.theory.specs.Relation.{Rel, Agree}
use Rattle.theory.specs.BoundLaws.{and_i, and_l, and_r, not_e, T_ext, known, lt_or_ge}
use Rattle.theory.specs.Strike.{strike as without, nothing, either}
use Rattle.words.specs.Word.{bit, pack}
use Rattle.words.specs.WordLaws.{bit-pack}
use Rattle.table.specs.Layout.{row, rel, size_of}
use Rattle.table.specs.LayoutLaws.{rel-bit, rel-narrow}
use Rattle.table.specs.StrikeLaws.{strike-both}
use Rattle.scan.specs.Sheet.{Record, field, gap, strike, any_pair}
use Rattle.sheet.specs.Opening.{day_of, admits, outside, turned, struck_by, struck_by_all, everything, opening}
use Rattle.theory.proofs.StrikeLaws.{strike_in}
use Rattle.sheet.specs.OpeningLaws.{everything_e}
use Rattle.sheet.proofs.AllowedLaws.{admits_e, admits_i}
use Rattle.sheet.specs.Writing.{narrowed_row, CellNarrowed}

-- one record more

either-nothing : (p : Bool) → (p || false) ≡ p
either-nothing true = refl
either-nothing false = refl

or_assoc : (p q r : Bool) → (p || (q || r)) ≡ (p || q || r)
or_assoc true q r = refl
or_assoc false q r = refl

pub struck_more : (fields : List (List ℕ)) (rs : List Record) (r : Record) (i j a b : ℕ) → struck_by_all fields (rs ++ r ∷ []) i j a b ≡ (struck_by_all fields rs i j a b || struck_by fields r i j a b)
unfolding struck_by_all either nothing
struck_more fields [] r i j a b = either-nothing (struck_by fields r i j a b)
struck_more fields (q ∷ rs) r i j a b =
    ap (λ (x : Bool). struck_by fields q i j a b || x) (struck_more fields rs r i j a b)
    ∙ or_assoc (struck_by fields q i j a b) (struck_by_all fields rs i j a b) (struck_by fields r i j a b)

-- a table that stands for the opening table after some records stands for that after one more, once that record has struck
pub opening_more : {n : ℕ} (fields : List (List ℕ)) (rs : List Record) (r : Record) {R : Rel} → Agree n R (without (struck_by fields r) (opening fields rs)) → Agree n R (opening fields (rs ++ r ∷ []))
unfolding opening without either
opening_more fields rs r e i j a b hi hj =
    e i j a b hi hj
    ∙ strike-both (struck_by_all fields rs) (struck_by fields r) (everything (map length fields)) i j a b
    ∙ ap (λ (x : Bool). everything (map length fields) i j a b && not x) (sym (struck_more fields rs r i j a b))

-- before any GP or PR nothing is struck
pub struck_none : (fields : List (List ℕ)) (rs : List Record) → any_pair rs ≡ false → (i j a b : ℕ) → struck_by_all fields rs i j a b ≡ false
unfolding struck_by_all either nothing any_pair struck_by
struck_none fields [] e i j a b = refl
struck_none fields (field d ∷ rs) e i j a b = struck_none fields rs e i j a b
struck_none fields (gap k l lo hi ∷ rs) e i j a b = absurd (let z : ◌≡◌ {A = Bool} true false = e in mathlib.Core.Bool.true≢false z)
struck_none fields (strike k l c d ∷ rs) e i j a b = absurd (let z : ◌≡◌ {A = Bool} true false = e in mathlib.Core.Bool.true≢false z)

and_truth : (p : Bool) → (p && true) ≡ p
and_truth true = refl
and_truth false = refl

pub opening_none : {n : ℕ} (fields : List (List ℕ)) (rs : List Record) → any_pair rs ≡ false → Agree n (everything (map length fields)) (opening fields rs)
unfolding opening without
opening_none fields rs e i j a b hi hj =
    sym (and_truth (everything (map length fields) i j a b))
    ∙ ap (λ (x : Bool). everything (map length fields) i j a b && not x) (sym (struck_none fields rs e i j a b))

-- no pair lies outside the sizes
pub opening-inside : (fields : List (List ℕ)) (rs : List Record) (i j a b : ℕ) → T (opening fields rs i j a b) → (a < size_of (map length fields) i) × (b < size_of (map length fields) j)
unfolding opening
opening-inside fields rs i j a b t =
    let u = everything_e (map length fields) i j a b (strike_in (struck_by_all fields rs) (everything (map length fields)) i j a b t) in (u.0, u.1)

-- an interval in a cell

-- a relation within the sizes of two fields
abbrev pub Inside : ℕ → (ℕ → ℕ) → Rel → Type 0
Inside n size R = (i j a b : ℕ) → i < n → j < n → T (R i j a b) → (a < size i) × (b < size j)

module _ (n : ℕ) (t u : List ℕ) (i j : ℕ) (fields : List (List ℕ)) (lo hi : ℕ) (hi' : i < n) (hj : j < n) (size : ℕ → ℕ) (si : size i ≡ length (get_or fields i [])) (sj : size j ≡ length (get_or fields j [])) (c : CellNarrowed n t i j (get_or fields i []) (get_or fields j []) lo hi u) (w : Inside n size (rel n t)) where
  -- in the cell itself
  here : (a b : ℕ) → a < readings_most → b < readings_most → rel n u i j a b ≡ (rel n t i j a b && admits lo hi (day_of fields i a) (day_of fields j b))
  unfolding narrowed_row
  here a b ha hb =
      rel-bit n u i j a b ha hb
      ∙ ap (λ (x : ℕ). bit x b) (c.there a ha)
      ∙ elim (lt_or_ge a (length (get_or fields i []))) [
        | inl l ↦
            ap (λ (x : Bool). bit (cond x (pack readings_most row_of) (row n t i j a)) b) (lt-ltb a (length (get_or fields i [])) l)
            ∙ bit-pack 32 row_of b hb
            ∙ columns
        | inr g ↦
            ap (λ (x : Bool). bit (cond x (pack readings_most row_of) (row n t i j a)) b) (le-ltb a (length (get_or fields i [])) g)
            ∙ sym (rel-bit n t i j a b ha hb)
            ∙ none g
      ]
    where
      row_of : ℕ → Bool
      row_of x = bit (row n t i j a) x && (ltb x (length (get_or fields j [])) && admits lo hi (day_of fields i a) (day_of fields j x))

      -- a bit stands only below the second field's size
      columns : row_of b ≡ (rel n t i j a b && admits lo hi (day_of fields i a) (day_of fields j b))
      columns =
          ap (λ (x : Bool). x && (ltb b (length (get_or fields j [])) && admits lo hi (day_of fields i a) (day_of fields j b))) (sym (rel-bit n t i j a b ha hb))
          ∙ T_ext _ _
          (λ v. and_i (rel n t i j a b) _ (and_l (rel n t i j a b) _ v) (and_r (ltb b (length (get_or fields j []))) _ (and_r (rel n t i j a b) _ v)))
          (λ v.
          let q = and_l (rel n t i j a b) _ v in
          and_i (rel n t i j a b) _ q
          (and_i (ltb b (length (get_or fields j []))) _ (lt→ltb b (length (get_or fields j [])) (omega (arith, (w i j a b hi' hj q).1, sj))) (and_r (rel n t i j a b) _ v)))

      none : length (get_or fields i []) ≤ a → rel n t i j a b ≡ (rel n t i j a b && admits lo hi (day_of fields i a) (day_of fields j b))
      none g = T_ext _ _ (λ v. absurd (omega (arith, (w i j a b hi' hj v).0, si))) (λ v. and_l (rel n t i j a b) _ v)

  elsewhere : (k l a b : ℕ) → k < n → l < n → a < readings_most → b < readings_most → ((k ≡ i) × (l ≡ j) → ⊥) → rel n u k l a b ≡ rel n t k l a b
  elsewhere k l a b hk hl ha hb d =
      rel-bit n u k l a b ha hb ∙ ap (λ (x : ℕ). bit x b) (c.elsewhere k l a hk hl ha d) ∙ sym (rel-bit n t k l a b ha hb)

  outside-not : (k l a b : ℕ) → ((k ≡ i) × (l ≡ j) → ⊥) → outside fields i j lo hi k l a b ≡ false
  unfolding outside
  outside-not k l a b d = T_ext _ false (λ v. d (eqb→eq k i (and_l (eqb k i) _ v), eqb→eq l j (and_l (eqb l j) _ (and_r (eqb k i) _ v)))) absurd

  outside-here : (k l a b : ℕ) → k ≡ i → l ≡ j → outside fields i j lo hi k l a b ≡ not (admits lo hi (day_of fields i a) (day_of fields j b))
  unfolding outside
  outside-here k l a b e f = rw (e, f) (simp (eq-eqb i i refl, eq-eqb j j refl))

  wide : (k l a b : ℕ) → ((a < readings_most) × (b < readings_most) → ⊥) → rel n u k l a b ≡ without (outside fields i j lo hi) (rel n t) k l a b
  unfolding without
  wide k l a b d = T_ext _ _ (λ v. absurd (d (rel-narrow n u k l a b v))) (λ v. absurd (d (rel-narrow n t k l a b (and_l (rel n t k l a b) _ v))))

  not-not-is : (p : Bool) → not (not p) ≡ p
  not-not-is true = refl
  not-not-is false = refl

  narrow-here : (k l a b : ℕ) → k ≡ i → l ≡ j → a < readings_most → b < readings_most → rel n u k l a b ≡ without (outside fields i j lo hi) (rel n t) k l a b
  unfolding without
  narrow-here k l a b e f ha hb =
      ap₂ (λ (x y : ℕ). rel n u x y a b) e f
      ∙ here a b ha hb
      ∙ sym (ap₂ ◌&&◌ (ap₂ (λ (x y : ℕ). rel n t x y a b) e f) (ap not (outside-here k l a b e f) ∙ not-not-is (admits lo hi (day_of fields i a) (day_of fields j b))))

  narrow-elsewhere : (k l a b : ℕ) → k < n → l < n → ((k ≡ i) × (l ≡ j) → ⊥) → a < readings_most → b < readings_most → rel n u k l a b ≡ without (outside fields i j lo hi) (rel n t) k l a b
  unfolding without
  narrow-elsewhere k l a b hk hl d ha hb =
      elsewhere k l a b hk hl ha hb d
      ∙ sym (and_truth (rel n t k l a b))
      ∙ ap (λ (x : Bool). rel n t k l a b && not x) (sym (outside-not k l a b d))

  -- a cell narrowed strikes what lies outside the interval
  pub narrow-stands : Agree n (rel n u) (without (outside fields i j lo hi) (rel n t))
  narrow-stands k l a b hk hl = rows (lt_or_ge a readings_most) (lt_or_ge b readings_most)
    where
      cells : a < readings_most → b < readings_most → T (eqb k i) ⊎ T (not (eqb k i)) → T (eqb l j) ⊎ T (not (eqb l j)) → rel n u k l a b ≡ without (outside fields i j lo hi) (rel n t) k l a b
      cells ha hb (inl x) (inl y) = narrow-here k l a b (eqb→eq k i x) (eqb→eq l j y) ha hb
      cells ha hb (inr x) y = narrow-elsewhere k l a b hk hl (λ z. not_e (eqb k i) x (rw z.0 (eqb_refl i))) ha hb
      cells ha hb (inl x) (inr y) = narrow-elsewhere k l a b hk hl (λ z. not_e (eqb l j) y (rw z.1 (eqb_refl j))) ha hb

      rows : (a < readings_most) ⊎ (readings_most ≤ a) → (b < readings_most) ⊎ (readings_most ≤ b) → rel n u k l a b ≡ without (outside fields i j lo hi) (rel n t) k l a b
      rows (inl ha) (inl hb) = cells ha hb (known (eqb k i)) (known (eqb l j))
      rows (inr g) y = wide k l a b (λ z. omega (arith, z.0))
      rows (inl ha) (inr g) = wide k l a b (λ z. omega (arith, z.1))

-- the interval from the other side

pub admits-turned : (lo hi d e : ℕ) → lo ≤ 65536 → hi ≤ 65536 → admits (65536 - hi) (65536 - lo) e d ≡ admits lo hi d e
admits-turned lo hi d e hl hh = T_ext _ _
    (λ v. admits_i lo hi d e (let p = admits_e (65536 - hi) (65536 - lo) e d v in (omega (arith, p), omega (arith, p))))
    (λ v. admits_i (65536 - hi) (65536 - lo) e d (let p = admits_e lo hi d e v in (omega (arith, p), omega (arith, p))))

and_swap : (p q r : Bool) → (p && (q && r)) ≡ (q && (p && r))
and_swap true q r = refl
and_swap false true r = refl
and_swap false false r = refl

outside-turned : (fields : List (List ℕ)) (i j lo hi : ℕ) → lo ≤ 65536 → hi ≤ 65536 → (k l a b : ℕ) → outside fields j i (65536 - hi) (65536 - lo) k l a b ≡ turned (outside fields i j lo hi) k l a b
unfolding outside
outside-turned fields i j lo hi hl hh k l a b =
    ap (λ (x : Bool). eqb k j && (eqb l i && not x)) (admits-turned lo hi (day_of fields l b) (day_of fields k a) hl hh)
    ∙ and_swap (eqb k j) (eqb l i) (not (admits lo hi (day_of fields l b) (day_of fields k a)))

-- both cells of a GP
pub gap_stands : {n : ℕ} (fields : List (List ℕ)) (i j lo hi : ℕ) → lo ≤ 65536 → hi ≤ 65536 → (R S : Rel) {Q : Rel} → Agree n S (without (outside fields i j lo hi) R) → Agree n Q (without (outside fields j i (65536 - hi) (65536 - lo)) S) → Agree n Q (without (struck_by fields (gap i j lo hi)) R)
unfolding without struck_by either
gap_stands fields i j lo hi hl hh R S e f k l a b hk hl' =
    f k l a b hk hl'
    ∙ ap₂ (λ (x y : Bool). x && not y) (e k l a b hk hl') (outside-turned fields i j lo hi hl hh k l a b)
    ∙ strike-both (outside fields i j lo hi) (turned (outside fields i j lo hi)) R k l a b

-- a strike takes the pairs that are there
pub without_agree : {n : ℕ} (P : Rel) {R S : Rel} → Agree n R S → Agree n (without P R) (without P S)
unfolding without
without_agree P e i j a b hi hj = ap (λ (x : Bool). x && not (P i j a b)) (e i j a b hi hj)

pub agree_on : {n : ℕ} {R S Q : Rel} → Agree n R S → Agree n S Q → Agree n R Q
agree_on e f i j a b hi hj = e i j a b hi hj ∙ f i j a b hi hj

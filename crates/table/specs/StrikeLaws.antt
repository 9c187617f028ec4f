-- A strike takes the pair and its mirror from what the words stand for, and nothing else.
use Rattle.std.specs.Prelude.{◌≡◌, refl, ◌⊎◌, Bool, true, ◌&&◌, ◌||◌, T, eqb, ltb, length, get_or, set}
use Rattle.std.proofs.Common.{sym, ap₂, ◌∙◌, inl, inr, eqb→eq, length-set, get_or-set_same, get_or-set_other, eq-eqb, le-ltb}
use Rattle.std.proofs.Math.Path.{ap}
use Rattle.std.proofs.Math.Bool.{false, not, and-true, and-false, or_comm}
use mathlib.Core.List.{List}
use Prim.Native.Nat.{ℕ, ◌≤◌, ◌<◌}
use Rattle.std.proofs.Math.Decide.{ℕ_discrete}
use Rattle.std.proofs.Math.Dec.{eqb_refl}
use Rattle.theory.specs.Limits.{readings_most}
use Rattle.theory.specs.BoundLaws.{and_i, and_l, and_r, or_l, not_i, T_ext, lt_or_ge}
use Rattle.theory.specs.Relation.{Rel, Agree, WellFormed}
use Rattle.theory.specs.Strike.{strike, either}
use Rattle.theory.proofs.StrikeLaws.{strike_wf}
use Rattle.words.specs.Word.{bit, pack}
use Rattle.words.specs.WordLaws.{bit-pack}
use Rattle.table.specs.Layout.{table_length, row_number, row, rel}
use Rattle.table.specs.LayoutLaws.{number_in, number_same, rel-bit}
use Rattle.table.specs.Strike.{one_pair, pair_and_mirror, cleared, struck_words}

-- pairs

pub pair_here : (i j a b : ℕ) → T (pair_and_mirror i j a b i j a b)
unfolding pair_and_mirror either one_pair
pair_here i j a b =
    or_l (one_pair i j a b i j a b) (one_pair j i b a i j a b)
    (and_i (eqb i i) (eqb j j && (eqb a a && eqb b b)) (eqb_refl i) (and_i (eqb j j) (eqb a a && eqb b b) (eqb_refl j) (and_i (eqb a a) (eqb b b) (eqb_refl a) (eqb_refl b))))

turned : (p q r s : Bool) → (p && (q && (r && s))) ≡ (q && (p && (s && r)))
turned true true true s = sym (and-true s)
turned true true false true = refl
turned true true false false = refl
turned true false r s = refl
turned false true r s = refl
turned false false r s = refl

-- a pair and its mirror, seen from the other side, are the mirror and the pair
pub pair_turn : (i j a b k l c d : ℕ) → pair_and_mirror i j a b k l c d ≡ pair_and_mirror i j a b l k d c
unfolding pair_and_mirror either one_pair
pair_turn i j a b k l c d = ap₂ ◌||◌ (turned (eqb k i) (eqb l j) (eqb c a) (eqb d b)) (turned (eqb k j) (eqb l i) (eqb c b) (eqb d a)) ∙ or_comm (one_pair j i b a l k d c) (one_pair i j a b l k d c)

-- a strike leaves a well_formed relation well formed
pub struck-formed : {n : ℕ} {size : ℕ → ℕ} {R : Rel} (i j a b : ℕ) → WellFormed n size R → WellFormed n size (strike (pair_and_mirror i j a b) R)
struck-formed i j a b = strike_wf (pair_and_mirror i j a b) (λ k l c d hk hl. pair_turn i j a b k l c d)

-- one strike after another
pub strike-both : (P S R : Rel) (k l c d : ℕ) → strike S (strike P R) k l c d ≡ strike (either P S) R k l c d
unfolding strike either
strike-both P S R k l c d = go (R k l c d) (P k l c d) (S k l c d)
  where
    go : (x p s : Bool) → (x && not p && not s) ≡ (x && not (p || s))
    go true true s = refl
    go true false s = refl
    go false p s = refl

-- words

pub length-cleared : (t : List ℕ) (p b : ℕ) → length (cleared t p b) ≡ length t
unfolding cleared
length-cleared t p b = length-set t p (pack readings_most (λ c. bit (get_or t p 0) c && not (eqb c b)))

pub length-struck : (n : ℕ) (t : List ℕ) (i j a b : ℕ) → length (struck_words n t i j a b) ≡ length t
unfolding struck_words
length-struck n t i j a b = length-cleared (cleared t (row_number n i j a) b) (row_number n j i b) a ∙ length-cleared t (row_number n i j a) b

module _ (n : ℕ) (t : List ℕ) (i j a b : ℕ) (long : length t ≡ table_length n) (hi : i < n) (hj : j < n) (ha : a < readings_most) where
  -- of that row every bit but b stays, and of every other row all do
  clear-bit : (k l c d : ℕ) → l < n → c < readings_most → d < readings_most → bit (row n (cleared t (row_number n i j a) b) k l c) d ≡ (bit (row n t k l c) d && not (eqb k i && (eqb l j && (eqb c a && eqb d b))))
  unfolding cleared row
  clear-bit k l c d hl hc hd = go (ℕ_discrete q p)
    where
      p : ℕ
      p = row_number n i j a

      q : ℕ
      q = row_number n k l c

      w : ℕ
      w = pack readings_most (λ x. bit (get_or t p 0) x && not (eqb x b))

      here : (k ≡ i) × (l ≡ j) × (c ≡ a) → (eqb k i && (eqb l j && (eqb c a && eqb d b))) ≡ eqb d b
      here e = rw (eq-eqb k i e.0, eq-eqb l j e.1, eq-eqb c a e.2)

      away : (q ≡ p → ⊥) → T (eqb k i && (eqb l j && (eqb c a && eqb d b))) → ⊥
      away e x =
          let y = and_r (eqb k i) (eqb l j && (eqb c a && eqb d b)) x in
          let z = and_r (eqb l j) (eqb c a && eqb d b) y in
          e (λ v. row_number n (eqb→eq k i (and_l (eqb k i) (eqb l j && (eqb c a && eqb d b)) x) v) (eqb→eq l j (and_l (eqb l j) (eqb c a && eqb d b) y) v) (eqb→eq c a (and_l (eqb c a) (eqb d b) z) v))

      go : Dec (q ≡ p) → bit (get_or (set t p w) q 0) d ≡ (bit (get_or t q 0) d && not (eqb k i && (eqb l j && (eqb c a && eqb d b))))
      go (yes e) =
          ap (λ (x : ℕ). bit (get_or (set t p w) x 0) d) e
          ∙ ap (λ (x : ℕ). bit x d) (get_or-set_same t p w 0 (rw long (number_in n i j a hi hj ha)))
          ∙ bit-pack 32 (λ x. bit (get_or t p 0) x && not (eqb x b)) d hd
          ∙ ap₂ (λ (x : ℕ) (y : Bool). bit (get_or t x 0) d && not y) (sym e) (sym (here (number_same n k l c i j a hl hc hj ha e)))
      go (no e) =
          ap (λ (x : ℕ). bit x d) (get_or-set_other t p q w 0 e)
          ∙ sym (ap (λ (y : Bool). bit (get_or t q 0) d && y) (T_ext (not (eqb k i && (eqb l j && (eqb c a && eqb d b)))) true (λ _. tt) (λ _. not_i (eqb k i && (eqb l j && (eqb c a && eqb d b))) (away e))) ∙ and-true (bit (get_or t q 0) d))

  pub rel-cleared : Agree n (rel n (cleared t (row_number n i j a) b)) (strike (one_pair i j a b) (rel n t))
  unfolding strike one_pair
  rel-cleared k l c d hk hl = go (lt_or_ge c 32) (lt_or_ge d 32)
    where
      none : (u : List ℕ) → (32 ≤ c) ⊎ (32 ≤ d) → rel n u k l c d ≡ false
      none u (inl h) = unfold rel in rw (le-ltb c 32 h)
      none u (inr h) = unfold rel in rw (le-ltb d 32 h, and-false (ltb c 32))

      outside : (32 ≤ c) ⊎ (32 ≤ d) → rel n (cleared t (row_number n i j a) b) k l c d ≡ (rel n t k l c d && not (eqb k i && (eqb l j && (eqb c a && eqb d b))))
      outside h = none (cleared t (row_number n i j a) b) h ∙ sym (ap (λ (x : Bool). x && not (eqb k i && (eqb l j && (eqb c a && eqb d b)))) (none t h))

      go : (c < 32) ⊎ (32 ≤ c) → (d < 32) ⊎ (32 ≤ d) → rel n (cleared t (row_number n i j a) b) k l c d ≡ (rel n t k l c d && not (eqb k i && (eqb l j && (eqb c a && eqb d b))))
      go (inl hc) (inl hd) = rel-bit n (cleared t (row_number n i j a) b) k l c d hc hd ∙ clear-bit k l c d hl hc hd ∙ sym (ap (λ (x : Bool). x && not (eqb k i && (eqb l j && (eqb c a && eqb d b)))) (rel-bit n t k l c d hc hd))
      go (inl hc) (inr h) = outside (inr h)
      go (inr h) _ = outside (inl h)

-- the words with the pair struck stand for the relation with it struck
pub rel-struck : (n : ℕ) (t : List ℕ) (i j a b : ℕ) → length t ≡ table_length n → i < n → j < n → a < readings_most → b < readings_most → Agree n (rel n (struck_words n t i j a b)) (strike (pair_and_mirror i j a b) (rel n t))
unfolding struck_words pair_and_mirror
rel-struck n t i j a b long hi hj ha hb k l c d hk hl =
    rel-cleared n (cleared t (row_number n i j a) b) j i b a (length-cleared t (row_number n i j a) b ∙ long) hj hi hb k l c d hk hl
    ∙ unfold strike in ap (λ (x : Bool). x && not (one_pair j i b a k l c d)) (rel-cleared n t i j a b long hi hj ha k l c d hk hl)
    ∙ strike-both (one_pair i j a b) (one_pair j i b a) (rel n t) k l c d

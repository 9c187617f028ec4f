-- The ones of a word: how many there are, the lowest and the highest, as the machine counts them.
use Rattle.std.specs.Prelude.{◌≡◌, refl, true, false, not, ◌&&◌, ℕ, zero, suc, ◌+◌, ◌-◌, ◌*◌, ◌/◌, ◌%◌, ◌^◌, ◌≤◌, ◌<◌, T, eqb, leb}
use Rattle.std.proofs.Common.{sym, ap, ap₂, ◌∙◌, inl, inr, suc-le-suc, le_of_suc-le-suc, pow-suc, mod-lt, zero-lt-suc, arith, leb→le, le→leb, lit<}
use Rattle.std.proofs.Math.Bool.{and-true, and_self}
use Rattle.std.proofs.Math.Nat.{div-eq_of_lt-le}
use Rattle.std.proofs.Math.Dec.{eqb-suc-suc, eqb-suc-zero}
use Rattle.std.proofs.Math.Arith.{lt-one}
use Rattle.std.specs.Int.Bits.{bit_and}
use Rattle.std.specs.Int.Count.{ones, ones_step, count_leading_zeros, count_trailing_zeros}
use Rattle.std.proofs.lemmas.Nat.{leading_top}
use Rattle.theory.specs.Limits.{readings_most}
use Rattle.theory.specs.Bound.{val, any, count, sum, first}
use Rattle.theory.specs.BoundLaws.{T_ext, and_i, and_l, and_r, any_i, any_e, lt_or_ge, first_holds, first_least, first_same, count-front, count_same}
use Rattle.words.specs.Word.{bit, spanned}
use Rattle.words.specs.WordLaws.{two, bit-low, val-low, bit_high, half_lt, zero_of}
use Rattle.words.specs.MachineLaws.{bit-and}

-- how many

pub ones-count : (k w : ℕ) → w < 2 ^ k → ones w ≡ count k (bit w)
unfolding count sum
ones-count zero w h = ap ones (lt-one h) ∙ (unfold ones in refl)
ones-count (suc k) w h =
    ones_step w
    ∙ ap₂ (λ (x y : ℕ). x + y) (sym (val-low w))
    (ones-count k (w / 2) (half_lt k w h) ∙ count_same k (bit (w / 2)) (λ b. bit w (suc b)) (λ i l. sym (bit_high w i)))
    ∙ sym (count-front k (bit w))

-- the lowest

pub trailing-first : (k w : ℕ) → count_trailing_zeros k w ≡ first k (bit w)
unfolding count_trailing_zeros first
trailing-first zero w = refl
trailing-first (suc k) w =
    let e : count_trailing_zeros k (w / 2) ≡ first k (λ b. bit w (suc b)) =
    trailing-first k (w / 2) ∙ first_same k (bit (w / 2)) (λ b. bit w (suc b)) (λ i l. sym (bit_high w i)) in
    elim (two (w % 2) (mod-lt w (lit< tt))) [ inl z ↦ rw (bit-low, z) (ap suc e) | inr z ↦ rw (bit-low, z) ]

-- a word that is not 0 has a lowest one
pub first_one : (k w : ℕ) → 0 < w → w < 2 ^ k → first k (bit w) < k
first_one k w p h =
    elim (lt_or_ge (first k (bit w)) k) [
      | inl l ↦ l
      | inr g ↦
          let e : w ≡ 0 = zero_of k w h (λ b l. first_least k (bit w) b (omega arith)) in absurd (omega arith)
    ]

pub trailing_lt : (k w : ℕ) → 0 < w → w < 2 ^ k → count_trailing_zeros k w < k
trailing_lt k w p h = rw trailing-first (first_one k w p h)

-- w & (w - 1) clears the lowest one, at z

clear : (w z c : ℕ) → ((b : ℕ) → b < z → bit w b ≡ false) → bit w z ≡ true → (bit w c && bit (w - 1) c) ≡ (bit w c && not (eqb c z))
clear w zero zero f s =
    let e : w % 2 ≡ 1 = sym (val-low w) ∙ ap val s in
    let o : (w - 1) % 2 ≡ 0 = omega arith in
    rw (bit-low (w - 1), o)
clear w zero (suc c) f s =
    let e : w % 2 ≡ 1 = sym (val-low w) ∙ ap val s in
    let half : (w - 1) / 2 ≡ w / 2 = omega arith in
    rw (bit_high w c, bit_high (w - 1) c, half, and_self, eqb-suc-zero, and-true)
clear w (suc z) zero f s = rw (f 0 (zero-lt-suc z))
clear w (suc z) (suc c) f s =
    let e : w % 2 ≡ 0 = sym (val-low w) ∙ ap val (f 0 (zero-lt-suc z)) in
    let half : (w - 1) / 2 ≡ w / 2 - 1 = omega arith in
    rw (bit_high w c, bit_high (w - 1) c, half, eqb-suc-suc)
    (clear (w / 2) z c (λ b l. sym (bit_high w b) ∙ f (suc b) (suc-le-suc l)) (sym (bit_high w z) ∙ s))

pub clear_lowest : (k w : ℕ) → first k (bit w) < k → (c : ℕ) →
    bit (bit_and w (w - 1)) c ≡ (bit w c && not (eqb c (first k (bit w))))
clear_lowest k w h c =
    bit-and w (w - 1) c
    ∙ clear w (first k (bit w)) c
    (λ b l. T_ext (bit w b) false (first_least k (bit w) b l) absurd)
    (T_ext (bit w (first k (bit w))) true (λ t. tt) (λ t. first_holds k (bit w) h))

-- the highest, which stands under the zeros that the machine counts
pub record Highest (k w : ℕ) : Type 0 where
  pub at : ℕ
  pub counted : count_leading_zeros k w + suc at ≡ k
  pub holds : T (bit w at)
  pub bounded : w < 2 ^ suc at

top_one : (j w : ℕ) → 2 ^ j ≤ w → w < 2 ^ suc j → bit w j ≡ true
unfolding bit
top_one j w l h =
    let e : 2 ^ suc j ≡ 2 ^ j * 2 = pow-suc 2 j in
    let one : w / 2 ^ j ≡ 1 = div-eq_of_lt-le (2 ^ j) (omega arith) (omega arith) in
    rw one

pub leading_highest : (k w : ℕ) → 0 < w → w < 2 ^ k → Highest k w
leading_highest k w p h =
    let t = leading_top k w p h in
    record { at = t.0; counted = t.1; holds = rw (top_one t.0 w t.2 t.3) tt; bounded = t.3 }

-- the span

pub spanned_i : (w b c1 c2 : ℕ) → c1 ≤ b → b ≤ c2 → c2 < readings_most → T (bit w c1) → T (bit w c2) → T (spanned w b)
unfolding spanned
spanned_i w b c1 c2 l h m t1 t2 =
    and_i (any (suc b) (bit w)) (any readings_most (λ c. leb b c && bit w c))
    (any_i (suc b) (bit w) c1 (omega arith) t1)
    (any_i readings_most (λ c. leb b c && bit w c) c2 m (and_i (leb b c2) (bit w c2) (le→leb b c2 h) t2))

-- a one at or below b, and one at or above
pub record Between (w b : ℕ) : Type 0 where
  pub lower : ℕ
  pub upper : ℕ
  pub from : lower ≤ b
  pub upto : b ≤ upper
  pub small : upper < readings_most
  pub lower_one : T (bit w lower)
  pub upper_one : T (bit w upper)

pub spanned_e : (w b : ℕ) → T (spanned w b) → Between w b
unfolding spanned
spanned_e w b t =
    let lo = any_e (suc b) (bit w) (and_l (any (suc b) (bit w)) (any readings_most (λ c. leb b c && bit w c)) t) in
    let hi = any_e readings_most (λ c. leb b c && bit w c) (and_r (any (suc b) (bit w)) (any readings_most (λ c. leb b c && bit w c)) t) in
    record {
      lower = lo.0;
      upper = hi.0;
      from = le_of_suc-le-suc lo.1;
      upto = leb→le b hi.0 (and_l (leb b hi.0) (bit w hi.0) hi.2);
      small = hi.1;
      lower_one = lo.2;
      upper_one = and_r (leb b hi.0) (bit w hi.0) hi.2;
    }

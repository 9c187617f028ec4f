-- The span of a word from its leading and trailing zeros, and a whole row by its span.
use mathlib.Core.Path.{◌≡◌, ap, ap₂, ◌∙◌, subst, subst⁻¹}
use mathlib.Core.Logic.{inl, inr}
use mathlib.Core.Bool.{Bool, not, ◌&&◌, and_comm, and_assoc}
use Prim.Native.Nat.{ℕ, suc, ◌+◌, ◌-◌, ◌*◌, ◌/◌, ◌%◌, ◌^◌, ◌<◌}
use native.Mathlib.Nat.{mod-lt, lt_of_le_of_lt, eq-or-lt_of_le}
use native.Mathlib.Omega.{arith}
use lib.Dec.{T, leb, ltb, leb→le, le→leb, ltb→lt, lt→ltb}
use lib.Pow.{pow_pos, shr_le, ones_lt}
use lib.Bits.{bit_and, and_lt}
use lib.Count.{count_leading_zeros, count_trailing_zeros}
use Rattle.theory.specs.Bound.{any, first}
use Rattle.theory.specs.BoundLaws.{T_ext, and_i, and_l, and_r, not_i, not_e, known, any_i, any_e, any_same, first_holds, first_found}
use Rattle.theory.specs.Rows.{Whole, whole}
use Rattle.theory.proofs.RowsLaws.{whole_i, whole_e}
use Rattle.words.specs.Word.{bit, pack, spanned}
use Rattle.words.specs.WordLaws.{bit-lt, zero_no, pack_of, bit-pack}
use Rattle.words.specs.MachineLaws.{bit-and, bit-ones, bit-shr, bit-shl}
use Rattle.words.specs.EndLaws.{trailing-first, first_one, Highest, leading_highest, spanned_i, spanned_e}

module _ (k w : ℕ) (p : 0 < w) (h : w < 2 ^ k) where
  -- the bits from the lowest one on
  from_lowest : (b : ℕ) → b < k → bit (((2 ^ k - 1) * 2 ^ count_trailing_zeros k w) % 2 ^ k) b ≡ any (suc b) (bit w)
  from_lowest b l =
      rw (bit-shl k (2 ^ k - 1) (count_trailing_zeros k w) b l, bit-ones, trailing-first)
      (T_ext (leb z b && ltb (b - z) k) (any (suc b) (bit w))
      (λ t. any_i (suc b) (bit w) z (omega (arith, leb→le z b (and_l (leb z b) (ltb (b - z) k) t))) (first_holds k (bit w) (first_one k w p h)))
      (λ t.
      let g = any_e (suc b) (bit w) t in
      let f = first_found k (bit w) g.0 (omega (arith, g.1)) g.2 in
      and_i (leb z b) (ltb (b - z) k) (le→leb z b (omega (arith, g.1, f.0))) (lt→ltb (b - z) k (omega arith))))
    where
      z : ℕ
      z = first k (bit w)

  -- the bits up to the highest one
  to-highest : (b : ℕ) → bit ((2 ^ k - 1) / 2 ^ count_leading_zeros k w) b ≡ any k (λ c. leb b c && bit w c)
  to-highest b =
      rw (bit-shr, bit-ones)
      (T_ext (ltb (count_leading_zeros k w + b) k) (any k (λ c. leb b c && bit w c))
      (λ t. any_i k (λ c. leb b c && bit w c) top.at (omega (arith, top.counted))
      (and_i (leb b top.at) (bit w top.at) (le→leb b top.at (omega (arith, top.counted, ltb→lt (count_leading_zeros k w + b) k t))) top.holds))
      (λ t.
      let g = any_e k (λ c. leb b c && bit w c) t in
      lt→ltb (count_leading_zeros k w + b) k
      (omega (arith, top.counted, leb→le b g.0 (and_l (leb b g.0) (bit w g.0) g.2), bit-lt (suc top.at) w g.0 top.bounded (and_r (leb b g.0) (bit w g.0) g.2)))))
    where
      top : Highest k w
      top = leading_highest k w p h

pub span_pack : (w : ℕ) → 0 < w → w < 2 ^ 32 →
    bit_and ((2 ^ 32 - 1) / 2 ^ count_leading_zeros 32 w) (((2 ^ 32 - 1) * 2 ^ count_trailing_zeros 32 w) % 2 ^ 32) ≡ pack 32 (spanned w)
unfolding spanned
span_pack w p h =
    let u : ℕ = (2 ^ 32 - 1) / 2 ^ count_leading_zeros 32 w in
    let d : ℕ = ((2 ^ 32 - 1) * 2 ^ count_trailing_zeros 32 w) % 2 ^ 32 in
    pack_of 32 (bit_and u d) (spanned w)
    (and_lt 32 u d (lt_of_le_of_lt (shr_le (2 ^ 32 - 1) (count_leading_zeros 32 w)) (ones_lt 32)) (mod-lt ((2 ^ 32 - 1) * 2 ^ count_trailing_zeros 32 w) (pow_pos 32)))
    (λ b l. bit-and u d b ∙ and_comm (bit u b) (bit d b) ∙ ap₂ ◌&&◌ (from_lowest 32 w p h b l) (to-highest 32 w p h b))

pub span_none : 0 ≡ pack 32 (spanned 0)
span_none =
    pack_of 32 0 (spanned 0) (pow_pos 32) (λ b l.
    T_ext (bit 0 b) (spanned 0 b) (λ t. absurd (zero_no b t)) (λ t. let g = spanned_e 0 b t in absurd (zero_no g.lower g.lower_one)))

-- a row is whole where no bit that stands in its span is missing

missing : ℕ → ℕ → ℕ → Bool
missing w s b = spanned w b && (bit s b && not (bit w b))

module _ (w s : ℕ) (h : w < 2 ^ 32) where
  none-whole : T (not (any 32 (missing w s))) → Whole (bit s) (bit w)
  unfolding missing
  none-whole n b1 b b2 l1 l2 t1 t2 t =
      let m : b2 < 32 = bit-lt 32 w b2 h t2 in
      elim (known (bit w b)) [
        | inl y ↦ y
        | inr o ↦
            absurd (not_e (any 32 (missing w s)) n (any_i 32 (missing w s) b (omega arith)
            (and_i (spanned w b) (bit s b && not (bit w b)) (spanned_i w b b1 b2 (omega arith) (omega arith) m t1 t2)
            (and_i (bit s b) (not (bit w b)) t o))))
      ]

  whole-none : Whole (bit s) (bit w) → (b : ℕ) → T (missing w s b) → ⊥
  unfolding missing
  whole-none f b t =
      let g = spanned_e w b (and_l (spanned w b) (bit s b && not (bit w b)) t) in
      let u = and_r (spanned w b) (bit s b && not (bit w b)) t in
      not_e (bit w b) (and_r (bit s b) (not (bit w b)) u)
      (elim (eq-or-lt_of_le g.from) [
        | inl e ↦ subst (λ (x : ℕ). T (bit w x)) e g.lower_one
        | inr l ↦
            elim (eq-or-lt_of_le g.upto) [
              | inl e ↦ subst⁻¹ (λ (x : ℕ). T (bit w x)) e g.upper_one
              | inr m ↦ f g.lower b g.upper l m g.lower_one g.upper_one (and_l (bit s b) (not (bit w b)) u)
            ]
      ])

  pub whole_test : not (any 32 (λ b. bit (bit_and (pack 32 (spanned w)) s) b && not (bit w b))) ≡ whole (bit s) (bit w)
  unfolding missing
  whole_test =
      ap not
      (any_same 32 (λ b. bit (bit_and (pack 32 (spanned w)) s) b && not (bit w b)) (missing w s)
      (λ b l. rw (bit-and, bit-pack 32 (spanned w) b l, and_assoc)))
      ∙ T_ext (not (any 32 (missing w s))) (whole (bit s) (bit w))
      (λ n. whole_i (bit s) (bit w) (none-whole n))
      (λ a.
      not_i (any 32 (missing w s)) (λ t.
      let g = any_e 32 (missing w s) t in
      whole-none (whole_e (bit s) (bit w) (λ b. bit-lt 32 w b h) a) g.0 g.2))

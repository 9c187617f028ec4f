-- A pass of the turn: the two words it makes of two, and the pairs done so far.
use mathlib.Core.Path.{◌≡◌, refl, ap, ap₂, ◌∙◌}
use mathlib.Core.Bool.{Bool, true, false, not, xor, ◌&&◌, ◌||◌, and-true, and-false, or-false}
use mathlib.Core.List.{List}
use Prim.Native.Nat.{ℕ, ◌+◌, ◌-◌, ◌*◌, ◌/◌, ◌%◌, ◌^◌, ◌≤◌, ◌<◌}
use native.Mathlib.Nat.{mod-lt, lt_of_le_of_lt}
use native.Mathlib.Omega.{arith}
use lib.Dec.{T, leb}
use lib.Pow.{pow_pos, ones_sub-lt}
use lib.Bits.{bit_and, bit_or, and_lt, and_le_r, or_lt}
use lib.ListN.{length, get_or, set, length-set}
use lib.Seq.{get_or-set_same, get_or-set_other}
use borrow.Author.Count.{below_more}
use Rattle.theory.specs.Limits.{readings_most}
use Rattle.theory.specs.Bound.{val}
use Rattle.theory.specs.BoundLaws.{all_e}
use Rattle.words.specs.Word.{bit, pack}
use Rattle.words.specs.WordLaws.{pack_of, pack_same}
use Rattle.words.specs.MachineLaws.{bit-and, bit_or_lem, bit_not, bit-shr, bit-shl}
use Rattle.words.specs.Turn.{parted, from_word, from_bit, Exchanged}

-- the two words

xor-other : (p q : Bool) → T (xor p q) → q ≡ not p
unfolding xor
xor-other true true t = absurd t
xor-other true false t = refl
xor-other false true t = refl
xor-other false false t = absurd t

pub parted_at : (k m : ℕ) → T (parted k m) → (c : ℕ) → c < 32 → (leb k c && bit m (c - k)) ≡ not (bit m c)
unfolding parted
parted_at k m t c l = xor-other (bit m c) (leb k c && bit m (c - k)) (all_e 32 (λ c. xor (bit m c) (leb k c && bit m (c - k))) t c l)

regroup : (l y m : Bool) → (l && (y && m)) ≡ (y && (l && m))
regroup true true m = refl
regroup true false m = refl
regroup false true m = refl
regroup false false m = refl

pub low-pack : (x y k m : ℕ) → x < 2 ^ 32 → m < 2 ^ 32 → T (parted k m) →
    bit_or (bit_and x m) ((bit_and y m * 2 ^ k) % 2 ^ 32) ≡ pack 32 (λ c. (bit x c && bit m c) || (bit y (c - k) && not (bit m c)))
low-pack x y k m hx hm t =
    pack_of 32 (bit_or (bit_and x m) ((bit_and y m * 2 ^ k) % 2 ^ 32)) _
    (or_lt 32 (bit_and x m) ((bit_and y m * 2 ^ k) % 2 ^ 32) (and_lt 32 x m hx hm) (mod-lt (bit_and y m * 2 ^ k) (pow_pos 32)))
    (λ c l.
    bit_or_lem (bit_and x m) ((bit_and y m * 2 ^ k) % 2 ^ 32) c
    ∙ ap₂ (λ (p q : Bool). p || q)
    (bit-and x m c)
    (bit-shl 32 (bit_and y m) k c l
    ∙ ap (λ (q : Bool). leb k c && q) (bit-and y m (c - k))
    ∙ regroup (leb k c) (bit y (c - k)) (bit m (c - k))
    ∙ ap (λ (q : Bool). bit y (c - k) && q) (parted_at k m t c l)))

pub high-pack : (x y k m : ℕ) → y < 2 ^ 32 → m < 2 ^ 32 →
    bit_or (bit_and (x / 2 ^ k) m) (bit_and y ((2 ^ 32 - 1) - m)) ≡ pack 32 (λ c. (bit x (k + c) && bit m c) || (bit y c && not (bit m c)))
high-pack x y k m hy hm =
    let n : ℕ = (2 ^ 32 - 1) - m in
    pack_of 32 (bit_or (bit_and (x / 2 ^ k) m) (bit_and y n)) _
    (or_lt 32 (bit_and (x / 2 ^ k) m) (bit_and y n) (lt_of_le_of_lt (and_le_r (x / 2 ^ k) m) hm) (and_lt 32 y n hy (ones_sub-lt 32 m)))
    (λ c l.
    bit_or_lem (bit_and (x / 2 ^ k) m) (bit_and y n) c
    ∙ ap₂ (λ (p q : Bool). p || q)
    (bit-and (x / 2 ^ k) m c ∙ ap (λ (p : Bool). p && bit m c) (bit-shr x k c))
    (bit-and y n c ∙ ap (λ (q : Bool). bit y c && q) (bit_not 32 m c hm l)))

-- where their bits come from, by the mask's bit

from_even : (b : Bool) (cell : List ℕ) (k q c : ℕ) →
    ((bit (get_or cell q 0) c && b) || (bit (get_or cell (q + 16) 0) (c - k) && not b))
    ≡ bit (get_or cell (2 * q / 2 + val (not b) * 16) 0) ((c + 2 * q % 2 * k) - val (not b) * k)
from_even true cell k q c =
    let r : q ≡ 2 * q / 2 + 0 * 16 = omega arith in
    let z : 2 * q % 2 ≡ 0 = omega arith in
    let s : c ≡ (c + 2 * q % 2 * k) - 0 * k = rw z (omega arith) in
    rw (and-true, and-false, or-false) (ap₂ (λ (i j : ℕ). bit (get_or cell i 0) j) r s)
from_even false cell k q c =
    let r : q + 16 ≡ 2 * q / 2 + 1 * 16 = omega arith in
    let z : 2 * q % 2 ≡ 0 = omega arith in
    let s : c - k ≡ (c + 2 * q % 2 * k) - 1 * k = rw z (omega arith) in
    rw (and-true, and-false) (ap₂ (λ (i j : ℕ). bit (get_or cell i 0) j) r s)

from_odd : (b : Bool) (cell : List ℕ) (k q c : ℕ) →
    ((bit (get_or cell q 0) (k + c) && b) || (bit (get_or cell (q + 16) 0) c && not b))
    ≡ bit (get_or cell ((2 * q + 1) / 2 + val (not b) * 16) 0) ((c + (2 * q + 1) % 2 * k) - val (not b) * k)
from_odd true cell k q c =
    let r : q ≡ (2 * q + 1) / 2 + 0 * 16 = omega arith in
    let z : (2 * q + 1) % 2 ≡ 1 = omega arith in
    let s : k + c ≡ (c + (2 * q + 1) % 2 * k) - 0 * k = rw z (omega arith) in
    rw (and-true, and-false, or-false) (ap₂ (λ (i j : ℕ). bit (get_or cell i 0) j) r s)
from_odd false cell k q c =
    let r : q + 16 ≡ (2 * q + 1) / 2 + 1 * 16 = omega arith in
    let z : (2 * q + 1) % 2 ≡ 1 = omega arith in
    let s : c ≡ (c + (2 * q + 1) % 2 * k) - 1 * k = rw z (omega arith) in
    rw (and-true, and-false) (ap₂ (λ (i j : ℕ). bit (get_or cell i 0) j) r s)

-- word p after the pass
abbrev pub passed : (k m : ℕ) → List ℕ → ℕ → ℕ
passed k m cell p = pack readings_most (λ c. bit (get_or cell (from_word m p c) 0) (from_bit k m p c))

-- out holds the first q pairs of words
pub record Pairs (k m : ℕ) (cell out : List ℕ) (q : ℕ) : Type 0 where
  pub long : length out ≡ 32
  pub upto : q ≤ 16
  pub below : (p : ℕ) → p < 2 * q → get_or out p 0 ≡ passed k m cell p

pub pairs_none : (k m : ℕ) (cell out : List ℕ) → length out ≡ 32 → Pairs k m cell out 0
pairs_none k m cell out e = record { long = e; upto = omega arith; below = λ p l. absurd (omega arith) }

pub pairs_more : {k m : ℕ} {cell out : List ℕ} {q v w : ℕ} → Pairs k m cell out q → q < 16 →
    v ≡ pack 32 (λ c. (bit (get_or cell q 0) c && bit m c) || (bit (get_or cell (q + 16) 0) (c - k) && not (bit m c))) →
    w ≡ pack 32 (λ c. (bit (get_or cell q 0) (k + c) && bit m c) || (bit (get_or cell (q + 16) 0) c && not (bit m c))) →
    Pairs k m cell (set (set out (2 * q) v) (2 * q + 1) w) (q + 1)
unfolding from_word from_bit
pairs_more {k} {m} {cell} {out} {q} {v} {w} g h ev ew = record {
  long = length-set (set out (2 * q) v) (2 * q + 1) w ∙ length-set out (2 * q) v ∙ g.long;
  upto = omega arith;
  below = λ p l.
      below_more _ (2 * q + 1)
      (λ p l. get_or-set_other (set out (2 * q) v) (2 * q + 1) p w 0 (λ z. omega arith) ∙ first p l)
      (get_or-set_same (set out (2 * q) v) (2 * q + 1) w 0 (omega (arith, length-set out (2 * q) v, g.long)) ∙ ew ∙ pack_same 32 _ _ (λ c i. from_odd (bit m c) cell k q c))
      p (omega arith);
}
  where
    first : (p : ℕ) → p < 2 * q + 1 → get_or (set out (2 * q) v) p 0 ≡ passed k m cell p
    first =
        below_more _ (2 * q)
        (λ p l. get_or-set_other out (2 * q) p v 0 (λ z. omega arith) ∙ g.below p l)
        (get_or-set_same out (2 * q) v 0 (omega (arith, g.long)) ∙ ev ∙ pack_same 32 _ _ (λ c i. from_even (bit m c) cell k q c))

pub pairs-all : {k m : ℕ} {cell out : List ℕ} {q : ℕ} → Pairs k m cell out q → 16 ≤ q → Exchanged k m cell out
pairs-all g h = record { long = g.long; words = λ p l. g.below p (omega arith) }

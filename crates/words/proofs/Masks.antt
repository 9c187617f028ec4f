-- Words made and tested by masks, as packs of their bits, over the width k.
use mathlib.Core.Path.{◌≡◌, sym, ap, ◌∙◌}
use mathlib.Core.Bool.{Bool, not, ◌&&◌, ◌||◌}
use Prim.Native.Nat.{ℕ, ◌-◌, ◌*◌, ◌%◌, ◌^◌, ◌≤◌, ◌<◌}
use native.Mathlib.Nat.{mod-lt, lt_of_lt_of_le}
use native.Mathlib.Omega.{arith}
use lib.Dec.{eqb, ltb}
use lib.Pow.{pow_pos, pow-lt, ones_lt, ones_sub-lt}
use lib.Bits.{bit_and, bit_or, and_lt, or_lt}
use borrow.Author.Tests.{lt-ltb}
use Rattle.theory.specs.Bound.{any}
use Rattle.theory.specs.BoundLaws.{any_same}
use Rattle.words.specs.Word.{bit, pack}
use Rattle.words.specs.WordLaws.{pack_of, some_one}
use Rattle.words.specs.MachineLaws.{bit-and, bit_or_lem, bit_not, bit-ones, bit_one, one_shifted}

pub and-pack : (k w v : ℕ) → w < 2 ^ k → v < 2 ^ k → bit_and w v ≡ pack k (λ b. bit w b && bit v b)
and-pack k w v hw hv = pack_of k (bit_and w v) (λ b. bit w b && bit v b) (and_lt k w v hw hv) (λ b l. bit-and w v b)

-- `1 << s` in k bits
one_lt : (k s : ℕ) → (1 * 2 ^ s) % 2 ^ k < 2 ^ k
one_lt k s = mod-lt (1 * 2 ^ s) (pow_pos k)

pub put-bit : (k w s : ℕ) → w < 2 ^ k → s < k → bit_or w ((1 * 2 ^ s) % 2 ^ k) ≡ pack k (λ c. bit w c || eqb c s)
put-bit k w s h l =
    let m : ℕ = (1 * 2 ^ s) % 2 ^ k in
    pack_of k (bit_or w m) (λ c. bit w c || eqb c s) (or_lt k w m h (one_lt k s))
    (λ c i. bit_or_lem w m c ∙ ap (λ (x : Bool). bit w c || x) (bit_one k s c l))

pub drop-bit : (k w s : ℕ) → w < 2 ^ k → s < k → bit_and w ((2 ^ k - 1) - (1 * 2 ^ s) % 2 ^ k) ≡ pack k (λ c. bit w c && not (eqb c s))
drop-bit k w s h l =
    let o : ℕ = (1 * 2 ^ s) % 2 ^ k in
    let m : ℕ = (2 ^ k - 1) - o in
    pack_of k (bit_and w m) (λ c. bit w c && not (eqb c s)) (and_lt k w m h (ones_sub-lt k o))
    (λ c i. bit-and w m c ∙ ap (λ (x : Bool). bit w c && x) (bit_not k o c (one_lt k s) i ∙ ap not (bit_one k s c l)))

-- the lowest s bits: all k of them, or those below `1 << s`

pub all-below : (k s : ℕ) → k ≤ s → 2 ^ k - 1 ≡ pack k (λ b. ltb b s)
all-below k s h =
    pack_of k (2 ^ k - 1) (λ b. ltb b s) (ones_lt k) (λ b l. bit-ones k b ∙ lt-ltb b k l ∙ sym (lt-ltb b s (lt_of_lt_of_le l h)))

pub some_below : (k s : ℕ) → s < k → (1 * 2 ^ s) % 2 ^ k - 1 ≡ pack k (λ b. ltb b s)
some_below k s h =
    ap (λ (x : ℕ). x - 1) (one_shifted k s h)
    ∙ pack_of k (2 ^ s - 1) (λ b. ltb b s) (omega (arith, pow-lt h, pow_pos s)) (λ b l. bit-ones s b)

-- `w & !m != 0`
pub outside-any : (k w m : ℕ) → w < 2 ^ k → m < 2 ^ k → not (eqb (bit_and w ((2 ^ k - 1) - m)) 0) ≡ any k (λ b. bit w b && not (bit m b))
outside-any k w m hw hm =
    let n : ℕ = (2 ^ k - 1) - m in
    some_one k (bit_and w n) (and_lt k w n hw (ones_sub-lt k m))
    ∙ any_same k (bit (bit_and w n)) (λ b. bit w b && not (bit m b))
    (λ b l. bit-and w n b ∙ ap (λ (x : Bool). bit w b && x) (bit_not k m b hm l))

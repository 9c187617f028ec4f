-- The bits of what the machine computes: and, or, complement and shifts, in k bits where k matters.
use Rattle.std.specs.Prelude.{◌≡◌, refl, Bool, true, false, not, ◌&&◌, ◌||◌, ℕ, zero, suc, ◌+◌, ◌-◌, ◌*◌, ◌/◌, ◌%◌, ◌^◌, ◌<◌, eqb, leb, ltb}
use Rattle.std.proofs.Common.{sym, ap, ◌∙◌, inl, inr, le_of_suc-le-suc, not-suc-le-zero, pow-suc, mod-lt, mul_assoc, mul-one, one-mul, arith, lit<, pow_pos, shr-shr, shl_exact, lt-ltb, le-ltb}
use Rattle.std.proofs.Math.Bool.{and-true}
use Rattle.std.proofs.Math.Nat.{sub-zero, suc-sub-suc}
use Rattle.std.proofs.Math.Dec.{eqb-suc-suc, eqb-zero-suc, eqb-suc-zero, leb-zero, leb-suc-zero, leb-suc-suc}
use Rattle.std.proofs.Math.Pow.{ones_lt}
use Rattle.std.specs.Int.Bits.{bit_and, bit_or, or_zero_l, or_add_and}
use Rattle.std.proofs.lemmas.Nat.{and_mask, and_shr, and_mod, and_le_r, or_shr, or_mod}
use Rattle.theory.specs.Bound.{val}
use Rattle.theory.specs.BoundLaws.{lt_or_ge}
use Rattle.words.specs.Word.{bit}
use Rattle.words.specs.WordLaws.{two, bit-low, val-low, bit_high, cons_low, cons_high, half_lt, bit-above, bit_none}

-- and, or

and-digit : (x y : ℕ) → x < 2 → y < 2 → eqb (bit_and x y) 1 ≡ (eqb x 1 && eqb y 1)
and-digit x y hx hy = elim (two x hx) [ inl e ↦ rw e | inr e ↦ rw e (elim (two y hy) [ inl f ↦ rw f | inr f ↦ rw f ]) ]

or_digit : (x y : ℕ) → x < 2 → y < 2 → eqb (bit_or x y) 1 ≡ (eqb x 1 || eqb y 1)
or_digit x y hx hy = elim (two x hx) [ inl e ↦ rw e | inr e ↦ rw e (elim (two y hy) [ inl f ↦ rw f | inr f ↦ rw f ]) ]

pub bit-and : (v w b : ℕ) → bit (bit_and v w) b ≡ (bit v b && bit w b)
unfolding bit
bit-and v w b =
    ap (λ (z : ℕ). eqb (z % 2) 1) (and_shr v w b)
    ∙ ap (λ (z : ℕ). eqb z 1) (and_mod (v / 2 ^ b) (w / 2 ^ b) 1)
    ∙ and-digit (v / 2 ^ b % 2) (w / 2 ^ b % 2) (mod-lt (v / 2 ^ b) (lit< tt)) (mod-lt (w / 2 ^ b) (lit< tt))

pub bit_or_lem : (v w b : ℕ) → bit (bit_or v w) b ≡ (bit v b || bit w b)
unfolding bit
bit_or_lem v w b =
    ap (λ (z : ℕ). eqb (z % 2) 1) (or_shr v w b)
    ∙ ap (λ (z : ℕ). eqb z 1) (or_mod (v / 2 ^ b) (w / 2 ^ b) 1)
    ∙ or_digit (v / 2 ^ b % 2) (w / 2 ^ b % 2) (mod-lt (v / 2 ^ b) (lit< tt)) (mod-lt (w / 2 ^ b) (lit< tt))

-- or is 0 only where both are

pos_some : (x : ℕ) → 0 < x → not (eqb x 0) ≡ true
pos_some zero h = absurd (not-suc-le-zero h)
pos_some (suc x) h = ap not (eqb-suc-zero x)

pub or_some : (v w : ℕ) → not (eqb (bit_or v w) 0) ≡ (not (eqb v 0) || not (eqb w 0))
or_some zero w = ap (λ (x : ℕ). not (eqb x 0)) (or_zero_l w)
or_some (suc v) w =
    pos_some (bit_or (suc v) w) (omega (arith, or_add_and (suc v) w, and_le_r (suc v) w))
    ∙ sym (ap (λ (p : Bool). p || not (eqb w 0)) (pos_some (suc v) (omega arith)))

-- the complement in k bits

val-not : (p : Bool) → val (not p) + val p ≡ 1
val-not true = refl
val-not false = refl

not_cons : (k w : ℕ) → w < 2 ^ suc k → (2 ^ suc k - 1) - w ≡ ((2 ^ k - 1) - w / 2) * 2 + val (not (bit w 0))
not_cons k w h =
    let e : 2 ^ suc k ≡ 2 ^ k * 2 = pow-suc 2 k in
    let v : val (not (bit w 0)) + w % 2 ≡ 1 = rw (← val-low) (val-not (bit w 0)) in
    omega arith

pub bit_not : (k w b : ℕ) → w < 2 ^ k → b < k → bit ((2 ^ k - 1) - w) b ≡ not (bit w b)
bit_not zero w b h l = absurd (not-suc-le-zero l)
bit_not (suc k) w zero h l = ap (λ (x : ℕ). bit x 0) (not_cons k w h) ∙ cons_low ((2 ^ k - 1) - w / 2) (not (bit w 0))
bit_not (suc k) w (suc b) h l =
    ap (λ (x : ℕ). bit x (suc b)) (not_cons k w h) ∙ cons_high ((2 ^ k - 1) - w / 2) (not (bit w 0)) b
    ∙ bit_not k (w / 2) b (half_lt k w h) (le_of_suc-le-suc l) ∙ ap not (sym (bit_high w b))

-- the k lowest bits, and all of them set

pub bit-ones : (k b : ℕ) → bit (2 ^ k - 1) b ≡ ltb b k
bit-ones k b =
    elim (lt_or_ge b k) [
      | inl l ↦ ap (λ (x : ℕ). bit x b) (sym (sub-zero (2 ^ k - 1))) ∙ bit_not k 0 b (pow_pos k) l ∙ ap not (bit_none b) ∙ sym (lt-ltb b k l)
      | inr g ↦ bit-above k (2 ^ k - 1) b (ones_lt k) g ∙ sym (le-ltb b k g)
    ]

pub bit-mod : (k w b : ℕ) → bit (w % 2 ^ k) b ≡ (bit w b && ltb b k)
bit-mod k w b = rw (← and_mask, bit-and, bit-ones)

-- shifts, the left one in k bits

pub bit-shr : (w s b : ℕ) → bit (w / 2 ^ s) b ≡ bit w (s + b)
unfolding bit
bit-shr w s b = ap (λ (x : ℕ). eqb (x % 2) 1) (shr-shr w s b)

times_cons : (w s : ℕ) → w * 2 ^ suc s ≡ w * 2 ^ s * 2 + val false
times_cons w s = rw (pow-suc, ← mul_assoc) (omega arith)

pub bit_times : (w s b : ℕ) → bit (w * 2 ^ s) b ≡ (leb s b && bit w (b - s))
bit_times w zero b = rw (mul-one, sub-zero, leb-zero)
bit_times w (suc s) zero = rw (times_cons, cons_low, leb-suc-zero)
bit_times w (suc s) (suc b) = rw (times_cons, cons_high, bit_times w s b, leb-suc-suc, suc-sub-suc)

pub bit-shl : (k w s b : ℕ) → b < k → bit ((w * 2 ^ s) % 2 ^ k) b ≡ (leb s b && bit w (b - s))
bit-shl k w s b l = rw (bit-mod, bit_times, lt-ltb b k l, and-true)

-- one bit

one_cons : (s : ℕ) → 2 ^ suc s ≡ 2 ^ s * 2 + val false
one_cons s = rw pow-suc (omega arith)

pub bit_power : (s b : ℕ) → bit (2 ^ s) b ≡ eqb b s
bit_power zero zero = bit-low 1
bit_power zero (suc b) = bit_high 1 b ∙ bit_none b ∙ sym (eqb-suc-zero b)
bit_power (suc s) zero = rw (one_cons, cons_low, eqb-zero-suc)
bit_power (suc s) (suc b) = rw (one_cons, cons_high, bit_power s b, eqb-suc-suc)

-- 1 shifted left by s in k bits
pub one_shifted : (k s : ℕ) → s < k → (1 * 2 ^ s) % 2 ^ k ≡ 2 ^ s
one_shifted k s h = shl_exact 1 s k (lit< tt) (omega arith) ∙ one-mul (2 ^ s)

pub bit_one : (k s b : ℕ) → s < k → bit ((1 * 2 ^ s) % 2 ^ k) b ≡ eqb b s
bit_one k s b h = rw (one_shifted k s h) (bit_power s b)

-- bit b by a shift and a mask
pub bit_test : (w b : ℕ) → eqb (bit_and (w / 2 ^ b) 1) 1 ≡ bit w b
unfolding bit
bit_test w b = ap (λ (x : ℕ). eqb x 1) (and_mask (w / 2 ^ b) 1)

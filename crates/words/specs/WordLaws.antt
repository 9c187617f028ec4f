-- What bit and pack mean, over any width k.
use Rattle.std.specs.Prelude.{◌≡◌, refl, ◌⊎◌, Bool, true, false, not, ℕ, zero, suc, ◌+◌, ◌*◌, ◌/◌, ◌%◌, ◌^◌, ◌≤◌, ◌<◌, T, eqb}
use Rattle.std.proofs.Common.{sym, ap, ap₂, ◌∙◌, subst, inl, inr, zero-le, suc-le-suc, le_of_suc-le-suc, not-suc-le-zero, lt_of_lt_of_le, lt_of_not-le, pow-suc, div-one, div-add-mod', mod-lt, zero-lt-suc, arith, eqb→eq, lit<, pow_pos, pow_mono}
use Rattle.std.proofs.Math.Nat.{pow-succ', div-div-eq-div-mul, div-eq_of_lt}
use Rattle.std.proofs.Math.Arith.{digits_lt, digits_div, digits_mod, lt-one}
use Rattle.theory.specs.Bound.{val, any}
use Rattle.theory.specs.BoundLaws.{T_ext, known, not_i, not_e, any_i, any_e}
use Rattle.words.specs.Word.{bit, pack}

-- digits

pub two : (n : ℕ) → n < 2 → (n ≡ 0) ⊎ (n ≡ 1)
two zero h = inl refl
two (suc zero) h = inr refl
two (suc (suc n)) h = absurd (not-suc-le-zero (le_of_suc-le-suc (le_of_suc-le-suc h)))

val-small : (p : Bool) → val p < 2
val-small true = lit< tt
val-small false = lit< tt

eqb-val : (p : Bool) → eqb (val p) 1 ≡ p
eqb-val true = refl
eqb-val false = refl

val-digit : (n : ℕ) → n < 2 → val (eqb n 1) ≡ n
val-digit n h = elim (two n h) [ inl e ↦ rw e | inr e ↦ rw e ]

-- the lowest bit, and the rest

pub bit-low : (w : ℕ) → bit w 0 ≡ eqb (w % 2) 1
unfolding bit
bit-low w = rw div-one

pub val-low : (w : ℕ) → val (bit w 0) ≡ w % 2
val-low w = ap val (bit-low w) ∙ val-digit (w % 2) (mod-lt w (lit< tt))

pub bit_high : (w b : ℕ) → bit w (suc b) ≡ bit (w / 2) b
unfolding bit
bit_high w b = rw (pow-succ', ← div-div-eq-div-mul)

pub cons_low : (q : ℕ) (p : Bool) → bit (q * 2 + val p) 0 ≡ p
cons_low q p = bit-low (q * 2 + val p) ∙ ap (λ (x : ℕ). eqb x 1) (digits_mod q (val-small p)) ∙ eqb-val p

pub cons_high : (q : ℕ) (p : Bool) (b : ℕ) → bit (q * 2 + val p) (suc b) ≡ bit q b
cons_high q p b = bit_high (q * 2 + val p) b ∙ ap (λ (x : ℕ). bit x b) (digits_div q (val-small p))

-- a word is its lowest bit and the rest
pub uncons : (w : ℕ) → w ≡ w / 2 * 2 + val (bit w 0)
uncons w = rw val-low (sym (div-add-mod' w 2))

pub half_lt : (k w : ℕ) → w < 2 ^ suc k → w / 2 < 2 ^ k
half_lt k w h = let e : 2 ^ suc k ≡ 2 ^ k * 2 = pow-suc 2 k in omega arith

-- bits past the width

pub bit-above : (k w b : ℕ) → w < 2 ^ k → k ≤ b → bit w b ≡ false
unfolding bit
bit-above k w b h l = ap (λ (x : ℕ). eqb (x % 2) 1) (div-eq_of_lt (lt_of_lt_of_le h (pow_mono l)))

pub bit-lt : (k w b : ℕ) → w < 2 ^ k → T (bit w b) → b < k
bit-lt k w b h t = lt_of_not-le (λ (l : k ≤ b). rw (bit-above k w b h l) at t)

pub bit_none : (b : ℕ) → bit 0 b ≡ false
bit_none b = bit-above 0 0 b (lit< tt) zero-le

pub zero_no : (b : ℕ) → T (bit 0 b) → ⊥
zero_no b t = rw bit_none at t

-- pack and bit undo each other

pub bit-pack : (k : ℕ) (p : ℕ → Bool) (b : ℕ) → b < k → bit (pack k p) b ≡ p b
unfolding pack
bit-pack zero p b h = absurd (not-suc-le-zero h)
bit-pack (suc k) p zero h = cons_low (pack k (λ b. p (suc b))) (p 0)
bit-pack (suc k) p (suc b) h =
    cons_high (pack k (λ b. p (suc b))) (p 0) b ∙ bit-pack k (λ b. p (suc b)) b (le_of_suc-le-suc h)

pub pack-lt : (k : ℕ) (p : ℕ → Bool) → pack k p < 2 ^ k
unfolding pack
pack-lt zero p = lit< tt
pack-lt (suc k) p = rw pow-suc (digits_lt (pack-lt k (λ b. p (suc b))) (val-small (p 0)))

-- the word below 2 ^ k whose bits below k are p's
pub pack_of : (k r : ℕ) (p : ℕ → Bool) → r < 2 ^ k → ((b : ℕ) → b < k → bit r b ≡ p b) → r ≡ pack k p
unfolding pack
pack_of zero r p h e = lt-one h
pack_of (suc k) r p h e =
    uncons r
    ∙ ap₂ (λ (x y : ℕ). x * 2 + y)
    (pack_of k (r / 2) (λ b. p (suc b)) (half_lt k r h) (λ b l. sym (bit_high r b) ∙ e (suc b) (suc-le-suc l)))
    (ap val (e 0 (zero-lt-suc k)))

pub pack-bit : (k w : ℕ) → w < 2 ^ k → pack k (bit w) ≡ w
pack-bit k w h = sym (pack_of k w (bit w) h (λ b l. refl))

pub pack-above : (k : ℕ) (p : ℕ → Bool) (b : ℕ) → k ≤ b → bit (pack k p) b ≡ false
pack-above k p b l = bit-above k (pack k p) b (pack-lt k p) l

-- tests that are the same below k pack into the same word
pub pack_same : (k : ℕ) (p q : ℕ → Bool) → ((b : ℕ) → b < k → p b ≡ q b) → pack k p ≡ pack k q
pack_same k p q e = pack_of k (pack k p) q (pack-lt k p) (λ b l. bit-pack k p b l ∙ e b l)

-- words below 2 ^ k with the same bits are equal
pub same_bits : (k v w : ℕ) → v < 2 ^ k → w < 2 ^ k → ((b : ℕ) → b < k → bit v b ≡ bit w b) → v ≡ w
same_bits k v w hv hw e = pack_of k v (bit w) hv e ∙ pack-bit k w hw

-- a word below 2 ^ k is 0 where it has no bit below k, and nowhere else

pub zero_of : (k w : ℕ) → w < 2 ^ k → ((b : ℕ) → b < k → T (bit w b) → ⊥) → w ≡ 0
zero_of k w h n =
    same_bits k w 0 h (pow_pos k) (λ b l. T_ext (bit w b) (bit 0 b) (λ t. absurd (n b l t)) (λ t. absurd (zero_no b t)))

pub some_one : (k w : ℕ) → w < 2 ^ k → not (eqb w 0) ≡ any k (bit w)
some_one k w h = T_ext (not (eqb w 0)) (any k (bit w)) found shown
  where
    found : T (not (eqb w 0)) → T (any k (bit w))
    found s =
        elim (known (any k (bit w))) [
          | inl t ↦ t
          | inr n ↦
              let e : w ≡ 0 = zero_of k w h (λ b l t. not_e (any k (bit w)) n (any_i k (bit w) b l t)) in absurd (rw e at s)
        ]

    shown : T (any k (bit w)) → T (not (eqb w 0))
    shown t =
        let g = any_e k (bit w) t in
        not_i (eqb w 0) (λ s. zero_no g.0 (subst (λ (x : ℕ). T (bit x g.0)) (eqb→eq w 0 s) g.2))

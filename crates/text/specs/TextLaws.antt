-- Decimal numbers digit by digit, numbers one after the other, and how long they are.
use Rattle.std.proofs.Common.{lt-ltb, le-ltb, sym, ap, ◌∙◌, inl, inr, append-nil, append_assoc, arith, length-append}
use Rattle.std.specs.Prelude.{◌≡◌, refl, List, [], ◌∷◌, ◌++◌, ℕ, zero, suc, ◌/◌, ◌%◌, ◌^◌, ◌≤◌, ◌<◌, length}
use Rattle.std.proofs.Math.Nat.{pow-succ'}
use Rattle.std.proofs.lemmas.Fmt.{decimal_from_appends, length-decimal-le_succ}
use Rattle.std.specs.Fmt.{decimal as printed}
use Rattle.theory.specs.BoundLaws.{lt_or_ge}
use Rattle.refusal.specs.Said.{Said}
use Rattle.text.specs.Text.{ascii, digit, digits, decimal, number, numbers, said, line_feed, Closed, place_text, state_line, word_for, first_line}

digits-small : (k n : ℕ) → n < 10 → digits (suc k) n ≡ digit n ∷ []
unfolding digits
digits-small k n h = rw (lt-ltb n 10 h, digits) refl

digits_large : (k n : ℕ) → 10 ≤ n → digits (suc k) n ≡ digits k (n / 10) ++ (digit (n % 10) ∷ [])
unfolding digits
digits_large k n h = rw (le-ltb n 10 h, digits) refl

-- one bound is as good as another
digits_same : (k m n : ℕ) → n < k → n < m → digits k n ≡ digits m n
digits_same zero m n h l = absurd (omega arith)
digits_same (suc k) zero n h l = absurd (omega arith)
digits_same (suc k) (suc m) n h l = elim (lt_or_ge n 10) [
  | inl s ↦ digits-small k n s ∙ sym (digits-small m n s)
  | inr s ↦ digits_large k n s ∙ ap (λ (d : List ℕ). d ++ (digit (n % 10) ∷ [])) (digits_same k m (n / 10) (omega arith) (omega arith)) ∙ sym (digits_large m n s)
]

pub decimal-small : (n : ℕ) → n < 10 → decimal n ≡ digit n ∷ []
unfolding decimal
decimal-small n h = digits-small n n h

pub decimal_large : (n : ℕ) → 10 ≤ n → decimal n ≡ decimal (n / 10) ++ (digit (n % 10) ∷ [])
unfolding decimal
decimal_large n h = digits_large n n h ∙ ap (λ (d : List ℕ). d ++ (digit (n % 10) ∷ [])) (digits_same n (suc (n / 10)) (n / 10) (omega arith) (omega arith))

-- what `{}` prints
pub printed_decimal : (n : ℕ) → n < 2 ^ 64 → printed n ≡ decimal n
unfolding decimal
printed_decimal n h = sym (decimal_from_appends digits (record { one = digits-small; more = digits_large }) (suc n) n h (omega (arith, length-decimal-le_succ n h)))

-- a number below 10 ^ (k + 1) has at most k + 1 digits
pub decimal-length : (k n : ℕ) → n < 10 ^ suc k → length (decimal n) ≤ suc k
decimal-length zero n h = rw (decimal-small n (omega arith)) (omega arith)
decimal-length (suc k) n h = elim (lt_or_ge n 10) [
  | inl s ↦ rw (decimal-small n s) (omega arith)
  | inr s ↦
      let l : n / 10 < 10 ^ suc k = omega (arith, pow-succ' 10 (suc k)) in
      rw (decimal_large n s) (omega (arith, length-append (decimal (n / 10)) (digit (n % 10) ∷ []), decimal-length k (n / 10) l))
]

pub numbers-append : (xs ys : List ℕ) → numbers (xs ++ ys) ≡ numbers xs ++ numbers ys
unfolding numbers
numbers-append [] ys = refl
numbers-append (x ∷ xs) ys = ap (λ (t : List ℕ). number x ++ t) (numbers-append xs ys) ∙ sym (append_assoc (number x) (numbers xs) (numbers ys))

pub numbers_one : (v : ℕ) → numbers (v ∷ []) ≡ number v
unfolding numbers
numbers_one v = append-nil (number v)

-- ` at` stands where there is a place

pub place_none : (p : List ℕ) → length p ≡ 0 → place_text p ≡ []
place_none [] e = refl
place_none (v ∷ vs) e = absurd (omega arith)

pub place_some : (p : List ℕ) → (length p ≡ 0 → ⊥) → place_text p ≡ said " at" p
place_some [] d = absurd (d refl)
place_some (v ∷ vs) d = refl

-- days that there are

pub first_some : (days : List ℕ) → 0 < length days → first_line days ≡ said "first" days ++ line_feed
first_some [] h = absurd (omega arith)
first_some (v ∷ vs) h = refl

-- lines are closed

pub closed_after : {text : List ℕ} (before : List ℕ) → Closed text → Closed (before ++ text)
closed_after before c = record { front = before ++ c.front; is = ap (λ (t : List ℕ). before ++ t) c.is ∙ sym (append_assoc before c.front line_feed) }

pub state_closed : (s : Said) → Closed (state_line s)
unfolding state_line
state_closed s = closed_after (said "state" (s.state ∷ [])) (record { front = place_text s.values; is = refl })

pub first_closed : (days : List ℕ) → Closed (first_line days)
first_closed days = record { front = word_for (ascii "first none") (ascii "first") days ++ numbers days; is = refl }

-- The count that is printed is the number of readings kept.
use Rattle.std.specs.Prelude.{◌≡◌, refl, Bool, true, false, cond, [], ◌∷◌, ◌++◌, ℕ, zero, suc, ◌≤◌, length}
use Rattle.std.proofs.Common.{arith, length-append, ap₂, ◌∙◌}
use Rattle.theory.specs.Limits.{readings_most}
use Rattle.theory.specs.Bound.{sum, val, count}
use Rattle.theory.specs.BoundLaws.{count_last, count_most}
use Rattle.theory.specs.Relation.{Rel}
use Rattle.theory.specs.Reading.{kept, kept_count}
use Rattle.text.specs.Text.{number, numbers, joined}
use Rattle.text.specs.TextLaws.{numbers-append, numbers_one}
use Rattle.listing.specs.Listing.{kept_days, days_of}

one_or_none : (b : Bool) (v : ℕ) → length (cond b (v ∷ []) []) ≡ val b
one_or_none true v = refl
one_or_none false v = refl

counted : (k : ℕ) (p : ℕ → Bool) (f : ℕ → ℕ) → length (joined k (λ a. cond (p a) (f a ∷ []) [])) ≡ count k p
unfolding joined count sum
counted zero p f = refl
counted (suc k) p f = omega (arith, length-append (joined k (λ a. cond (p a) (f a ∷ []) [])) (cond (p k) (f k ∷ []) []), one_or_none (p k) (f k), counted k p f, count_last k p)

pub kept-count : (M : Rel) (day : ℕ → ℕ → ℕ) (i : ℕ) → length (kept_days M day i) ≡ kept_count M i
unfolding kept_days
kept-count M day i = counted readings_most (kept M i) (day i)

-- one element a piece
pub ones-length : (k : ℕ) (f : ℕ → ℕ) → length (joined k (λ i. f i ∷ [])) ≡ k
unfolding joined
ones-length zero f = refl
ones-length (suc k) f = omega (arith, length-append (joined k (λ i. f i ∷ [])) (f k ∷ []), ones-length k f)

-- the numbers of one element a piece
numbers-ones : (k : ℕ) (f : ℕ → ℕ) → numbers (joined k (λ i. f i ∷ [])) ≡ joined k (λ i. number (f i))
unfolding joined numbers
numbers-ones zero f = refl
numbers-ones (suc k) f = numbers-append (joined k (λ i. f i ∷ [])) (f k ∷ []) ∙ ap₂ ◌++◌ (numbers-ones k f) (numbers_one (f k))

pub days-length : (n : ℕ) (day : ℕ → ℕ → ℕ) (x : ℕ → ℕ) → length (days_of n day x) ≡ n
unfolding days_of
days-length n day x = ones-length n (λ i. day i (x i))

pub numbers-days : (n : ℕ) (day : ℕ → ℕ → ℕ) (x : ℕ → ℕ) → numbers (days_of n day x) ≡ joined n (λ i. number (day i (x i)))
unfolding days_of
numbers-days n day x = numbers-ones n (λ i. day i (x i))

pub kept_few : (M : Rel) (day : ℕ → ℕ → ℕ) (i : ℕ) → length (kept_days M day i) ≤ readings_most
kept_few M day i = omega (arith, kept-count M day i, count_most readings_most (kept M i))

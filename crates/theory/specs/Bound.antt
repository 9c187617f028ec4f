-- Quantifiers, search and counts over the numbers below a bound.
use Rattle.std.specs.Prelude.{Bool, true, false, cond, ◌&&◌, ◌||◌, ℕ, zero, suc, ◌+◌}

-- p holds of every number below n
unfoldable pub all : ℕ → (ℕ → Bool) → Bool
all zero p = true
all (suc n) p = all n p && p n

-- p holds of some number below n
unfoldable pub any : ℕ → (ℕ → Bool) → Bool
any zero p = false
any (suc n) p = any n p || p n

-- the least number below n of which p holds; n where there is none
unfoldable pub first : ℕ → (ℕ → Bool) → ℕ
first zero p = 0
first (suc n) p = cond (p 0) 0 (suc (first n (λ i. p (suc i))))

-- f 0 + .. + f (n - 1)
unfoldable pub sum : ℕ → (ℕ → ℕ) → ℕ
sum zero f = 0
sum (suc n) f = sum n f + f n

-- 1 for true, 0 for false
abbrev pub val : Bool → ℕ
val true = 1
val false = 0

-- how many numbers below n there are of which p holds
unfoldable pub count : ℕ → (ℕ → Bool) → ℕ
count n p = sum n (λ i. val (p i))

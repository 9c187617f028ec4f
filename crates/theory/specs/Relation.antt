-- Which readings of two fields go together, and path consistency. A field is a number below n, a reading a number below 32.
use Rattle.std.specs.Prelude.{◌≡◌, Bool, ◌&&◌, ℕ, zero, suc, ◌≤◌, ◌<◌, T}
use Rattle.theory.specs.Limits.{readings_most}
use Rattle.theory.specs.Bound.{all, any}

-- R i j a b: reading a of field i goes with reading b of field j
abbrev pub Rel : Type 0
Rel = ℕ → ℕ → ℕ → ℕ → Bool

-- no pair outside the fields' sizes; a reading goes with no other of its own field; cells (i, j) and (j, i) mirror each other
-- (01, "The table"; document 000, definition 1)
pub record WellFormed (n : ℕ) (size : ℕ → ℕ) (R : Rel) : Type 0 where
  pub small : (i : ℕ) → i < n → size i ≤ readings_most
  pub inside : (i j a b : ℕ) → i < n → j < n → T (R i j a b) → (a < size i) × (b < size j)
  pub same : (i a b : ℕ) → i < n → T (R i i a b) → a ≡ b
  pub turn : (i j a b : ℕ) → i < n → j < n → R i j a b ≡ R j i b a

-- what R allows, S allows
abbrev pub Within : ℕ → Rel → Rel → Type 0
Within n R S = (i j a b : ℕ) → i < n → j < n → T (R i j a b) → T (S i j a b)

-- R and S allow the same
abbrev pub Agree : ℕ → Rel → Rel → Type 0
Agree n R S = (i j a b : ℕ) → i < n → j < n → R i j a b ≡ S i j a b

-- (a, b) is in cell (i, k) composed with cell (k, j): some c has (a, c) in the one and (c, b) in the other (document 003)
unfoldable pub composed : Rel → ℕ → ℕ → ℕ → ℕ → ℕ → Bool
composed R i k j a b = any readings_most (λ c. R i k a c && R k j c b)

-- cell (i, j) lies within cell (i, k) composed with cell (k, j) for all i, k, j, equal ones included (01, "Settling"; document 003)
abbrev pub Settled : ℕ → Rel → Type 0
Settled n R = (i k j a b : ℕ) → i < n → k < n → j < n → T (R i j a b) → T (composed R i k j a b)

-- one round: every cell becomes what lies in it and in every composition through k, all taken from R (document 003, matrix reduction)
unfoldable pub round : ℕ → Rel → Rel
round n R i j a b = R i j a b && all n (λ k. composed R i k j a b)

-- r rounds, one after the other
unfoldable pub rounds : ℕ → ℕ → Rel → Rel
rounds n zero R = R
rounds n (suc r) R = round n (rounds n r R)

-- M is the largest settled relation within R
pub record Largest (n : ℕ) (R M : Rel) : Type 0 where
  pub settled : Settled n M
  pub within : Within n M R
  pub above : (S : Rel) → Settled n S → Within n S R → Within n S M

-- Q comes from R by a sound reduction: it lies within R, and no settled relation within R loses a pair
pub record Sound (n : ℕ) (R Q : Rel) : Type 0 where
  pub within : Within n Q R
  pub keeps : (S : Rel) → Settled n S → Within n S R → Within n S Q

-- Full readings, kept readings, empty tables, and the number of allowed pairs.
use Rattle.std.specs.Prelude.{Bool, not, ℕ, suc, ◌+◌, ◌-◌, ◌*◌, ◌/◌, ◌<◌, T}
use Rattle.theory.specs.Limits.{readings_most}
use Rattle.theory.specs.Bound.{all, any, sum, count}
use Rattle.theory.specs.Relation.{Rel}

-- x takes one reading for each field such that every pair is allowed, each field with itself included (document 004, section 2)
abbrev pub Full : ℕ → Rel → (ℕ → ℕ) → Type 0
Full n R x = (i j : ℕ) → i < n → j < n → T (R i j (x i) (x j))

-- reading a of field i is kept: its diagonal bit is 1; else it is struck
abbrev pub kept : Rel → ℕ → ℕ → Bool
kept R i a = R i i a a

-- how many readings of field i are kept
abbrev pub kept_count : Rel → ℕ → ℕ
kept_count R i = count readings_most (kept R i)

-- cell (i, j) holds a pair
unfoldable pub holds : Rel → ℕ → ℕ → Bool
holds R i j = any readings_most (λ a. any readings_most (λ b. R i j a b))

-- no cell holds a pair
unfoldable pub empty : ℕ → Rel → Bool
empty n R = all n (λ i. all n (λ j. not (holds R i j)))

-- the number of allowed pairs on or above the diagonal
unfoldable pub pairs : ℕ → Rel → ℕ
pairs n R = sum n (λ j. sum (suc j) (λ i. sum readings_most (λ a. count readings_most (λ b. R i j a b))))

-- the most there can be: 32 on the diagonal of each field, 32 times 32 in each cell above
abbrev pub pairs_most : ℕ → ℕ
pairs_most n = n * readings_most + n * (n - 1) / 2 * (readings_most * readings_most)

-- One row of a table: a word of 32 bits, of which bit b is worth 2 ^ b (01, "The table").
use Rattle.std.specs.Prelude.{Bool, ◌&&◌, ℕ, zero, suc, ◌+◌, ◌*◌, ◌/◌, ◌%◌, ◌^◌, eqb, leb}
use Rattle.theory.specs.Bound.{val, any}
use Rattle.theory.specs.Limits.{readings_most}

-- bit b of w is 1
unfoldable pub bit : ℕ → ℕ → Bool
bit w b = eqb (w / 2 ^ b % 2) 1

-- the word whose bits below k are p 0 .. p (k - 1), and that has no other
unfoldable pub pack : ℕ → (ℕ → Bool) → ℕ
pack zero p = 0
pack (suc k) p = pack k (λ b. p (suc b)) * 2 + val (p 0)

-- b lies in the span of w: some bit at or below b is 1, and some bit at or above b
unfoldable pub spanned : ℕ → ℕ → Bool
spanned w b = any (suc b) (bit w) && any readings_most (λ c. leb b c && bit w c)

-- Whole rows: no two ones of a row are separated by a reading that stands (01, "Rows"; document 000, definition 5).
use Rattle.std.specs.Prelude.{Bool, not, ◌&&◌, ◌||◌, ℕ, ◌<◌, T, ltb}
use Rattle.theory.specs.Limits.{readings_most}
use Rattle.theory.specs.Bound.{all}
use Rattle.theory.specs.Relation.{Rel}

-- reading b of field j stands, so that a 0 there breaks a row: every reading of the field does
unfoldable pub stands : (ℕ → ℕ) → Rel → ℕ → ℕ → Bool
stands size R j b = ltb b (size j)

-- the row p is whole: every reading that stands between two of its ones is one of them; an empty row is whole
abbrev pub Whole : (ℕ → Bool) → (ℕ → Bool) → Type 0
Whole stand p = (b1 b b2 : ℕ) → b1 < b → b < b2 → T (p b1) → T (p b2) → T (stand b) → T (p b)

-- the test of that, over the readings below 32
unfoldable pub whole : (ℕ → Bool) → (ℕ → Bool) → Bool
whole stand p = all readings_most (λ b2. all b2 (λ b. all b (λ b1. not (p b1 && (p b2 && stand b)) || p b)))

-- every row of the table is whole
abbrev pub WholeRows : ℕ → (ℕ → ℕ) → Rel → Type 0
WholeRows n size R = (i j a : ℕ) → i < n → j < n → Whole (stands size R j) (R i j a)

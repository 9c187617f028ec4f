-- The shape tests 4, 5 and 6 on the words of one cell.
use Rattle.std.specs.Prelude.{Bool, not, ◌&&◌, List, ℕ, eqb, ltb, get_or}
use Rattle.std.specs.Bool.{xor}
use Rattle.theory.specs.Limits.{readings_most}
use Rattle.theory.specs.Bound.{any}
use Rattle.words.specs.Word.{bit}

-- row a has a bit outside the first size rows and the mask
unfoldable pub stray_in : ℕ → ℕ → List ℕ → ℕ → Bool
stray_in size mask cell a = any readings_most (λ b. bit (get_or cell a 0) b && not (ltb a size && bit mask b))

-- row a has a bit other than bit a
unfoldable pub diagonal_in : List ℕ → ℕ → Bool
diagonal_in cell a = any readings_most (λ b. bit (get_or cell a 0) b && not (eqb a b))

-- row a differs from column a of the mirror
unfoldable pub mirror_in : List ℕ → List ℕ → ℕ → Bool
mirror_in cell mirror a = any readings_most (λ b. xor (bit (get_or cell a 0) b) (bit (get_or mirror b 0) a))

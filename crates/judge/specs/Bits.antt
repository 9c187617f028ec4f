-- A table with no bit.
use Rattle.std.specs.Prelude.{Bool, List, ℕ, eqb, length, get_or}
use Rattle.theory.specs.Bound.{all}

-- every word is 0
unfoldable pub no_bit : List ℕ → Bool
no_bit t = all (length t) (λ p. eqb (get_or t p 0) 0)

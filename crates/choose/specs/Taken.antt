-- What is taken on the way through the fields, and what goes with it.
use Rattle.std.specs.Prelude.{Bool, not, ◌&&◌, ◌||◌, ℕ, ◌<◌, T}
use Rattle.theory.specs.Limits.{readings_most}
use Rattle.theory.specs.Bound.{all, any}
use Rattle.theory.specs.Relation.{Rel}
use Rattle.theory.specs.Choice.{free}

-- a choice that is not free is a reading's number
abbrev pub Small : ℕ → Type 0
Small v = T (not (free v)) → v < readings_most

abbrev pub Readings : ℕ → (ℕ → ℕ) → Type 0
Readings n taken = (g : ℕ) → g < n → Small (taken g)

-- reading b of field f goes with a reading of f
unfoldable pub own : Rel → ℕ → ℕ → Bool
own R f b = any readings_most (λ a. R f f a b)

-- and with all that is taken
unfoldable pub fitting : ℕ → Rel → (ℕ → ℕ) → ℕ → ℕ → Bool
fitting n R taken f b = own R f b && all n (λ g. free (taken g) || R g f (taken g) b)

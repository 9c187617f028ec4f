-- Checks that go in number order: each says its number and place, or leaves the word to what comes after it (01, "Numbers given back").
use Rattle.std.specs.Prelude.{◌≡◌, ◌⊎◌, Bool, cond, ℕ, ◌≤◌, ltb}
use Rattle.theory.specs.Bound.{first}
use Rattle.refusal.specs.Said.{Said}

-- say speaks of the first number below n of which p holds; where there is none, rest does
abbrev pub at_first : ℕ → (ℕ → Bool) → (ℕ → Said) → Said → Said
at_first n p say rest = cond (ltb (first n p) n) (say (first n p)) rest

-- the checks refuse, whatever comes after them
abbrev pub Refuses : (Said → Said) → Type 0
Refuses after = (k : Said) × (1 ≤ k.state) × ((rest : Said) → after rest ≡ k)

-- the checks `after` refuse where P does not hold, and there alone
pub record Check (P : Type 0) (after : Said → Said) : Type 0 where
  pub passes : P → (rest : Said) → after rest ≡ rest
  pub decides : P ⊎ Refuses after

-- How many rounds settling takes, and what it answers (01, "Settling").
use Rattle.std.specs.Prelude.{Bool, not, ◌||◌, ℕ, suc, ◌≤◌, ◌<◌}
use Rattle.theory.specs.Limits.{readings_most}
use Rattle.theory.specs.Bound.{all, first}
use Rattle.theory.specs.Relation.{Rel, Agree, round, rounds}
use Rattle.theory.specs.Reading.{pairs}

-- a round changes nothing
abbrev pub Stable : ℕ → Rel → Type 0
Stable n R = Agree n (round n R) R

-- the test of that
unfoldable pub stable : ℕ → Rel → Bool
stable n R = all n (λ i. all n (λ j. all readings_most (λ a. all readings_most (λ b. not (R i j a b) || round n R i j a b))))

-- r: the least number of rounds after which a further one changes nothing
unfoldable pub steps : ℕ → Rel → ℕ
steps n R = first (suc (pairs n R)) (λ r. stable n (rounds n r R))

-- settled within the budget: r rounds, each of which changed something, and a further one changes nothing
pub record Settles (n : ℕ) (R : Rel) (budget r : ℕ) : Type 0 where
  pub enough : r ≤ budget
  pub ends : Stable n (rounds n r R)
  pub moves : (q : ℕ) → q < r → Stable n (rounds n q R) → ⊥

-- unfinished: each of the budgeted rounds changed something, and one more would
abbrev pub Unfinished : ℕ → Rel → ℕ → Type 0
Unfinished n R budget = (q : ℕ) → q ≤ budget → Stable n (rounds n q R) → ⊥

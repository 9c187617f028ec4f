-- How the rounds of a table end, in the words of the code (01, "Settling").
use Rattle.std.specs.Prelude.{◌≡◌, cond, List, ℕ, leb, Option, Some, None}
use Rattle.theory.specs.Relation.{Rel, WellFormed, round}
use Rattle.theory.specs.Settling.{steps}
use Rattle.table.specs.Layout.{rel, words}
use Rattle.settle.specs.Settle.{reached}

-- R is well formed, for some sizes
abbrev pub Formed : ℕ → Rel → Type 0
Formed n R = (size : ℕ → ℕ) × WellFormed n size R

-- r rounds, if the budget allows them
unfoldable pub stops : ℕ → Rel → ℕ → Option ℕ
stops n R budget = cond (leb (steps n R) budget) (Some (steps n R)) None

-- the rounds of t have ended, with t' in the table and s' in scratch
pub record Ran (n : ℕ) (t : List ℕ) (budget : ℕ) (stop : Option ℕ) (t' s' : List ℕ) : Type 0 where
  pub stopped : stop ≡ stops n (rel n t) budget
  pub table : t' ≡ words n (reached n (rel n t) budget)
  pub scratch : s' ≡ words n (round n (reached n (rel n t) budget))

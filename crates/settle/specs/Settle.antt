-- What settling answers, and what it leaves in the table and in scratch (01, "Settling").
use Rattle.std.specs.Prelude.{◌≡◌, Bool, cond, List, [], ◌∷◌, ℕ, min, eqb, leb, length, Option, Some, None, Result, Ok}
use Rattle.theory.specs.Bound.{val}
use Rattle.theory.specs.Relation.{Rel, round, rounds}
use Rattle.theory.specs.Reading.{empty}
use Rattle.theory.specs.Settling.{steps}
use Rattle.refusal.specs.Said.{Said, says, said_by}
use Rattle.refusal.specs.declared.Refusal.{Refusal}
use Rattle.table.specs.Layout.{table_length, rel, words}
use Rattle.table.specs.Shape.{after_shape, GoodTable}
use Rattle.settle.specs.declared.Settled.{Settled}

-- what a table stands for, by its sizes
abbrev pub rel_of : List ℕ → List ℕ → Rel
rel_of sizes t = rel (length sizes) t

-- sizes, a table and scratch that pass 1 to 7
pub record GoodLent (sizes t s : List ℕ) : Type 0 where
  pub good : GoodTable sizes t
  pub other : length s ≡ table_length (length sizes)

-- what settling answers: what it came to, or nothing where the budget is spent, or a refusal
abbrev pub Settling : Type 0
Settling = Result (Option Settled) Refusal

-- settled after r rounds, empty or not
abbrev pub settled_after : ℕ → Bool → Settling
settled_after r e = Ok (Some (record { rounds = r; empty = e }))

-- the budget is spent
abbrev pub unfinished : Settling
unfinished = Ok None

-- settled says r and 1 for empty or 0; unfinished says no value
abbrev pub said_settled : Option Settled → Said
said_settled (Some x) = says 0 (x.rounds ∷ val x.empty ∷ [])
said_settled None = says 0 []

-- that, or the refusal
abbrev pub said_settling : Settling → Said
said_settling = said_by said_settled

-- 1 to 7: the checks of sizes, table and scratch, then the rest
unfoldable pub after_lent : List ℕ → List ℕ → List ℕ → Said → Said
after_lent sizes t s rest = after_shape sizes t (cond (eqb (length s) (table_length (length sizes))) rest (says 7 []))

-- R settles within the budget, or it does not
unfoldable pub rounds_say : ℕ → Rel → ℕ → Said
rounds_say n R budget = cond (leb (steps n R) budget) (says 0 (steps n R ∷ val (empty n (rounds n (steps n R) R)) ∷ [])) (says 0 [])

-- what settling says
unfoldable pub settle_says : List ℕ → List ℕ → List ℕ → ℕ → Said
settle_says sizes t s budget = after_lent sizes t s (rounds_say (length sizes) (rel_of sizes t) budget)

-- R after as many rounds as it takes, or the budget allows
unfoldable pub reached : ℕ → Rel → ℕ → Rel
reached n R budget = rounds n (min (steps n R) budget) R

-- what stands in the table afterwards: a refusal leaves it
unfoldable pub table_after : List ℕ → List ℕ → List ℕ → ℕ → List ℕ
table_after sizes t s budget = cond (eqb (settle_says sizes t s budget).state 0) (words (length sizes) (reached (length sizes) (rel_of sizes t) budget)) t

-- and in scratch: one further round
unfoldable pub scratch_after : List ℕ → List ℕ → List ℕ → ℕ → List ℕ
scratch_after sizes t s budget = cond (eqb (settle_says sizes t s budget).state 0) (words (length sizes) (round (length sizes) (reached (length sizes) (rel_of sizes t) budget))) s

-- the promise of settling: the answer, and the table and scratch as they are left
pub record Settlement (sizes t s : List ℕ) (budget : ℕ) (answer : Settling) (t' s' : List ℕ) : Type 0 where
  pub says : said_settling answer ≡ settle_says sizes t s budget
  pub table : t' ≡ table_after sizes t s budget
  pub scratch : s' ≡ scratch_after sizes t s budget

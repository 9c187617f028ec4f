-- What each answer says, in the paper's numbers (01, "Numbers given back").
use Rattle.std.specs.Prelude.{[], ◌∷◌, ℕ, Option, Some, None, Result}
use Rattle.refusal.specs.Said.{Said, says, said_by}
use Rattle.refusal.specs.declared.Refusal.{Refusal}
use Rattle.table.specs.declared.layout.Row.{Row}
use Rattle.judge.specs.declared.showing.Shown.{Shown}

-- the number of readings kept
abbrev pub said_kept : Result ℕ Refusal → Said
said_kept = said_by (λ k. says 0 (k ∷ []))

-- nothing where the rows are whole, and else the first broken row
abbrev pub said_row : Option Row → Said
said_row None = says 0 []
said_row (Some r) = says 0 (r.i ∷ r.j ∷ r.a ∷ [])

-- that, or the refusal
abbrev pub said_rows : Result (Option Row) Refusal → Said
said_rows = said_by said_row

-- 0 and the cell's start in the settled table, or 1 and its start in the opening table
abbrev pub said_place : Shown → Said
said_place (Shown.Settled at) = says 0 (0 ∷ at ∷ [])
said_place (Shown.Opening at) = says 0 (1 ∷ at ∷ [])

-- that, or the refusal
abbrev pub said_shown : Result Shown Refusal → Said
said_shown = said_by said_place

-- The first row that a round would change, and the check 8 (01, "Numbers given back").
use Rattle.std.specs.Prelude.{Bool, ◌&&◌, [], ℕ, leb, Option, Some, None}
use Rattle.theory.specs.Relation.{Rel}
use Rattle.refusal.specs.Said.{Said, says}
use Rattle.table.specs.Shape.{row_place, at_first_row}
use Rattle.table.specs.declared.layout.Row.{Row}
use Rattle.settle.specs.Round.{changed_row}

-- 8: the first row, in table order, that a round would change is refused
abbrev pub after_settled : ℕ → Rel → Said → Said
after_settled n R = at_first_row 8 n (changed_row n R)

-- what is found, as the refusal says it; nothing found says no value
abbrev pub said_changed : Option Row → Said
said_changed (Some r) = says 8 (row_place r)
said_changed None = says 0 []

-- a round would change row a of cell (i, j), which is on or above the diagonal
unfoldable pub changed_above : ℕ → Rel → ℕ → ℕ → ℕ → Bool
changed_above n R i j a = leb i j && changed_row n R i j a

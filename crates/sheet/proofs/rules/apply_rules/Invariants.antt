-- The rules one after the other, up to EN.
use mathlib.Core.Path.{◌≡◌}
use Prim.Native.Nat.{◌-◌}
use lib.ListN.{length}
use Rattle.table.specs.Layout.{table_length}
use Rattle.table.specs.LayoutLaws.{Fit}
use Rattle.sheet.specs.Writing.{RulesTo}
use Rattle.sheet.proofs.rules.apply_rules.Given as goal

abbrev pub invariant-loop-table : goal.invariant-loop-table
invariant-loop-table l = RulesTo l.sheet l.sizes l.days l.table l.at × Fit l.table × (length l.initial.table ≡ table_length (length l.sizes))

abbrev pub decreases-loop-table : goal.decreases-loop-table
decreases-loop-table l = length l.sheet - l.at

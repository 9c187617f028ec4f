-- `row_at` meets its contract: it is the definition, and a table that has a row has a field.
use mathlib.Core.Path.{refl}
use Rattle.table.specs.Layout.{table_row}
use Rattle.table.specs.LayoutLaws.{row_in}
use Rattle.table.proofs.layout.row_at.Goals as goal

pub returns : goal.returns
unfolding table_row
returns c = record { is = refl; within = row_in _ _ c.requires }

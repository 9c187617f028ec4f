-- The three passes: fields, everything, rules.
use mathlib.Core.Path.{sym, ap, ◌∙◌}
use Rattle.table.specs.Layout.{table_length}
use Rattle.sheet.proofs.Ruling.{fields_at_end, fields-written, sizes-good, rules_start}
use Rattle.sheet.proofs.write.Goals as goal

pub open_table-requires : goal.open_table-requires
open_table-requires c = (sizes-good (fields_at_end c.requires.0 c.write_fields-at.ensures), c.requires.2 ∙ ap table_length (sym (c.write_fields-at.ensures.all_sizes ∙ c.requires.0.count)))

pub apply_rules-requires : goal.apply_rules-requires
apply_rules-requires c = rules_start (fields_at_end c.requires.0 c.write_fields-at.ensures) c.open_table.ensures

pub returns : goal.returns
returns c = record { written = fields-written (fields_at_end c.requires.0 c.write_fields-at.ensures); table = c.apply_rules.ensures }

-- The next field is there, and is written into its own 32 days.
use native.Mathlib.Omega.{arith}
use Rattle.sheet.proofs.Filling.{field_there, field_read, field_written}
use Rattle.sheet.proofs.fields.write_field.Goals as goal

pub mark_at-requires : goal.mark_at-requires
mark_at-requires c = field_there c.requires.0 c.requires.1

pub field_at-requires : goal.field_at-requires
field_at-requires c = omega (arith, field_there c.requires.0 c.requires.1)

pub unwrap-read-requires : goal.unwrap-read-requires
unwrap-read-requires c = field_read c.requires.0 c.requires.1 c.mark_at.ensures c.field_at.ensures

pub returns : goal.returns
returns c = field_written c.requires.0 c.requires.1 c.mark_at.ensures c.field_at.ensures c.unwrap-read.ensures c.copy_from_slice.ensures.after

-- The fields one after the other.
use Rattle.sheet.specs.Writing.{FieldsTo}
use Rattle.sheet.proofs.fields.write_fields.Given as goal

abbrev pub invariant-loop-i : goal.invariant-loop-i
invariant-loop-i l = FieldsTo l.sheet l.sizes l.days l.i l.at

use Rattle.sheet.proofs.Filling.{fields_none}
use Rattle.sheet.proofs.fields.write_fields.Goals as goal

pub loop-i-init : goal.loop-i-init
loop-i-init c = fields_none c.requires.0 c.requires.1

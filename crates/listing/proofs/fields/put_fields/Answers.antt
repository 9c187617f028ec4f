use Rattle.text.specs.JoinedLaws.{joining_start, joining_room, joining_more}
use Rattle.listing.proofs.fields.put_fields.Goals as goal

pub loop-i-init : goal.loop-i-init
loop-i-init c = joining_start c.requires.1

pub put_field-requires : goal.put_field-requires
put_field-requires c = (c.requires.0, c.loop-i-test.true, joining_room c.loop-i.invariant c.loop-i-test.true)

pub loop-i-preserved : goal.loop-i-preserved
loop-i-preserved c = joining_more c.loop-i.invariant c.loop-i-test.true c.put_field.ensures

use Rattle.std.proofs.Common.{[], ◌∷◌}
use Rattle.text.specs.Text.{decimal}
use Rattle.text.specs.WritingLaws.{room-front, room_after}
use Rattle.text.specs.PutsLaws.{puts_then}
use Rattle.text.specs.JoinedLaws.{joining_start, joining_room, joining_more, joining_end, joined_numbers}
use Rattle.text.proofs.write.Writer.put_numbers.Goals as goal

pub loop-v-init : goal.loop-v-init
loop-v-init c = joining_start (rw joined_numbers c.requires)

pub put_byte-requires : goal.put_byte-requires
put_byte-requires c = room-front (32 ∷ []) (decimal _) (joining_room c.loop-v.invariant c.loop-v-test.true)

pub put_decimal-requires : goal.put_decimal-requires
put_decimal-requires c = room_after (decimal _) c.put_byte.ensures.wrote (joining_room c.loop-v.invariant c.loop-v-test.true)

pub loop-v-preserved : goal.loop-v-preserved
loop-v-preserved c = joining_more c.loop-v.invariant c.loop-v-test.true (puts_then c.put_byte.ensures c.put_decimal.ensures)

pub returns : goal.returns
returns c = rw joined_numbers at (joining_end c.loop-v.invariant c.loop-v-test.false)

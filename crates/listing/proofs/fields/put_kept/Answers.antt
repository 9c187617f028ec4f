-- `fields::put_kept` meets its contract: the field, the count and the days are put one after the other.
use Rattle.std.proofs.Common.{[], ◌∷◌, ◌++◌, length}
use Rattle.text.specs.WritingLaws.{room-front, room_after}
use Rattle.text.specs.PutsLaws.{puts_then}
use Rattle.text.specs.Text.{numbers, said, line_feed, field_line}
use Rattle.listing.proofs.fields.put_kept.Goals as goal

pub put_said-requires : goal.put_said-requires
unfolding field_line
put_said-requires c = room-front (said "field" (c.args.i ∷ [])) (said " kept" (length c.args.days.now ∷ []) ++ (numbers c.args.days.now ++ line_feed)) c.requires

pub put_said-requires-2 : goal.put_said-requires-2
unfolding field_line
put_said-requires-2 c = room-front (said " kept" (length c.args.days.now ∷ [])) (numbers c.args.days.now ++ line_feed) (room_after _ c.put_said.ensures.wrote c.requires)

pub put_line-requires : goal.put_line-requires
unfolding field_line
put_line-requires c = room_after _ c.put_said-2.ensures.wrote (room_after _ c.put_said.ensures.wrote c.requires)

pub returns : goal.returns
unfolding field_line
returns c = puts_then c.put_said.ensures (puts_then c.put_said-2.ensures c.put_line.ensures)

-- `first::put_chosen` meets its contract: the word is put, then the days of the answer, then a line feed.
use Rattle.text.specs.WritingLaws.{room_after}
use Rattle.text.specs.PutsLaws.{puts_then}
use Rattle.text.specs.Text.{line_feed}
use Rattle.listing.proofs.first.put_chosen.Goals as goal

pub put_byte-requires : goal.put_byte-requires
put_byte-requires c = room_after line_feed (puts_then c.put_bytes.ensures c.put_days.ensures).wrote c.requires.1

pub returns : goal.returns
returns c = puts_then (puts_then c.put_bytes.ensures c.put_days.ensures) c.put_byte.ensures

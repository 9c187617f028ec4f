-- `Writer::put_line` meets its contract: a line feed is put after the word and the numbers.
use Rattle.text.specs.Text.{line_feed}
use Rattle.text.specs.WritingLaws.{room_after}
use Rattle.text.specs.PutsLaws.{puts_then}
use Rattle.text.proofs.write.Writer.put_line.Goals as goal

pub put_byte-requires : goal.put_byte-requires
put_byte-requires c = room_after line_feed c.put_said.ensures.wrote c.requires

pub returns : goal.returns
returns c = puts_then c.put_said.ensures c.put_byte.ensures

-- `Writer::put_said` meets its contract: the word is put, then the numbers after it.
use Rattle.text.specs.Text.{numbers}
use Rattle.text.specs.WritingLaws.{room_after}
use Rattle.text.specs.PutsLaws.{puts_then}
use Rattle.text.proofs.write.Writer.put_said.Goals as goal

pub put_numbers-requires : goal.put_numbers-requires
put_numbers-requires c = room_after (numbers c.args.values.now) c.put_bytes.ensures.wrote c.requires

pub returns : goal.returns
returns c = puts_then c.put_bytes.ensures c.put_numbers.ensures

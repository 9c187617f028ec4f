-- `Writer::put_decimal` meets its contract: the digits are those of the number.
use Rattle.std.proofs.Common.{◌≡◌, ◌∙◌, sym}
use Rattle.text.specs.Text.{decimal}
use Rattle.text.specs.TextLaws.{printed_decimal}
use Rattle.text.specs.WritingLaws.{room_as}
use Rattle.text.specs.PutsLaws.{puts_as}
use Rattle.text.proofs.write.Writer.put_decimal.Goals as goal

pub put_bytes-requires : goal.put_bytes-requires
put_bytes-requires c = let e : c.as_bytes.result.now ≡ decimal c.args.n = c.as_bytes.ensures.value ∙ c.format.ensures.text ∙ printed_decimal c.args.n c.ranges.n.fits in room_as (sym e) c.requires

pub returns : goal.returns
returns c = let e : c.as_bytes.result.now ≡ decimal c.args.n = c.as_bytes.ensures.value ∙ c.format.ensures.text ∙ printed_decimal c.args.n c.ranges.n.fits in puts_as e c.put_bytes.ensures

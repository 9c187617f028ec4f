-- `words::with_bit` meets its contract: the mask has bit b alone.
use Rattle.words.proofs.Masks.{put-bit}
use Rattle.words.proofs.with_bit.Goals as goal

pub returns : goal.returns
returns c = put-bit 32 c.args.w c.args.b c.ranges.w.fits c.requires

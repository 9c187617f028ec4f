-- `words::without_bit` meets its contract: the mask has every bit but b.
use Rattle.words.proofs.Masks.{drop-bit}
use Rattle.words.proofs.without_bit.Goals as goal

pub returns : goal.returns
returns c = drop-bit 32 c.args.w c.args.b c.ranges.w.fits c.requires

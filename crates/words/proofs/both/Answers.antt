-- `words::both` meets its contract: the machine's and, bit by bit.
use Rattle.words.proofs.Masks.{and-pack}
use Rattle.words.proofs.both.Goals as goal

pub returns : goal.returns
returns c = and-pack 32 c.args.w c.args.v c.ranges.w.fits c.ranges.v.fits

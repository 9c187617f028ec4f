-- `words::high_of` meets its contract: the mask parts the two words.
use Rattle.words.proofs.Passes.{high-pack}
use Rattle.words.proofs.turn.high_of.Goals as goal

pub returns : goal.returns
returns c = high-pack c.args.x c.args.y c.args.k c.args.mask c.ranges.y.fits c.ranges.mask.fits

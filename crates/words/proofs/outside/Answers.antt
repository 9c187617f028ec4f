-- `words::outside` meets its contract: a word is not 0 exactly where it has some bit.
use Rattle.words.proofs.Masks.{outside-any}
use Rattle.words.proofs.outside.Goals as goal

pub returns : goal.returns
returns c = outside-any 32 c.args.w c.args.mask c.ranges.w.fits c.ranges.mask.fits

-- `words::low_of` meets its contract: outside the mask the shifted word alone has bits.
use Rattle.words.proofs.Passes.{low-pack}
use Rattle.words.proofs.turn.low_of.Goals as goal

pub returns : goal.returns
returns c = low-pack c.args.x c.args.y c.args.k c.args.mask c.ranges.x.fits c.ranges.mask.fits c.requires.1

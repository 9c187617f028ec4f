-- `words::ones` meets its contract: the machine counts the ones bit by bit.
use Rattle.words.specs.EndLaws.{ones-count}
use Rattle.words.proofs.ones.Goals as goal

pub returns : goal.returns
returns c = ones-count 32 c.args.w c.ranges.w.fits

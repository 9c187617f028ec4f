-- `words::lowest` meets its contract: as many zeros stand below the lowest one as its place says.
use Rattle.words.specs.EndLaws.{trailing-first}
use Rattle.words.proofs.lowest.Goals as goal

pub returns : goal.returns
returns c = trailing-first 32 c.args.w

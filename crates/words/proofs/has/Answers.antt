-- `words::has` meets its contract: the shift brings bit b to the lowest place, and the mask leaves it alone.
use Rattle.words.specs.MachineLaws.{bit_test}
use Rattle.words.proofs.has.Goals as goal

pub returns : goal.returns
returns c = bit_test c.args.w c.args.b

-- `clear` meets its contract: one word is written, without the bit.
use Rattle.table.proofs.Parts.{cleared_is}
use Rattle.table.proofs.striking.clear.Goals as goal

pub returns : goal.returns
returns c = cleared_is _ _ _ c.without_bit.ensures

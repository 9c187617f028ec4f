-- `fields_of` meets its contract: a word with no bit gets two.
use Rattle.settle.proofs.Marks.{two_bits}
use Rattle.settle.proofs.round.fields_of.Goals as goal

pub returns : goal.returns
returns c = two_bits _ _ _ _ c.with_bit.ensures c.with_bit-2.ensures

-- `words::below` meets its contract: one less than `1 << size` has the bits below size; from 32 on, all bits are below.
use Rattle.words.proofs.Masks.{all-below, some_below}
use Rattle.words.proofs.below.Goals as goal

pub returns-then-size-ge-BITS : goal.returns-then-size-ge-BITS
returns-then-size-ge-BITS c = all-below 32 c.args.size c.if-size-ge-BITS.true

pub returns : goal.returns
returns c = some_below 32 c.args.size c.if-size-ge-BITS.false

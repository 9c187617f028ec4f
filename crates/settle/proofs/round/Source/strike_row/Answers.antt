-- `strike_row` meets its contract: the row's bits that a round takes away are struck, and both fields lose a pair where there is one.
use borrow.Author.Rules.{rules}
use native.Mathlib.Omega.{arith}
use native.Mathlib.Nat.{pos_of_ne-zero}
use Rattle.settle.proofs.Marks.{row_none, row_done}
use Rattle.settle.proofs.round.Source.strike_row.Goals as goal

pub returns-then-lost-eq0 : goal.returns-then-lost-eq0
returns-then-lost-eq0 c = row_none c.if-lost-eq0.true _ _ _ _ _ _ (search rules) (search rules) (search rules) (search rules)

pub returns : goal.returns
returns c =
    row_done (pos_of_ne-zero c.if-lost-eq0.false) _ _ _ _ _ _ _ _ (search rules) (search rules) (search rules) (search rules)
    (omega arith) c.strike_bits.ensures c.fields_of.ensures

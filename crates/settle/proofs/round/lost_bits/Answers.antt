-- `lost_bits` meets its contract: the row less what the round leaves of it.
use borrow.Author.Rules.{rules}
use native.Mathlib.Omega.{arith}
use Rattle.settle.proofs.Marks.{row_less_round}
use Rattle.settle.proofs.round.lost_bits.Goals as goal

pub returns : goal.returns
returns c = row_less_round _ _ _ _ _ _ _ (search rules) (omega (arith, c.row_word)) c.row_word.ensures c.round_row.ensures

use native.Mathlib.Omega.{arith}
use Rattle.sheet.proofs.Words.{own_none, own_one}
use Rattle.sheet.proofs.open.own_row.Goals as goal

pub returns-then-a-rows : goal.returns-then-a-rows
returns-then-a-rows c = own_none _ _ _ (omega arith)

pub returns : goal.returns
returns c = own_one _ _ _ _ _ (omega arith) c.with_bit.ensures c.both.ensures

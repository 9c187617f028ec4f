-- `driver::making::Words::copy` meets its contract: the words gone through are those of the other table.
use Rattle.std.proofs.Common.{◌≡◌, take}
use Rattle.driver.proofs.making.Words.copy.Given as goal

abbrev pub invariant-loop-p : goal.invariant-loop-p
invariant-loop-p l = take l.p l.self.room ≡ take l.p l.from.room

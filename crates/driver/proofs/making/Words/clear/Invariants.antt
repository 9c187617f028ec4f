-- `driver::making::Words::clear` meets its contract: the words gone through are zeros.
use Rattle.std.proofs.Common.{◌≡◌, replicate, take}
use Rattle.driver.proofs.making.Words.clear.Given as goal

abbrev pub invariant-loop-p : goal.invariant-loop-p
invariant-loop-p l = take l.p l.self.room ≡ replicate l.p 0

-- `driver::making::Words::fill` meets its contract: the words so far are those of the cells and rows gone through.
use Rattle.std.proofs.Common.{◌≡◌, ◌+◌, ◌*◌, length}
use Rattle.driver.proofs.making.Words.fill.Given as goal

abbrev pub invariant-loop-a : goal.invariant-loop-a
invariant-loop-a l = l.self.count ≡ (l.i * length l.sizes + l.j) * 32 + l.a

abbrev pub invariant-loop-j : goal.invariant-loop-j
invariant-loop-j l = l.self.count ≡ (l.i * length l.sizes + l.j) * 32

abbrev pub invariant-loop-i : goal.invariant-loop-i
invariant-loop-i l = l.self.count ≡ l.i * length l.sizes * 32

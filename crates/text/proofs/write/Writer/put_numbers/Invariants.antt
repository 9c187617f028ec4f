-- `Writer::put_numbers` meets its contract: each turn puts a space and a number.
use Rattle.std.proofs.Common.{length, get_or}
use Rattle.text.specs.Text.{number}
use Rattle.text.specs.JoinedLaws.{Joining}
use Rattle.text.proofs.write.Writer.put_numbers.Given as goal

abbrev pub invariant-loop-v : goal.invariant-loop-v
invariant-loop-v l = Joining (length l.values) (λ p. number (get_or l.values p 0)) l.initial.self l.self l.v-index

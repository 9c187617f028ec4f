-- `fields::put_days` meets its contract: each turn puts the day of one field.
use Rattle.std.proofs.Common.{length, get_or}
use Rattle.text.specs.Text.{number}
use Rattle.text.specs.JoinedLaws.{Joining}
use Rattle.listing.specs.Listing.{day_in}
use Rattle.listing.proofs.fields.put_days.Given as goal

abbrev pub invariant-loop-i : goal.invariant-loop-i
invariant-loop-i l = Joining (length l.answer) (λ k. number (day_in l.days k (get_or l.answer k 0))) l.initial.w l.w l.i

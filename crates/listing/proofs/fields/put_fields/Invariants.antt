-- `fields::put_fields` meets its contract: each turn puts one field's line.
use Rattle.table.specs.Layout.{rel}
use Rattle.text.specs.JoinedLaws.{Joining}
use Rattle.listing.specs.Listing.{day_in, kept_days}
use Rattle.text.specs.Text.{field_line}
use Rattle.listing.proofs.fields.put_fields.Given as goal

abbrev pub invariant-loop-i : goal.invariant-loop-i
invariant-loop-i l = Joining l.n (λ f. field_line f (kept_days (rel l.n l.table) (day_in l.days) f)) l.initial.w l.w l.i

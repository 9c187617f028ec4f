use Rattle.std.proofs.Common.{◌≡◌, ℕ, [], ◌∷◌, get_or, sym, ap, ◌∙◌}
use Rattle.text.specs.Text.{number, numbers}
use Rattle.text.specs.TextLaws.{numbers_one}
use Rattle.text.specs.WritingLaws.{room_as}
use Rattle.text.specs.PutsLaws.{puts_as}
use Rattle.text.specs.JoinedLaws.{joining_start, joining_room, joining_more, joining_end}
use Rattle.listing.specs.ListingLaws.{numbers-days}
use Rattle.listing.specs.Listing.{day_in}
use Rattle.listing.proofs.fields.put_days.Goals as goal

-- the number that a turn puts
turn : {d v : ℕ} → d ≡ v → numbers (d ∷ []) ≡ number v
turn {d} {v} e = ap (λ (x : ℕ). numbers (x ∷ [])) e ∙ numbers_one v

pub loop-i-init : goal.loop-i-init
loop-i-init c = joining_start (room_as (numbers-days _ _ _) c.requires.1)

pub put_numbers-requires : goal.put_numbers-requires
put_numbers-requires c =
    let e : c.day.result ≡ day_in c.args.days.now c.loop-i.i (get_or c.args.answer.now c.loop-i.i 0) = cc (c.day.ensures, c.from.ensures) in
    room_as (sym (turn e)) (joining_room c.loop-i.invariant c.loop-i-test.true)

pub loop-i-preserved : goal.loop-i-preserved
loop-i-preserved c =
    let e : c.day.result ≡ day_in c.args.days.now c.loop-i.i (get_or c.args.answer.now c.loop-i.i 0) = cc (c.day.ensures, c.from.ensures) in
    joining_more c.loop-i.invariant c.loop-i-test.true (puts_as (turn e) c.put_numbers.ensures)

pub returns : goal.returns
returns c = puts_as (sym (numbers-days _ _ _)) (joining_end c.loop-i.invariant c.loop-i-test.false)

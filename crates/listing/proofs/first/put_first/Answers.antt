-- `first::put_first` meets its contract: choosing finds the reading whose days are printed, and refuses where there is none.
use mathlib.Core.List.{◌++◌, List}
use mathlib.Core.Path.{◌≡◌, sym, ap, ◌∙◌}
use Prim.Native.Nat.{◌≤◌, ℕ}
use native.Mathlib.Omega.{arith}
use lib.ListN.{length, length-append}
use lib.Seq.{take_at, length-take-le}
use Rattle.listing.specs.Listing.{day_in}
use Rattle.text.specs.WritingLaws.{room_as}
use Rattle.text.specs.PutsLaws.{puts_as}
use Rattle.text.specs.Text.{first_line}
use Rattle.listing.proofs.Choosing.{all-free, chosen_line, answered, none_chosen}
use Rattle.listing.proofs.first.put_first.Goals as goal

behind : (l z : List ℕ) {n : ℕ} → length l ≡ n → n ≤ length (l ++ z)
behind l z e = omega (arith, length-append l z)

pub put_chosen-requires : goal.put_chosen-requires
put_chosen-requires c =
    let long : length c.choose.new.answer ≡ length c.args.sizes.now = c.choose.ensures.long ∙ length-take-le _ _ (omega (arith, c.requires.0.good.good.few)) in
    let free = all-free c.args.sizes.now c.requires.0.good.good.few in
    rw take_at (
      answered c.requires.0 c.choose.ensures free c.in-Ok.is long,
      room_as (chosen_line c.requires.0 c.choose.ensures free c.in-Ok.is (day_in c.args.days.now) long) c.requires.1,
    )

pub put_line-requires : goal.put_line-requires
put_line-requires c =
    let few = c.requires.0.good.good.few in
    let room = λ (l : List ℕ) (h : length c.args.sizes.now ≤ length l). length-take-le (length c.args.sizes.now) l h in
    let free = all-free c.args.sizes.now few in
    let none = none_chosen c.requires.0 c.choose.ensures free c.in-Err.is (room _ (omega arith)) (room _ (omega arith)) (day_in c.args.days.now) in
    room_as (ap first_line none) c.requires.1

pub returns-in-Ok : goal.returns-in-Ok
returns-in-Ok c =
    let long : length c.choose.new.answer ≡ length c.args.sizes.now = c.choose.ensures.long ∙ length-take-le _ _ (omega (arith, c.requires.0.good.good.few)) in
    let free = all-free c.args.sizes.now c.requires.0.good.good.few in
    puts_as (sym (chosen_line c.requires.0 c.choose.ensures free c.in-Ok.is (day_in c.args.days.now) long))
    (rw take_at at c.put_chosen.ensures)

pub returns-in-Err : goal.returns-in-Err
returns-in-Err c =
    let few = c.requires.0.good.good.few in
    let room = λ (l : List ℕ) (h : length c.args.sizes.now ≤ length l). length-take-le (length c.args.sizes.now) l h in
    let free = all-free c.args.sizes.now few in
    let none = none_chosen c.requires.0 c.choose.ensures free c.in-Err.is (room _ (omega arith)) (room _ (omega arith)) (day_in c.args.days.now) in
    puts_as (sym (ap first_line none)) c.put_line.ensures

-- `settled::put_settled` meets its contract: the lines are put one after the other, and there is room for all of them.
use mathlib.Core.List.{List}
use Prim.Native.Nat.{ℕ, ◌+◌, ◌*◌, ◌≤◌, ◌<◌}
use native.Mathlib.Omega.{arith}
use lib.ListN.{length, get_or}
use Rattle.theory.specs.Limits.{rounds_most}
use Rattle.table.specs.ShapeLaws.{good-sized}
use Rattle.table.specs.Layout.{rel, size_of}
use Rattle.text.specs.WritingLaws.{room-front, room_after}
use Rattle.text.specs.PutsLaws.{puts_then}
use Rattle.text.specs.Writing.{Room}
use Rattle.listing.specs.LengthLaws.{lines_length}
use Rattle.listing.specs.Listing.{text_most, day_in, lines_of, settled_lines, Ended}
use Rattle.listing.proofs.settled.put_settled.Goals as goal

room : {sizes t days out : List ℕ} {r at : ℕ} → Ended sizes t days → r ≤ rounds_most → at + text_most ≤ length out → ((k : ℕ) → get_or days k 0 < 65536)
    → Room out at (settled_lines sizes t (day_in days) r)
room {sizes} {t} {days} {r = r} g h l small =
    let n = length sizes in
    record { enough = omega (arith, lines_length n (size_of sizes) (day_in days) (rel n t) g.good.good.few (λ i a. omega (arith, small (i * 32 + a))) r h) }

pub put_rounds-requires : goal.put_rounds-requires
unfolding lines_of
put_rounds-requires c =
    let whole = room c.requires.0 c.requires.1 c.requires.2 (λ k. (c.type_inv.days k).fits) in
    room-front _ _ (room_after _ c.put_state.ensures.wrote whole)

pub put_fields-requires : goal.put_fields-requires
unfolding lines_of
put_fields-requires c =
    let whole = room c.requires.0 c.requires.1 c.requires.2 (λ k. (c.type_inv.days k).fits) in
    (record { sized = good-sized c.requires.0.good; long = c.requires.0.long }, room-front _ _ (room_after _ c.put_rounds.ensures.wrote (room_after _ c.put_state.ensures.wrote whole)))

pub put_rows-requires : goal.put_rows-requires
unfolding lines_of
put_rows-requires c =
    let whole = room c.requires.0 c.requires.1 c.requires.2 (λ k. (c.type_inv.days k).fits) in
    (c.requires.0.good, room-front _ _ (room_after _ c.put_fields.ensures.wrote (room_after _ c.put_rounds.ensures.wrote (room_after _ c.put_state.ensures.wrote whole))))

pub put_first-requires : goal.put_first-requires
unfolding lines_of
put_first-requires c =
    let whole = room c.requires.0 c.requires.1 c.requires.2 (λ k. (c.type_inv.days k).fits) in
    (c.requires.0, room_after _ c.put_rows.ensures.wrote (room_after _ c.put_fields.ensures.wrote (room_after _ c.put_rounds.ensures.wrote (room_after _ c.put_state.ensures.wrote whole))))

pub returns : goal.returns
unfolding lines_of
returns c = puts_then c.put_state.ensures (puts_then c.put_rounds.ensures (puts_then c.put_fields.ensures (puts_then c.put_rows.ensures c.put_first.ensures)))

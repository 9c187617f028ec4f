-- `Writer::put_state` meets its contract: the word and the number are put, then the place, then a line feed.
use Rattle.std.proofs.Common.{List, [], ◌∷◌, ◌++◌, ℕ, ◌+◌, ◌^◌, ◌≤◌, ◌<◌, length, get_or, arith}
use Rattle.refusal.specs.Said.{says}
use Rattle.text.specs.LengthLaws.{state-length, digits-all}
use Rattle.text.specs.Writing.{Room}
use Rattle.text.specs.Text.{line_most, said, place_text, line_feed, state_line}
use Rattle.text.specs.WritingLaws.{room-front, room_after}
use Rattle.text.specs.PutsLaws.{puts_then}
use Rattle.text.proofs.write.Writer.put_state.Goals as goal

room :
    {out : List ℕ} {at : ℕ} (state : ℕ) (place : List ℕ) → at + line_most ≤ length out → state < 100 → length place ≤ 3 →
    ((i : ℕ) → get_or place i 0 < 2 ^ 64) → Room out at (state_line (says state place))
room state place h k l small = record { enough = omega (arith, state-length (says state place) k l (digits-all place small)) }

pub put_said-requires : goal.put_said-requires
unfolding state_line
put_said-requires c =
    let r = room c.args.state c.args.place.now c.requires.0 c.requires.1 c.requires.2 (λ i. (c.type_inv.place i).fits) in
    room-front (said "state" (c.args.state ∷ [])) (place_text c.args.place.now ++ line_feed) r

pub put_place-requires : goal.put_place-requires
unfolding state_line
put_place-requires c =
    let r = room c.args.state c.args.place.now c.requires.0 c.requires.1 c.requires.2 (λ i. (c.type_inv.place i).fits) in
    room-front (place_text c.args.place.now) line_feed (room_after _ c.put_said.ensures.wrote r)

pub put_byte-requires : goal.put_byte-requires
unfolding state_line
put_byte-requires c =
    let r = room c.args.state c.args.place.now c.requires.0 c.requires.1 c.requires.2 (λ i. (c.type_inv.place i).fits) in
    room_after line_feed c.put_place.ensures.wrote (room_after _ c.put_said.ensures.wrote r)

pub returns : goal.returns
unfolding state_line
returns c = puts_then c.put_said.ensures (puts_then c.put_place.ensures c.put_byte.ensures)

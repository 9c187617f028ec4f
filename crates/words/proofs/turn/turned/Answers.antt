-- `words::turned` meets its contract: the five passes exchange the five digits.
use Rattle.words.proofs.Whence.{turned_over}
use Rattle.words.proofs.turn.turned.Goals as goal

pub returns : goal.returns
returns c = turned_over c.exchanged-sixteens.ensures c.exchanged-eights.ensures c.exchanged-fours.ensures c.exchanged-twos.ensures c.exchanged.ensures

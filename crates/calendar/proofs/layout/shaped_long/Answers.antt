-- `calendar::layout::shaped_long` meets its contract: past the other tests the year decides.
use Rattle.std.proofs.Common.{arith}
use Rattle.calendar.specs.DateText.{separator}
use Rattle.calendar.proofs.Laid.{long_is}
use Rattle.calendar.proofs.layout.shaped_long.Goals as goal

pub returns-then-digits_at : goal.returns-then-digits_at
returns-then-digits_at c = grind (arith, long_is separator c.args.text.now, c.contains.ensures.value)

-- `stray_in` meets its contract: without a stray bit there is no first, and else each row is tested.
use Rattle.std.proofs.Common.{rules, refl}
use Rattle.table.proofs.Search.{some_first_from_find}
use Rattle.table.proofs.Gather.{none_any}
use Rattle.table.proofs.shaping.stray_in.Goals as goal

pub returns-then-not-any_stray : goal.returns-then-not-any_stray
returns-then-not-any_stray c = none_any _ _ c.any_stray.ensures c.if-not-any_stray.true

pub returns : goal.returns
returns c = some_first_from_find _ _ _ _ _ _ c.find.ensures.ran refl (λ a b q k. (search rules, λ l. search rules))

-- `changed_in` meets its contract: a row of the cell would change exactly when it loses a bit.
use Rattle.std.proofs.Common.{rules, refl}
use Rattle.table.proofs.Search.{some_first_from_find}
use Rattle.settle.proofs.Changing.{changed_below, row_changed}
use Rattle.settle.proofs.changes.changed_in.Goals as goal

pub returns-then-j-i : goal.returns-then-j-i
returns-then-j-i c = changed_below _ _ _ _ c.if-j-i.true

pub returns : goal.returns
returns c = some_first_from_find _ _ _ _ _ _ c.find.ensures.ran refl (λ a b q k. (search rules, λ l. search (rules, row_changed)))

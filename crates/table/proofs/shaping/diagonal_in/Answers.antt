-- `diagonal_in` meets its contract: the row is tested as the definition tests it.
use Rattle.std.proofs.Common.{rules, refl}
use Rattle.table.proofs.Search.{some_first_from_find}
use Rattle.table.proofs.Faults.{diagonal_at}
use Rattle.table.proofs.shaping.diagonal_in.Goals as goal

pub returns : goal.returns
returns c = some_first_from_find _ _ _ _ _ _ c.find.ensures.ran refl (λ a b q k. (search rules, λ l. search (rules, diagonal_at)))

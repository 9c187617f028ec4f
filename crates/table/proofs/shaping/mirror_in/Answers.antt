-- `mirror_in` meets its contract: the row is compared with that of the mirror turned over.
use Rattle.std.proofs.Common.{rules, refl, tests}
use Rattle.table.proofs.Search.{some_first_from_find}
use Rattle.table.proofs.Faults.{mirror_at}
use Rattle.table.proofs.shaping.mirror_in.Goals as goal

pub returns : goal.returns
returns c =
    some_first_from_find _ _ _ _ _ _ c.find.ensures.ran refl
    (λ a b q k. (search rules, λ l. search (rules, tests, mirror_at c.args.cell.now c.args.mirror.now a (search rules) (c.turned-turned.ensures.words a l))))

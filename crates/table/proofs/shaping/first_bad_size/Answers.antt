-- `first_bad_size` meets its contract: each size is tested as the definition tests it.
use Rattle.std.proofs.Common.{rules, tests, leb, not, ◌&&◌, arith}
use Rattle.table.specs.Shape.{bad_size}
use Rattle.table.specs.Layout.{size_of}
use Rattle.table.proofs.Search.{some_first_from_position}
use Rattle.table.proofs.shaping.first_bad_size.Goals as goal

pub returns : goal.returns
unfolding bad_size size_of
returns c = some_first_from_position _ (λ x. not (leb 1 x && leb x 32)) _ _ _ _ c.position.ensures.ran c.iter.ensures.rest (λ a b q k. (search rules, grind (arith, tests, k)))

-- `strike` meets its contract: each cell is lent on by itself and comes back with one bit cleared.
use Rattle.table.proofs.Parts.{struck-parts}
use Rattle.table.proofs.striking.strike.Goals as goal

pub returns : goal.returns
returns c = let z = c.requires in struck-parts _ _ _ _ _ _ z.0 (z.1, z.2, z.3, z.4) c.cell_start-at.ensures c.cell_start-mirror.ensures c.clear.ensures c.clear-2.ensures

-- `first_changed` meets its contract: the first row that would change lies on or above the diagonal.
use Rattle.std.proofs.Common.{rules}
use Rattle.settle.proofs.Changing.{changed_said}
use Rattle.settle.proofs.changes.first_changed.Goals as goal

pub returns : goal.returns
returns c = changed_said _ _ c.requires.1 _ (c.first_row.ensures _ (λ i j r hi hj k. search rules))

-- `nothing_left` meets its contract: each word of the cell was found 0, or one was not.
use Rattle.std.proofs.Common.{rules, ◌≡◌, tests}
use Rattle.std.proofs.lemmas.Iterator.{cases_from_all, YieldsList-from_slice}
use Rattle.settle.proofs.Emptiness.{cell_told}
use Rattle.settle.proofs.nothing_left.Goals as goal

pub returns : goal.returns
returns c =
    cell_told c.cell.ensures (λ p. search rules) _
    (cases_from_all _ _ _ (λ w. w ≡ 0) (λ w. w ≡ 0 → ⊥) c.all.ensures.ran (YieldsList-from_slice c.cell.result.now cc)
    (λ x q k. search (rules, tests)) (λ x q k. search (rules, tests)))

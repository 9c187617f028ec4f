use mathlib.Core.Path.{◌∙◌}
use native.Mathlib.Nat.{pos_of_ne-zero}
use Rattle.settle.proofs.Striking.{striking_more, striking_end, low_small, pair_struck}
use Rattle.settle.proofs.round.strike_bits.Goals as goal

pub strike-requires : goal.strike-requires
strike-requires c =
    let l = c.loop-rest in
    let p = c.requires in
    (record { few = p.0.few; long = l.invariant.long ∙ p.0.long }, p.1, p.2, p.3, low_small l.rest c.lowest.ensures (pos_of_ne-zero c.loop-rest-test.true) l.invariant.small)

pub loop-rest-preserved : goal.loop-rest-preserved
loop-rest-preserved c =
    let l = c.loop-rest in
    striking_more _ _ _ _ _ _ _ _ l.rest _ l.invariant (pos_of_ne-zero c.loop-rest-test.true)
    c.lowest.ensures c.strike.auto.table (pair_struck c.strike.ensures)

pub returns : goal.returns
returns c = striking_end _ _ _ _ _ _ _ _ c.loop-rest.invariant c.loop-rest-test.false

use Rattle.std.proofs.Common.{rules}
use Rattle.settle.specs.Round.{OfField}
use Rattle.settle.proofs.Parts.{passed_start, passed_more, fields_end}
use Rattle.settle.proofs.round.round_into.Goals as goal

pub loop-i-init : goal.loop-i-init
loop-i-init c = let e = c.copy_from_slice.ensures.after in record { done = rw e (passed_start _ _ _); fit = λ p. search rules }

pub loop-i-preserved : goal.loop-i-preserved
loop-i-preserved c = record { done = passed_more OfField (search rules) c.loop-i.invariant.done c.strike_field-fields.ensures; fit = λ p. search rules }

pub returns : goal.returns
returns c = fields_end _ _ _ c.loop-i-test.false c.requires.0.sized (search rules) c.loop-i.invariant.fit (search rules) c.loop-i.invariant.done

use Rattle.std.proofs.Common.{◌≡◌, ◌∙◌, arith}
use Rattle.theory.specs.Limits.{readings_most}
use Rattle.scan.proofs.Days.{listing_more, listed_all}
use Rattle.scan.proofs.field.listed.Goals as goal

pub loop-k-preserved : goal.loop-k-preserved
loop-k-preserved c = listing_more readings_most _ _ _ _ _ (omega arith) (omega arith) c.number_at.ensures c.loop-k.invariant

pub returns : goal.returns
returns c =
    let k : c.loop-k.k ≡ c.args.count = omega arith in
    c.loop-k.invariant ∙ rw k (listed_all readings_most c.args.count _)

use Rattle.std.proofs.Common.{◌≡◌, ◌<◌, ◌^◌, ◌∙◌, rules}
use Rattle.std.specs.List.{sum_by}
use Rattle.std.proofs.iter.runs.Made.{chains}
use Rattle.theory.specs.Bound.{count}
use Rattle.words.specs.Word.{bit}
use Rattle.judge.proofs.Counts.{ones-rows, ones-small}
use Rattle.judge.proofs.keeping.ones_in.Goals as goal

pub sum-requires-clause-fits : goal.sum-requires-clause-fits
sum-requires-clause-fits c =
    let h : sum_by (λ w. count 32 (bit w)) c.args.cell.now < 2 ^ 32 = ones-small c.args.cell.now c.requires in search (rules, chains)

pub returns : goal.returns
returns c =
    let e : c.sum.result ≡ sum_by (λ w. count 32 (bit w)) c.args.cell.now = search (rules, chains) in e ∙ ones-rows c.args.cell.now c.requires

use Rattle.std.proofs.Common.{◌≡◌, ◌∙◌, ap, rules, arith, tests}
use Rattle.std.specs.Slice.Iter.{chunks_exact_rest, chunks_exact_size}
use Rattle.theory.specs.Limits.{readings_most}
use Rattle.judge.proofs.Zeros.{cells_asked}
use Rattle.judge.proofs.showing.holds_none.Goals as goal

pub returns : goal.returns
returns c =
    let p = c.all.ensures.runs in
    let n : chunks_exact_size p.0.from ≡ readings_most = ap chunks_exact_size p.1 ∙ c.chunks_exact.ensures.size in
    let t : chunks_exact_rest p.0.from ≡ c.args.table.now = ap chunks_exact_rest p.1 ∙ c.chunks_exact.ensures.rest in
    cells_asked p.0 n t (c.chunks_exact.ensures.runs p.0 p.0.seen (omega arith)) _ _ (λ x r q k. search (rules, tests)) c.requires c.all.result p.2

use Rattle.std.proofs.Common.{◌≡◌, ◌∙◌, ap, rules, bit_or, eqb}
use Rattle.std.specs.List.{fold}
use Rattle.std.proofs.iter.runs.Made.{chains}
use Rattle.judge.proofs.Zeros.{gathered_all}
use Rattle.judge.proofs.showing.gathered.Goals as goal

pub returns : goal.returns
returns c =
    let e : c.fold.result ≡ fold bit_or 0 c.args.rows.now = search (rules, chains) in
    ap (λ w. eqb w 0) e ∙ gathered_all c.args.rows.now

-- `strike_moved` meets its contract: between fields of which no cell changed there is nothing to strike.
use Rattle.std.proofs.Common.{arith}
use Rattle.settle.proofs.Marks.{cell_quiet}
use Rattle.settle.proofs.round.Source.strike_moved.Goals as goal

pub returns-then-self-fields_of-eq0 : goal.returns-then-self-fields_of-eq0
returns-then-self-fields_of-eq0 c =
    let s = c.args.self in
    let p = c.requires in
    cell_quiet _ _ _ _ _ _ _ (omega (arith, s.sized.few)) p.1 p.2 s.quiet c.fields_of.ensures c.if-self-fields_of-eq0.true

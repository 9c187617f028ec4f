-- `apart` meets its contract: by cases on the two choices; two readings are a bit of a row.
use Rattle.choose.proofs.Fitting.{ne_free}
use Rattle.choose.proofs.Held.{apart_read}
use Rattle.choose.proofs.fixed.apart.Goals as goal

pub returns : goal.returns
returns c =
    let first = c.requires.3 (ne_free _ c.if-a-eq-FREE.false) in
    let second = c.requires.4 (ne_free _ c.if-b-eq-FREE.false) in
    apart_read c.args.n _ _ _ c.args.a _ _ _ c.if-a-eq-FREE.false c.if-b-eq-FREE.false first second c.row_word.ensures c.has.ensures

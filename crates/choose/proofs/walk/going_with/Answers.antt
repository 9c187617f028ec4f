-- `going_with` meets its contract: a free choice takes nothing away, a reading all that is not in its row.
use Rattle.std.proofs.Common.{ne_eqb}
use Rattle.choose.proofs.Fitting.{ne_free, with_free, with_reading}
use Rattle.choose.proofs.walk.going_with.Goals as goal

pub returns-then-v-eq-FREE : goal.returns-then-v-eq-FREE
returns-then-v-eq-FREE c = with_free _ _ _ _ _ _ c.ranges.w.fits c.if-v-eq-FREE.true

pub returns : goal.returns
returns c =
    with_reading c.args.n _ _ _ _ c.args.v _ _ (ne_eqb _ _ c.if-v-eq-FREE.false) (c.requires.3 (ne_free _ c.if-v-eq-FREE.false)) c.row_word.ensures c.both.ensures

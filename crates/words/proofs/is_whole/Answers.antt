-- `words::is_whole` meets its contract: a row is whole where no bit that stands in its span is missing.
use mathlib.Core.Path.{ap, ◌∙◌}
use mathlib.Core.Bool.{not, ◌&&◌}
use Prim.Native.Nat.{ℕ}
use lib.Bits.{bit_and}
use Rattle.theory.specs.Bound.{any}
use Rattle.words.specs.Word.{bit}
use Rattle.words.proofs.Spans.{whole_test}
use Rattle.words.proofs.is_whole.Goals as goal

pub returns : goal.returns
returns c =
    let w = c.args.w in
    let s = c.args.stand in
    ap not
    (c.outside.ensures
    ∙ ap (λ (x : ℕ). any 32 (λ b. bit (bit_and x s) b && not (bit w b))) c.span.ensures)
    ∙ whole_test w s c.ranges.w.fits

-- `words::span` meets its contract: the two shifts clear what lies above the highest one and below the lowest.
use mathlib.Core.Path.{sym, ap, ◌∙◌}
use Prim.Native.Nat.{ℕ}
use native.Mathlib.Nat.{pos_of_ne-zero}
use Rattle.words.specs.Word.{pack, spanned}
use Rattle.words.proofs.Spans.{span_none, span_pack}
use Rattle.words.proofs.span.Goals as goal

pub returns-then-w-eq0 : goal.returns-then-w-eq0
returns-then-w-eq0 c = span_none ∙ ap (λ (x : ℕ). pack 32 (spanned x)) (sym c.if-w-eq0.true)

pub returns : goal.returns
returns c = span_pack c.args.w (pos_of_ne-zero c.if-w-eq0.false) c.ranges.w.fits

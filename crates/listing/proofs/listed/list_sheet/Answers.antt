-- `listed::list_sheet` meets its contract: its own arrays are long enough for any sheet, and for any text.
use mathlib.Core.Path.{◌≡◌, refl}
use mathlib.Core.Bool.{true}
use mathlib.Core.List.{List}
use Prim.Native.Nat.{ℕ}
use native.Mathlib.Omega.{arith}
use lib.ListN.{length, length-replicate}
use Rattle.theory.specs.Limits.{fields_most}
use Rattle.sheet.specs.Opening.{days_most, words_most, lent}
use Rattle.text.specs.Writing.{zeros}
use Rattle.text.specs.WritingLaws.{wrote_as, wrote_shows}
use Rattle.listing.specs.ListedLaws.{answer-left, answer-text}
use Rattle.listing.proofs.listed.list_sheet.Goals as goal

lent-long : (sizes days t : List ℕ) → length sizes ≡ fields_most → length days ≡ days_most → length t ≡ words_most → lent sizes days t ≡ true
unfolding lent
lent-long sizes days t e f g = rw (e, f, g) refl

own-arrays : lent (zeros 16) (zeros 512) (zeros 8192) ≡ true
own-arrays = lent-long (zeros 16) (zeros 512) (zeros 8192) (length-replicate {A = ℕ} 16 0) (length-replicate {A = ℕ} 512 0) (length-replicate {A = ℕ} 8192 0)

pub put_answer-requires : goal.put_answer-requires
put_answer-requires c = (answer-left _ _ _ _ _ own-arrays c.read_sheet-answer.result c.read_sheet-answer.ensures, omega arith)

pub returns : goal.returns
returns c = wrote_shows 3489 (wrote_as (answer-text _ _ _ _ _ own-arrays c.read_sheet-answer.result c.read_sheet-answer.ensures) (grind arith))

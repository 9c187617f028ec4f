-- The theorems of lines, each beside the sentence of 01 that it carries.
use Rattle.std.specs.Prelude.{◌≡◌, refl, List, ℕ, ◌-◌, ◌≤◌, length, take}
use Rattle.std.proofs.Common.{sym, ◌∙◌, take_at}
use mathlib.Core.HLevel.{is_prop→PathP}
use Rattle.std.proofs.Math.Bridge.{le_prop}
use Rattle.text.specs.declared.shown.Text.{Text}
use Rattle.text.specs.Text.{line_most}
use Rattle.text.specs.Writing.{zeros, Shows}

-- "two results satisfying the statement coincide"

pub shown_is_one : {most : ℕ} {text b c : List ℕ} {k l : ℕ} → Shows most text b k → Shows most text c l → (b ≡ c) × (k ≡ l)
shown_is_one x y = (x.holds ∙ sym y.holds, x.counts ∙ sym y.counts)

-- the bytes that are counted are the text
pub shown_taken : {most : ℕ} {text b : List ℕ} {k : ℕ} → Shows most text b k → take k b ≡ text
shown_taken {most} {text} x = rw (x.holds, x.counts) (take_at text (zeros (most - length text)) (length text) refl)

pub text_is_one : {most : ℕ} {text : List ℕ} (x y : Text most) → Shows most text x.bytes x.length → Shows most text y.bytes y.length → x ≡ y
text_is_one {most} x y s t =
    let e = shown_is_one s t in
    λ i. record { bytes = e.0 i; length = e.1 i; within = is_prop→PathP (λ j. e.1 j ≤ most) (λ j. le_prop) x.within y.within i }

pub line_is_one : {text : List ℕ} (x y : Text line_most) → Shows line_most text x.bytes x.length → Shows line_most text y.bytes y.length → x ≡ y
line_is_one = text_is_one

-- `calendar::read_short` meets its contract: a text without the shape is refused, and of any other the three dates that it shows are taken one after the other.
use mathlib.Core.Path.{◌≡◌, refl, sym, ◌∙◌}
use mathlib.Core.List.{List, [], ◌∷◌}
use Prim.Native.Nat.{ℕ, ◌+◌, ◌<◌}
use native.Mathlib.Omega.{arith}
use mathlib.Core.Bool.{Bool, true}
use lib.ListN.{length}
use Rattle.calendar.specs.Calendar.{first_year, Date, date}
use Rattle.calendar.specs.Ascending.{ascending}
use Rattle.calendar.specs.DateText.{separator, short_length, short_year_at, pair_at, read_as, laid_out, with_real, days_of, shown}
use Rattle.calendar.specs.WritingLaws.{first_pair, third_pair}
use Rattle.calendar.specs.DateTextLaws.{shaped_as_short, shown-short}
use Rattle.calendar.specs.DaysFound.{Holds, held}
use Rattle.calendar.specs.declared.Days.{Days}
use Rattle.calendar.specs.DateAnswersLaws.{reads_shaped, reads_shapeless}
use Rattle.calendar.proofs.Held.{held_is, holds-held, room_for, room_after}
use Rattle.calendar.proofs.Laid.{passed}
use Rattle.calendar.proofs.read_short.Goals as goal

pub returns-then-not-shaped_short : goal.returns-then-not-shaped_short
returns-then-not-shaped_short c = reads_shapeless separator _ _ (shaped_as_short _ separator c.requires ∙ sym c.shaped_short.ensures ∙ c.if-not-shaped_short.true) (record { said = refl; days = refl })

-- past the test the text is laid out, so that its first and last numbers have two digits
first_small : (text : List ℕ) {s : Bool} {a : ℕ} → s ≡ laid_out separator short_length text → s ≡ true → a ≡ pair_at text 0 → a < 100
first_small text e h i = rw i (first_pair separator short_length _ (passed e h) (omega arith)).0

last_small : (text : List ℕ) {s : Bool} {c : ℕ} → s ≡ laid_out separator short_length text → s ≡ true → c ≡ pair_at text 6 → c < 100
last_small text e h i = rw i (third_pair separator short_length _ (passed e h) (omega arith)).0

pub overflow_add-a : goal.overflow_add-a
overflow_add-a c = omega (arith, first_small _ c.shaped_short.ensures c.if-not-shaped_short.false c.pair_at-a.ensures)

pub with_reading-year_first-requires : goal.with_reading-year_first-requires
unfolding ascending
with_reading-year_first-requires c =
    let h = first_small c.args.text.now c.shaped_short.ensures c.if-not-shaped_short.false c.pair_at-a.ensures in
    (room_for c.none.ensures tt (omega arith), omega arith, omega (arith, h))

-- the days of the dates taken, one more than before
one : (t : Date) {f g : Days} → Holds [] f → Holds (with_real t (held f)) g → Holds (days_of (t ∷ [])) g
unfolding days_of
one t h k = rw (held_is h) at k

two : (s t : Date) {f g : Days} → Holds (days_of (s ∷ [])) f → Holds (with_real t (held f)) g → Holds (days_of (t ∷ s ∷ [])) g
unfolding days_of
two s t h k = rw (held_is h) at k

all : (text : List ℕ) {a b c : ℕ} {f g : Days}
    → length text ≡ short_length
    → a ≡ pair_at text 0
    → b ≡ pair_at text 3
    → c ≡ pair_at text 6
    → Holds (days_of (date (first_year + c) a b ∷ date (first_year + a) b c ∷ [])) f
    → Holds (with_real (date (first_year + c) b a) (held f)) g
    → Holds (days_of (shown text)) g
unfolding days_of read_as short_year_at
all text e i j k h l = rw (shown-short _ e, ← i, ← j, ← k) (rw (held_is h) at l)

pub overflow_add-c : goal.overflow_add-c
overflow_add-c c = omega (arith, last_small _ c.shaped_short.ensures c.if-not-shaped_short.false c.pair_at-c.ensures)

pub with_reading-month_first-requires : goal.with_reading-month_first-requires
with_reading-month_first-requires c =
    let s = last_small c.args.text.now c.shaped_short.ensures c.if-not-shaped_short.false c.pair_at-c.ensures in
    (room_after _ (one _ c.none.ensures c.with_reading-year_first.ensures) (omega arith), omega arith, omega (arith, s))

pub overflow_add-c-2 : goal.overflow_add-c-2
overflow_add-c-2 c = omega (arith, last_small _ c.shaped_short.ensures c.if-not-shaped_short.false c.pair_at-c.ensures)

pub with_reading-requires : goal.with_reading-requires
with_reading-requires c =
    let s = last_small c.args.text.now c.shaped_short.ensures c.if-not-shaped_short.false c.pair_at-c.ensures in
    let h = two _ _ (one _ c.none.ensures c.with_reading-year_first.ensures) c.with_reading-month_first.ensures in
    (room_after _ h (omega arith), omega arith, omega (arith, s))

pub answer-requires : goal.answer-requires
answer-requires c = holds-held c.with_reading.ensures

pub returns : goal.returns
returns c =
    let h = two _ _ (one _ c.none.ensures c.with_reading-year_first.ensures) c.with_reading-month_first.ensures in
    let k = all c.args.text.now c.requires c.pair_at-a.ensures c.pair_at-b.ensures c.pair_at-c.ensures h c.with_reading.ensures in
    reads_shaped separator _ _ (rw (shaped_as_short _ separator c.requires) (passed c.shaped_short.ensures c.if-not-shaped_short.false)) (rw (held_is k) at c.answer.ensures)

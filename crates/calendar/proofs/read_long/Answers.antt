-- `calendar::read_long` meets its contract: a text without the shape is refused, and of any other the dates that it shows are taken one after the other.
use mathlib.Core.Path.{◌≡◌, refl, sym, ◌∙◌}
use mathlib.Core.List.{List, [], ◌∷◌}
use Prim.Native.Nat.{ℕ, ◌≤◌}
use native.Mathlib.Omega.{arith}
use mathlib.Core.Bool.{Bool, true}
use lib.ListN.{length}
use Rattle.calendar.specs.Calendar.{first_year, last_year, date}
use Rattle.calendar.specs.Ascending.{ascending}
use Rattle.calendar.specs.DateText.{date_length, short_length, separator, pair_at, year_in, shaped_long, read_as, with_real, days_of, shown}
use Rattle.calendar.specs.WritingLaws.{laid_length}
use Rattle.calendar.specs.DateTextLaws.{shaped_as_long, shown-long, long_laid, long_years}
use Rattle.calendar.specs.DaysFound.{Holds, held}
use Rattle.calendar.specs.declared.Days.{Days}
use Rattle.calendar.specs.DateAnswersLaws.{reads_shaped, reads_shapeless}
use Rattle.calendar.proofs.Held.{held_is, holds-held, room_for, room_after}
use Rattle.calendar.proofs.Laid.{passed}
use Rattle.calendar.proofs.read_long.Goals as goal

pub returns-then-not-shaped_long : goal.returns-then-not-shaped_long
returns-then-not-shaped_long c = reads_shapeless separator _ _ (shaped_as_long _ separator c.requires ∙ sym c.shaped_long.ensures ∙ c.if-not-shaped_long.true) (record { said = refl; days = refl })

-- past the test the text has the shape, so that its year stands there and is one of the century
long : (text : List ℕ) {a : Bool} → a ≡ shaped_long separator text → a ≡ true → length text ≡ date_length
long text e h = laid_length separator _ _ (long_laid separator text (passed e h))

years : (text : List ℕ) {a : Bool} {y : ℕ} → a ≡ shaped_long separator text → a ≡ true → y ≡ year_in text → (first_year ≤ y) × (y ≤ last_year)
years text e h f = rw f (long_years separator text (passed e h))

pub year_in-y-requires : goal.year_in-y-requires
year_in-y-requires c = omega (arith, long _ c.shaped_long.ensures c.if-not-shaped_long.false)

pub pair_at-a-requires : goal.pair_at-a-requires
pair_at-a-requires c = omega (arith, long _ c.shaped_long.ensures c.if-not-shaped_long.false)

pub pair_at-b-requires : goal.pair_at-b-requires
pair_at-b-requires c = omega (arith, long _ c.shaped_long.ensures c.if-not-shaped_long.false)

pub with_reading-month_first-requires : goal.with_reading-month_first-requires
unfolding ascending
with_reading-month_first-requires c =
    let y = years c.args.text.now c.shaped_long.ensures c.if-not-shaped_long.false c.year_in-y.ensures in
    (room_for c.none.ensures tt (omega arith), y.0, y.1)

-- the days of the dates taken
first : (y a b : ℕ) {f g : Days} → Holds [] f → Holds (with_real (date y a b) (held f)) g → Holds (days_of (date y a b ∷ [])) g
unfolding days_of
first y a b h k = rw (held_is h) at k

both : (text : List ℕ) {y a b : ℕ} {f g : Days}
    → (length text ≡ short_length → ⊥)
    → y ≡ year_in text
    → a ≡ pair_at text 0
    → b ≡ pair_at text 3
    → Holds (days_of (date y a b ∷ [])) f
    → Holds (with_real (date y b a) (held f)) g
    → Holds (days_of (shown text)) g
unfolding days_of read_as
both text n i j k h l = rw (shown-long _ n, ← i, ← j, ← k) (rw (held_is h) at l)

pub with_reading-requires : goal.with_reading-requires
with_reading-requires c =
    let y = years c.args.text.now c.shaped_long.ensures c.if-not-shaped_long.false c.year_in-y.ensures in
    let h = first _ _ _ c.none.ensures c.with_reading-month_first.ensures in
    (room_after _ h (omega arith), y.0, y.1)

pub answer-requires : goal.answer-requires
answer-requires c = holds-held c.with_reading.ensures

pub returns : goal.returns
returns c =
    let h = first _ _ _ c.none.ensures c.with_reading-month_first.ensures in
    let all = both c.args.text.now c.requires c.year_in-y.ensures c.pair_at-a.ensures c.pair_at-b.ensures h c.with_reading.ensures in
    reads_shaped separator _ _ (rw (shaped_as_long _ separator c.requires) (passed c.shaped_long.ensures c.if-not-shaped_long.false)) (rw (held_is all) at c.answer.ensures)

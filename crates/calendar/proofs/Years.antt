-- The days of the years from 2000 on, by a formula: of the century every fourth year is a leap year.
use mathlib.Core.Path.{◌≡◌, refl, ap}
use mathlib.Core.Logic.{⊎_elim}
use mathlib.Core.Bool.{true, false}
use Prim.Native.Nat.{ℕ, zero, suc, ◌+◌, ◌*◌, ◌/◌, ◌%◌, ◌≤◌, ◌<◌}
use native.Mathlib.Omega.{arith}
use borrow.Author.Tests.{eq-eqb, ne_eqb}
use Rattle.theory.specs.Bound.{sum, val}
use Rattle.theory.specs.BoundLaws.{lt_or_ge}
use Rattle.calendar.specs.Calendar.{first_year, leap, year_length}
use Rattle.calendar.specs.CalendarLaws.{year-length}

fourth : (k : ℕ) → k < 100 → k % 4 ≡ 0 → leap (first_year + k) ≡ true
unfolding leap
fourth zero h e = refl
fourth (suc k) h e = rw (eq-eqb ((2000 + suc k) % 4) 0 (omega arith), ne_eqb ((2000 + suc k) % 100) 0 (λ z. omega arith))

other : (k : ℕ) → 0 < k % 4 → leap (first_year + k) ≡ false
unfolding leap
other k h = rw (ne_eqb ((2000 + k) % 4) 0 (λ z. omega arith))

pub years_sum : (k : ℕ) → k ≤ 100 → sum k (λ i. year_length (first_year + i)) ≡ 365 * k + (k + 3) / 4
unfolding sum
years_sum zero h = refl
years_sum (suc k) h =
    ⊎_elim
    (λ l. omega (arith, years_sum k (omega arith), year-length (2000 + k), ap val (fourth k h (omega arith))))
    (λ g. omega (arith, years_sum k (omega arith), year-length (2000 + k), ap val (other k g)))
    (lt_or_ge (k % 4) 1)

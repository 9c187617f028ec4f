-- How long months and years are, and what makes a date real.
use Rattle.std.specs.Prelude.{◌≡◌, refl, ◌⊎◌, Bool, true, false, cond, ℕ, zero, suc, ◌+◌, ◌≤◌, ◌<◌, T, leb, get_or}
use Rattle.std.proofs.Common.{inl, inr, le_refl, arith, leb→le, le→leb}
use Rattle.std.proofs.Math.ListN.{get_or-eq_default}
use Rattle.theory.specs.Bound.{all, sum, val}
use Rattle.theory.specs.BoundLaws.{and_i, and_l, and_r, all_e, lt_or_ge, below_suc}
use Rattle.calendar.specs.Calendar.{Date, leap, months, month_length, year_length, real, InCalendar}

-- a sum grows with its terms
pub sum_upto : (n m : ℕ) (f : ℕ → ℕ) → n ≤ m → sum n f ≤ sum m f
unfolding sum
sum_upto n zero f h = rw (the_zero h) (le_refl 0)
  where
    the_zero : n ≤ 0 → n ≡ 0
    the_zero l = omega arith
sum_upto n (suc m) f h = pick (below_suc {i = n} {n = suc m} (omega arith)) (sum_upto n m f)
  where
    pick : (n ≡ suc m) ⊎ (n < suc m) → (n ≤ m → sum n f ≤ sum m f) → sum n f ≤ sum m f + f m
    pick (inl e) g = rw e (le_refl _)
    pick (inr l) g = omega (arith, g (omega arith))

pub month-zero : (y : ℕ) → month_length y 0 ≡ 0
unfolding month_length months
month-zero y = refl

pub month_over : (y m : ℕ) → 13 ≤ m → month_length y m ≡ 0
unfolding month_length months
month_over y m h = get_or-eq_default (months (leap y)) 0 h

-- each of the twelve has 28 days at least
pub month_least : (y m : ℕ) → 1 ≤ m → m ≤ 12 → 28 ≤ month_length y m
unfolding month_length months all
month_least y (suc m) l h = leb→le 28 _ (all_e 12 (λ k. leb 28 (get_or (months (leap y)) (suc k) 0)) (go (leap y)) m (omega arith))
  where
    go : (long : Bool) → T (all 12 (λ k. leb 28 (get_or (months long) (suc k) 0)))
    go true = tt
    go false = tt
month_least y zero l h = absurd (omega arith)

-- and 31 at most
pub month_most : (y m : ℕ) → month_length y m ≤ 31
unfolding month_length months all
month_most y m = elim (lt_or_ge m 13) [
  | inl l ↦ leb→le _ 31 (all_e 13 (λ k. leb (get_or (months (leap y)) k 0) 31) (go (leap y)) m l)
  | inr g ↦ omega (arith, month_over y m g)
]
  where
    go : (long : Bool) → T (all 13 (λ k. leb (get_or (months long) k 0) 31))
    go true = tt
    go false = tt

-- a month that has a day is one of the twelve
pub month_of : (y m : ℕ) → 1 ≤ month_length y m → (1 ≤ m) × (m ≤ 12)
month_of y zero h = absurd (omega (arith, month-zero y))
month_of y (suc m) h = (omega arith, elim (lt_or_ge (suc m) 13) [ inl l ↦ omega arith | inr g ↦ absurd (omega (arith, month_over y (suc m) g)) ])

pub real_in : (t : Date) → T (real t) → InCalendar t
unfolding real
real_in t h =
    let d1 : 1 ≤ t.day = leb→le 1 t.day (and_l (leb 1 t.day) _ h) in
    let d2 : t.day ≤ month_length t.year t.month = leb→le _ _ (and_r (leb 1 t.day) _ h) in
    let m = month_of t.year t.month (omega arith) in
    record { month_from = m.0; month_upto = m.1; day_from = d1; day_upto = d2 }

pub in_real : (t : Date) → 1 ≤ t.day → t.day ≤ month_length t.year t.month → T (real t)
unfolding real
in_real t l h = and_i (leb 1 t.day) (leb t.day (month_length t.year t.month)) (le→leb _ _ l) (le→leb _ _ h)

pub year-length : (y : ℕ) → year_length y ≡ 365 + val (leap y)
unfolding year_length sum month_length months
year-length y = go (leap y)
  where
    go : (b : Bool) → 0 + 0 + 31 + cond b 29 28 + 31 + 30 + 31 + 30 + 31 + 31 + 30 + 31 + 30 + 31 ≡ 365 + val b
    go true = refl
    go false = refl

-- The numbering of days: 0 is 1 January 2000, the day after has the next number, and each number from 0 to 36,524 is that of one real date of the century.
use Rattle.std.specs.Prelude.{◌≡◌, refl, ◌⊎◌, cond, ℕ, zero, suc, ◌+◌, ◌-◌, ◌≤◌, ◌<◌, ltb}
use Rattle.std.proofs.Common.{sym, ap, ◌∙◌, inl, inr, le_refl, le_antisymm, arith, lt-ltb, le-ltb}
use Rattle.theory.specs.Bound.{sum}
use Rattle.theory.specs.BoundLaws.{sum_last, lt_or_ge}
use Rattle.calendar.specs.Calendar.{first_year, last_year, last_day, Date, date, leap, months, month_length, year_length, InCalendar, Counted, OfCentury, day_of, Before, by_year, by_month, by_day, next, date_of}
use Rattle.calendar.specs.CalendarLaws.{sum_upto, month_least, real_in, in_real}

-- the days of the years before y, and of the months before m
days_to_year : ℕ → ℕ
days_to_year y = sum (y - first_year) (λ k. year_length (first_year + k))

days_to_month : ℕ → ℕ → ℕ
days_to_month y m = sum m (month_length y)

parts : (t : Date) → day_of t ≡ days_to_year t.year + days_to_month t.year t.month + (t.day - 1)
unfolding day_of days_to_year days_to_month
parts t = refl

year-after : (y : ℕ) → first_year ≤ y → days_to_year (suc y) ≡ days_to_year y + year_length y
unfolding days_to_year
year-after y h =
    let e : suc y - 2000 ≡ suc (y - 2000) = omega arith in
    let b : 2000 + (y - 2000) ≡ y = omega arith in
    rw (e, sum_last) (ap (λ (x : ℕ). sum (y - 2000) (λ k. year_length (2000 + k)) + year_length x) b)

years_rise : (y z : ℕ) → y ≤ z → days_to_year y ≤ days_to_year z
unfolding days_to_year
years_rise y z h = sum_upto (y - 2000) (z - 2000) (λ k. year_length (2000 + k)) (omega arith)

month-after : (y m : ℕ) → days_to_month y (suc m) ≡ days_to_month y m + month_length y m
unfolding days_to_month
month-after y m = sum_last m (month_length y)

months-rise : (y m n : ℕ) → m ≤ n → days_to_month y m ≤ days_to_month y n
unfolding days_to_month
months-rise y m n h = sum_upto m n (month_length y) h

months-all : (y : ℕ) → days_to_month y 13 ≡ year_length y
unfolding days_to_month year_length
months-all y = refl

month_one : (y : ℕ) → days_to_month y 1 ≡ 0
unfolding days_to_month sum month_length months
month_one y = refl

-- a date's number lies below those of the next year
below-year : (t : Date) → Counted t → day_of t < days_to_year (suc t.year)
below-year t c =
    let a = real_in t c.is_real in
    omega (
      arith,
      parts t,
      year-after t.year c.from,
      month-after t.year t.month,
      months-rise t.year (suc t.month) 13 (omega arith),
      months-all t.year,
    )

-- the years 2000 to 2099 together
century : days_to_year (suc last_year) ≡ suc last_day
unfolding days_to_year sum year_length month_length months leap
century = refl

-- a later date has a greater number
pub rises : (s t : Date) → Counted s → Counted t → Before s t → day_of s < day_of t
rises s t c d (by_year h) = omega (arith, below-year s c, years_rise (suc s.year) t.year h, parts t)
rises s t c d (by_month e h) =
    let a = real_in s c.is_real in
    let g : days_to_month s.year t.month ≡ days_to_month t.year t.month = ap (λ (y : ℕ). days_to_month y t.month) e in
    omega (
      arith,
      parts s,
      parts t,
      ap days_to_year e,
      month-after s.year s.month,
      months-rise s.year (suc s.month) t.month h,
    )
rises s t c d (by_day e h l) =
    let a = real_in s c.is_real in
    let g : days_to_month s.year s.month ≡ days_to_month t.year t.month = cc in
    omega (arith, parts s, parts t, ap days_to_year e)

-- of two dates that differ one comes before the other
pub in_order : (s t : Date) → (s ≡ t) ⊎ (Before s t ⊎ Before t s)
in_order s t = years (lt_or_ge s.year t.year) (lt_or_ge t.year s.year)
  where
    days : s.year ≡ t.year → s.month ≡ t.month → (s.day < t.day) ⊎ (t.day ≤ s.day) → (t.day < s.day) ⊎ (s.day ≤ t.day) → (s ≡ t) ⊎ (Before s t ⊎ Before t s)
    days e f (inl l) h = inr (inl (by_day e f l))
    days e f (inr g) (inl l) = inr (inr (by_day (sym e) (sym f) l))
    days e f (inr g) (inr h) = inl (λ i. record { year = e i; month = f i; day = le_antisymm h g i })

    months-differ : s.year ≡ t.year → (s.month < t.month) ⊎ (t.month ≤ s.month) → (t.month < s.month) ⊎ (s.month ≤ t.month) → (s ≡ t) ⊎ (Before s t ⊎ Before t s)
    months-differ e (inl l) h = inr (inl (by_month e l))
    months-differ e (inr g) (inl l) = inr (inr (by_month (sym e) l))
    months-differ e (inr g) (inr h) = days e (le_antisymm h g) (lt_or_ge _ _) (lt_or_ge _ _)

    years : (s.year < t.year) ⊎ (t.year ≤ s.year) → (t.year < s.year) ⊎ (s.year ≤ t.year) → (s ≡ t) ⊎ (Before s t ⊎ Before t s)
    years (inl l) h = inr (inl (by_year l))
    years (inr g) (inl l) = inr (inr (by_year l))
    years (inr g) (inr h) = months-differ (le_antisymm h g) (lt_or_ge _ _) (lt_or_ge _ _)

counted : {t : Date} → OfCentury t → Counted t
counted c = record { is_real = c.is_real; from = c.from }

-- no number is that of two dates
pub one_date : (s t : Date) → OfCentury s → OfCentury t → day_of s ≡ day_of t → s ≡ t
one_date s t p q e = elim (in_order s t) [
  | inl h ↦ h
  | inr b ↦ elim b [
    | inl h ↦ absurd (omega (arith, rises s t (counted p) (counted q) h))
    | inr h ↦ absurd (omega (arith, rises t s (counted q) (counted p) h))
  ]
]

-- day 0
pub day-zero : day_of (date first_year 1 1) ≡ 0
unfolding day_of sum month_length months
day-zero = refl

-- the day after a date is a date, and has the next number
pub next-day : (t : Date) → Counted t → Counted (next t) × (day_of (next t) ≡ suc (day_of t))
unfolding next
next-day t c = day (lt_or_ge t.day (month_length t.year t.month))
  where
    a : InCalendar t
    a = real_in t c.is_real

    -- the day after, where it is u
    Follows : Date → Type 0
    Follows u = Counted u × (day_of u ≡ suc (day_of t))

    year : 12 ≤ t.month → month_length t.year t.month ≤ t.day → Follows (date (suc t.year) 1 1)
    year h g =
        let e : t.month ≡ 12 = omega (arith, a) in (
          record {
            is_real = in_real (date (suc t.year) 1 1) (le_refl 1) (omega (arith, month_least (suc t.year) 1 (le_refl 1) (omega arith)));
            from = omega (arith, c.from);
          },
          omega (
            arith,
            a,
            parts t,
            parts (date (suc t.year) 1 1),
            year-after t.year c.from,
            month_one (suc t.year),
            month-after t.year t.month,
            ap (λ (m : ℕ). days_to_month t.year (suc m)) e,
            months-all t.year,
          ),
        )

    month : month_length t.year t.month ≤ t.day → (t.month < 12) ⊎ (12 ≤ t.month) → Follows (cond (ltb t.month 12) (date t.year (suc t.month) 1) (date (suc t.year) 1 1))
    month g (inl l) =
        rw (lt-ltb _ _ l) (
          record {
            is_real = in_real (date t.year (suc t.month) 1) (le_refl 1) (omega (arith, month_least t.year (suc t.month) (omega arith) l));
            from = c.from;
          },
          omega (arith, a, parts t, parts (date t.year (suc t.month) 1), month-after t.year t.month),
        )
    month g (inr h) = rw (le-ltb _ _ h) (year h g)

    day : (t.day < month_length t.year t.month) ⊎ (month_length t.year t.month ≤ t.day) → Follows (next t)
    day (inl l) =
        rw (lt-ltb _ _ l) (
          record { is_real = in_real (date t.year t.month (suc t.day)) (omega arith) l; from = c.from },
          omega (arith, a, parts t, parts (date t.year t.month (suc t.day))),
        )
    day (inr g) = rw (le-ltb _ _ g) (month g (lt_or_ge t.month 12))

-- the date n days after 1 January 2000 has the number n
pub date_of-day : (n : ℕ) → Counted (date_of n) × (day_of (date_of n) ≡ n)
unfolding date_of
date_of-day zero = (record { is_real = in_real (date first_year 1 1) (le_refl 1) (omega (arith, month_least first_year 1 (le_refl 1) (omega arith))); from = le_refl first_year }, day-zero)
date_of-day (suc n) =
    let d = date_of-day n in
    let f = next-day (date_of n) d.0 in
    (f.0, f.1 ∙ ap suc d.1)

-- a date of the century has a number from 0 to 36,524
pub day_upto : (t : Date) → OfCentury t → day_of t ≤ last_day
day_upto t c = omega (arith, below-year t (counted c), years_rise (suc t.year) (suc last_year) (omega arith), century)

-- and each such number is that of exactly one of them
pub one_each : (n : ℕ) → n ≤ last_day → (t : Date) × OfCentury t × (day_of t ≡ n) × ((s : Date) → OfCentury s → day_of s ≡ n → s ≡ t)
one_each n h =
    let d = date_of-day n in
    let c : OfCentury (date_of n) = record { is_real = d.0.is_real; from = d.0.from; upto = in-century (lt_or_ge (date_of n).year (suc last_year)) } in
    (date_of n, c, d.1, λ s o e. one_date s (date_of n) o c (e ∙ sym d.1))
  where
    in-century : ((date_of n).year < suc last_year) ⊎ (suc last_year ≤ (date_of n).year) → (date_of n).year ≤ last_year
    in-century (inl l) = omega arith
    in-century (inr g) = absurd (omega (arith, years_rise (suc last_year) (date_of n).year g, century, parts (date_of n), (date_of-day n).1))

-- The Gregorian calendar as ISO 8601 uses it, and its days numbered from 1 January 2000 (01, "Dates and sheets").
use Rattle.std.specs.Prelude.{◌≡◌, Bool, cond, not, ◌&&◌, ◌||◌, List, [], ◌∷◌, ℕ, zero, suc, ◌+◌, ◌-◌, ◌%◌, ◌≤◌, ◌<◌, T, leb, ltb, eqb, get_or}
use Rattle.theory.specs.Bound.{sum}

-- the years of a date text, and the number of their last day
abbrev pub first_year : ℕ
first_year = 2000

abbrev pub last_year : ℕ
last_year = 2099

abbrev pub last_day : ℕ
last_day = 36524

-- a year, a month and a day by their numbers, real or not
pub record Date : Type 0 where
  pub year : ℕ
  pub month : ℕ
  pub day : ℕ

abbrev pub date : ℕ → ℕ → ℕ → Date
date y m d = record { year = y; month = m; day = d }

-- every fourth year, of the hundredth years every fourth
unfoldable pub leap : ℕ → Bool
leap y = eqb (y % 4) 0 && (not (eqb (y % 100) 0) || eqb (y % 400) 0)

-- the lengths of the months, at their numbers 1 to 12, in a leap year or in another
unfoldable pub months : Bool → List ℕ
months long = 0 ∷ 31 ∷ cond long 29 28 ∷ 31 ∷ 30 ∷ 31 ∷ 30 ∷ 31 ∷ 31 ∷ 30 ∷ 31 ∷ 30 ∷ 31 ∷ []

-- the days of month m of year y; 0 where m is no month
unfoldable pub month_length : ℕ → ℕ → ℕ
month_length y m = get_or (months (leap y)) m 0

-- its months 1 to 12 together
unfoldable pub year_length : ℕ → ℕ
year_length y = sum 13 (month_length y)

-- the month has such a day
unfoldable pub real : Date → Bool
real t = leb 1 t.day && leb t.day (month_length t.year t.month)

-- what makes a date real: one of the twelve months, and one of its days
pub record InCalendar (t : Date) : Type 0 where
  pub month_from : 1 ≤ t.month
  pub month_upto : t.month ≤ 12
  pub day_from : 1 ≤ t.day
  pub day_upto : t.day ≤ month_length t.year t.month

-- a real date from 2000 on
pub record Counted (t : Date) : Type 0 where
  pub is_real : T (real t)
  pub from : first_year ≤ t.year

-- a real date of the years 2000 to 2099
pub record OfCentury (t : Date) : Type 0 where
  pub is_real : T (real t)
  pub from : first_year ≤ t.year
  pub upto : t.year ≤ last_year

-- the days from 1 January 2000: those of the years before, of the year's months before, and of the month's days before
unfoldable pub day_of : Date → ℕ
day_of t =
    sum (t.year - first_year) (λ k. year_length (first_year + k))
    + sum t.month (month_length t.year)
    + (t.day - 1)

-- s comes before t
pub data Before (s t : Date) : Type 0 where
  by_year : s.year < t.year → Before s t
  by_month : s.year ≡ t.year → s.month < t.month → Before s t
  by_day : s.year ≡ t.year → s.month ≡ t.month → s.day < t.day → Before s t

-- the day after
unfoldable pub next : Date → Date
next t =
    cond (ltb t.day (month_length t.year t.month)) (date t.year t.month (suc t.day))
    (cond (ltb t.month 12) (date t.year (suc t.month) 1) (date (suc t.year) 1 1))

-- the date n days after 1 January 2000
unfoldable pub date_of : ℕ → Date
date_of zero = date first_year 1 1
date_of (suc n) = next (date_of n)

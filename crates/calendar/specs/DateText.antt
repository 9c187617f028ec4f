-- Date texts, the dates that they may mean, and these dates' days (01, "Dates and sheets").
-- Which bytes separate is a parameter, `sep`; `separator` is the paper's.
use Rattle.std.specs.Prelude.{◌≡◌, Bool, cond, ◌&&◌, ◌||◌, List, [], ◌∷◌, ◌++◌, ℕ, ◌+◌, ◌-◌, ◌*◌, ◌/◌, ◌%◌, ◌≤◌, ◌<◌, T, leb, eqb, length, get_or}
use Rattle.theory.specs.Bound.{all}
use Rattle.calendar.specs.Calendar.{first_year, last_year, Date, date, real, OfCentury, day_of}
use Rattle.calendar.specs.Ascending.{insert}

-- the bytes of a date text
abbrev pub date_length : ℕ
date_length = 10

-- those of a short one, with two digits for the year
abbrev pub short_length : ℕ
short_length = 8

-- the dates that a text shows at most
abbrev pub dates_most : ℕ
dates_most = 3

-- `/`, `.` and `-`
unfoldable pub separator : ℕ → Bool
separator b = eqb b 47 || eqb b 46 || eqb b 45

-- what a text gives first, the year in four digits or, in a short text, in two
pub data Order : Type 0 where
  dayFirst monthFirst : Order
  shortDayFirst shortMonthFirst shortYearFirst : Order

-- n in two ASCII digits
unfoldable pub two_digits : ℕ → List ℕ
two_digits n = (48 + n / 10) ∷ (48 + n % 10) ∷ []

-- n in four
unfoldable pub four_digits : ℕ → List ℕ
four_digits n = two_digits (n / 100) ++ two_digits (n % 100)

-- three parts with s between them
unfoldable pub parted : ℕ → (a b c : List ℕ) → List ℕ
parted s a b c = a ++ s ∷ b ++ s ∷ c

-- a date as it is written, in ten bytes or in eight
unfoldable pub written : Order → ℕ → Date → List ℕ
written dayFirst s t = parted s (two_digits t.day) (two_digits t.month) (four_digits t.year)
written monthFirst s t = parted s (two_digits t.month) (two_digits t.day) (four_digits t.year)
written shortDayFirst s t = parted s (two_digits t.day) (two_digits t.month) (two_digits (t.year % 100))
written shortMonthFirst s t = parted s (two_digits t.month) (two_digits t.day) (two_digits (t.year % 100))
written shortYearFirst s t = parted s (two_digits (t.year % 100)) (two_digits t.month) (two_digits t.day)

-- the bytes of such a writing
abbrev pub length_of : Order → ℕ
length_of dayFirst = date_length
length_of monthFirst = date_length
length_of shortDayFirst = short_length
length_of shortMonthFirst = short_length
length_of shortYearFirst = short_length

-- the number of two digits at place i
unfoldable pub pair_at : List ℕ → ℕ → ℕ
pair_at text i = (get_or text i 0 - 48) * 10 + (get_or text (i + 1) 0 - 48)

-- the year of four digits
unfoldable pub year_in : List ℕ → ℕ
year_in text = pair_at text 6 * 100 + pair_at text 8

-- the year of the two digits at place i
unfoldable pub short_year_at : List ℕ → ℕ → ℕ
short_year_at text i = first_year + pair_at text i

-- a text read in an order
unfoldable pub read_as : Order → List ℕ → Date
read_as dayFirst text = date (year_in text) (pair_at text 3) (pair_at text 0)
read_as monthFirst text = date (year_in text) (pair_at text 0) (pair_at text 3)
read_as shortDayFirst text = date (short_year_at text 6) (pair_at text 3) (pair_at text 0)
read_as shortMonthFirst text = date (short_year_at text 6) (pair_at text 0) (pair_at text 3)
read_as shortYearFirst text = date (short_year_at text 0) (pair_at text 3) (pair_at text 6)

-- an ASCII digit
unfoldable pub digit : ℕ → Bool
digit b = leb 48 b && leb b 57

-- what stands at place i is in order: at 2 and 5 the one separator, elsewhere a digit
unfoldable pub fits_at : (ℕ → Bool) → List ℕ → ℕ → Bool
fits_at sep text i =
    cond (eqb i 2 || eqb i 5) (sep (get_or text i 0) && eqb (get_or text i 0) (get_or text 2 0)) (digit (get_or text i 0))

-- n bytes, each in order
unfoldable pub laid_out : (ℕ → Bool) → ℕ → List ℕ → Bool
laid_out sep n text = eqb (length text) n && all n (fits_at sep text)

-- the shape of a text with a year of four digits, and that a year of the century
unfoldable pub shaped_long : (ℕ → Bool) → List ℕ → Bool
shaped_long sep text = laid_out sep date_length text && (leb first_year (year_in text) && leb (year_in text) last_year)

-- a text of eight bytes is a short one, any other is not
abbrev pub is_short : List ℕ → Bool
is_short text = eqb (length text) short_length

-- the shape of a date text; every year of two digits is one of the century
unfoldable pub shaped_date : (ℕ → Bool) → List ℕ → Bool
shaped_date sep text = cond (is_short text) (laid_out sep short_length text) (shaped_long sep text)

-- the day of a date put into an ascending list, if the date is real
unfoldable pub with_real : Date → List ℕ → List ℕ
with_real t l = cond (real t) (insert (day_of t) l) l

-- the days of the real ones among the dates, ascending, each once
unfoldable pub days_of : List Date → List ℕ
days_of [] = []
days_of (t ∷ l) = with_real t (days_of l)

-- the dates that a text shows, real or not
unfoldable pub shown : List ℕ → List Date
shown text =
    cond (is_short text) (read_as shortDayFirst text ∷ read_as shortMonthFirst text ∷ read_as shortYearFirst text ∷ [])
    (read_as dayFirst text ∷ read_as monthFirst text ∷ [])

-- the days that a text can mean
unfoldable pub means : (ℕ → Bool) → List ℕ → List ℕ
means sep text = cond (shaped_date sep text) (days_of (shown text)) []

-- text is the writing of two numbers of two digits and a year of the century
pub record Writing (sep : ℕ → Bool) (text : List ℕ) : Type 0 where
  pub order : Order
  pub mark : ℕ
  pub figures : Date
  pub separates : T (sep mark)
  pub day : figures.day < 100
  pub month : figures.month < 100
  pub from : first_year ≤ figures.year
  pub upto : figures.year ≤ last_year
  pub writes : written order mark figures ≡ text

-- text is the writing of a real date of the century, whose day is n
pub record Reading (sep : ℕ → Bool) (text : List ℕ) (n : ℕ) : Type 0 where
  pub order : Order
  pub mark : ℕ
  pub meant : Date
  pub separates : T (sep mark)
  pub of_century : OfCentury meant
  pub writes : written order mark meant ≡ text
  pub number : day_of meant ≡ n

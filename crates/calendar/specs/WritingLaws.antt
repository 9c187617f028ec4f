-- A text laid out is the writing of what it shows, and a writing is read back as what was written.
use Rattle.std.specs.Prelude.{◌≡◌, refl, Bool, ◌&&◌, ℕ, zero, suc, ◌+◌, ◌-◌, ◌*◌, ◌/◌, ◌%◌, ◌≤◌, ◌<◌, leb, length, get_or}
use Rattle.std.proofs.Common.{ap, ap₂, ◌∙◌, leb→le, le→leb}
use mathlib.Core.List.{List, [], ◌∷◌, ◌++◌}
use native.Mathlib.Omega.{arith}
use Rattle.std.proofs.Math.Dec.{T, eqb, eqb→eq, eqb_refl}
use Rattle.theory.specs.Bound.{all}
use Rattle.theory.specs.BoundLaws.{and_i, and_l, and_r, all_e}
use Rattle.calendar.specs.Calendar.{first_year, last_year, Date}
use Rattle.calendar.specs.DateText.{date_length, short_length, Order, dayFirst, monthFirst, shortDayFirst, shortMonthFirst, shortYearFirst, two_digits, four_digits, parted, written, length_of, pair_at, year_in, short_year_at, read_as, digit, fits_at, laid_out}

-- digits

digit_bounds : (b : ℕ) → T (digit b) → (48 ≤ b) × (b ≤ 57)
unfolding digit
digit_bounds b h = (leb→le 48 b (and_l (leb 48 b) _ h), leb→le b 57 (and_r (leb 48 b) _ h))

digit_of : (b : ℕ) → 48 ≤ b → b ≤ 57 → T (digit b)
unfolding digit
digit_of b l h = and_i (leb 48 b) (leb b 57) (le→leb 48 b l) (le→leb b 57 h)

-- two digits are those of the number that they write
digits-written : (x y : ℕ) → T (digit x) → T (digit y) → two_digits ((x - 48) * 10 + (y - 48)) ≡ x ∷ y ∷ []
unfolding two_digits
digits-written x y h k =
    let a = digit_bounds x h in
    let b = digit_bounds y k in
    ap₂ (λ (p q : ℕ). p ∷ q ∷ []) (omega arith) (omega arith)

-- n entries, of which f says each
tabled : ℕ → (ℕ → ℕ) → List ℕ
tabled zero f = []
tabled (suc n) f = f 0 ∷ tabled n (λ i. f (suc i))

spread : (n : ℕ) (l : List ℕ) → length l ≡ n → tabled n (λ i. get_or l i 0) ≡ l
unfolding tabled
spread zero [] e = refl
spread zero (x ∷ l) e = absurd (omega arith)
spread (suc n) [] e = absurd (omega arith)
spread (suc n) (x ∷ l) e = ap (λ (r : List ℕ). x ∷ r) (spread n l (omega arith))

-- places in order, put together

one_more : (n : ℕ) (f : ℕ → Bool) → T (all n f) → T (f n) → T (all (suc n) f)
unfolding all
one_more n f a e = and_i (all n f) (f n) a e

pub two_more : (n : ℕ) (f : ℕ → Bool) → T (all n f) → T (f n && f (suc n)) → T (all (suc (suc n)) f)
two_more n f a e = one_more (suc n) f (one_more n f a (and_l (f n) _ e)) (and_r (f n) (f (suc n)) e)

-- those that both kinds of text have
pub eight_places : (f : ℕ → Bool) → T (f 0 && f 1) → T (f 2) → T (f 3 && f 4) → T (f 5) → T (f 6 && f 7) → T (all 8 f)
unfolding all
eight_places f a s b t c = two_more 6 f (one_more 5 f (two_more 3 f (one_more 2 f (two_more 0 f tt a) s) b) t) c

-- a text laid out

module _ (sep : ℕ → Bool) (n : ℕ) (text : List ℕ) (h : T (laid_out sep n text)) where
  pub laid_length : length text ≡ n
  unfolding laid_out
  laid_length = eqb→eq (length text) n (and_l (eqb (length text) n) _ h)

  -- each place is in order
  laid-at : (i : ℕ) → i < n → T (fits_at sep text i)
  unfolding laid_out
  laid-at = all_e n (fits_at sep text) (and_r (eqb (length text) n) _ h)

  -- the separator
  pub laid_mark : 2 < n → T (sep (get_or text 2 0))
  unfolding fits_at
  laid_mark l = and_l (sep (get_or text 2 0)) _ (laid-at 2 l)

  laid-again : 5 < n → get_or text 5 0 ≡ get_or text 2 0
  unfolding fits_at
  laid-again l = eqb→eq _ _ (and_r (sep (get_or text 5 0)) _ (laid-at 5 l))

pair_of : (text : List ℕ) (i : ℕ) → T (digit (get_or text i 0)) → T (digit (get_or text (i + 1) 0)) → (pair_at text i < 100) × (two_digits (pair_at text i) ≡ get_or text i 0 ∷ get_or text (i + 1) 0 ∷ [])
unfolding pair_at
pair_of text i d e =
    let a = digit_bounds (get_or text i 0) d in
    let b = digit_bounds (get_or text (i + 1) 0) e in
    (omega arith, digits-written (get_or text i 0) (get_or text (i + 1) 0) d e)

-- the three pairs that every text has

module _ (sep : ℕ → Bool) (n : ℕ) (text : List ℕ) (h : T (laid_out sep n text)) (l : 7 < n) where
  abbrev Pair : ℕ → Type 0
  Pair i = (pair_at text i < 100) × (two_digits (pair_at text i) ≡ get_or text i 0 ∷ get_or text (i + 1) 0 ∷ [])

  pub first_pair : Pair 0
  unfolding fits_at
  first_pair = pair_of text 0 (laid-at sep n text h 0 (omega arith)) (laid-at sep n text h 1 (omega arith))

  pub second_pair : Pair 3
  unfolding fits_at
  second_pair = pair_of text 3 (laid-at sep n text h 3 (omega arith)) (laid-at sep n text h 4 (omega arith))

  pub third_pair : Pair 6
  unfolding fits_at
  third_pair = pair_of text 6 (laid-at sep n text h 6 (omega arith)) (laid-at sep n text h 7 (omega arith))

-- a text laid out is written of what it shows

laid_long : (sep : ℕ → Bool) (text : List ℕ) → T (laid_out sep date_length text) → parted (get_or text 2 0) (two_digits (pair_at text 0)) (two_digits (pair_at text 3)) (four_digits (year_in text)) ≡ text
unfolding parted four_digits year_in fits_at tabled
laid_long sep text h =
    let at = laid-at sep date_length text h in
    let a = first_pair sep date_length text h (omega arith) in
    let b = second_pair sep date_length text h (omega arith) in
    let c = third_pair sep date_length text h (omega arith) in
    let d = pair_of text 8 (at 8 (omega arith)) (at 9 (omega arith)) in
    let hi : (pair_at text 6 * 100 + pair_at text 8) / 100 ≡ pair_at text 6 = omega arith in
    let lo : (pair_at text 6 * 100 + pair_at text 8) % 100 ≡ pair_at text 8 = omega arith in
    let s = laid-again sep date_length text h (omega arith) in
    rw (hi, lo, a.1, b.1, c.1, d.1) (rw s at (spread 10 text (laid_length sep date_length text h)))

laid_short : (sep : ℕ → Bool) (text : List ℕ) → T (laid_out sep short_length text) → parted (get_or text 2 0) (two_digits (pair_at text 0)) (two_digits (pair_at text 3)) (two_digits (pair_at text 6)) ≡ text
unfolding parted tabled
laid_short sep text h =
    let a = first_pair sep short_length text h (omega arith) in
    let b = second_pair sep short_length text h (omega arith) in
    let c = third_pair sep short_length text h (omega arith) in
    let s = laid-again sep short_length text h (omega arith) in
    rw (a.1, b.1, c.1) (rw s at (spread 8 text (laid_length sep short_length text h)))

-- the last two digits of a short year
short-year : (k : ℕ) → k < 100 → (first_year + k) % 100 ≡ k
short-year k h = omega arith

-- in every order
pub written_read : (sep : ℕ → Bool) (text : List ℕ) (o : Order) → T (laid_out sep (length_of o) text) → written o (get_or text 2 0) (read_as o text) ≡ text
unfolding written read_as short_year_at
written_read sep text dayFirst h = laid_long sep text h
written_read sep text monthFirst h = laid_long sep text h
written_read sep text shortDayFirst h = rw (short-year (pair_at text 6) (third_pair sep short_length text h (omega arith)).0) (laid_short sep text h)
written_read sep text shortMonthFirst h = rw (short-year (pair_at text 6) (third_pair sep short_length text h (omega arith)).0) (laid_short sep text h)
written_read sep text shortYearFirst h = rw (short-year (pair_at text 0) (first_pair sep short_length text h (omega arith)).0) (laid_short sep text h)

-- what is written

digits : (n : ℕ) → n < 100 → T (digit (48 + n / 10) && digit (48 + n % 10))
digits n h = and_i (digit (48 + n / 10)) _ (digit_of (48 + n / 10) (omega arith) (omega arith)) (digit_of (48 + n % 10) (omega arith) (omega arith))

-- three numbers of two digits with s between them, and what comes after
module _ (sep : ℕ → Bool) (s a b c : ℕ) (rest : List ℕ) (hs : T (sep s)) (ha : a < 100) (hb : b < 100) (hc : c < 100) where
  abbrev front : List ℕ
  front = parted s (two_digits a) (two_digits b) (two_digits c ++ rest)

  front-first : pair_at front 0 ≡ a
  unfolding pair_at parted two_digits
  front-first = omega arith

  front-second : pair_at front 3 ≡ b
  unfolding pair_at parted two_digits
  front-second = omega arith

  front-third : pair_at front 6 ≡ c
  unfolding pair_at parted two_digits
  front-third = omega arith

  front_fits : T (all short_length (fits_at sep front))
  unfolding fits_at parted two_digits
  front_fits = eight_places (fits_at sep front) (digits a ha) mark (digits b hb) mark (digits c hc)
    where
      mark : T (sep s && eqb s s)
      mark = and_i (sep s) (eqb s s) hs (eqb_refl s)

-- with a year of four digits
module _ (sep : ℕ → Bool) (s a b y : ℕ) (hs : T (sep s)) (ha : a < 100) (hb : b < 100) (hy : y < 10000) where
  abbrev long : List ℕ
  long = parted s (two_digits a) (two_digits b) (four_digits y)

  long-year : year_in long ≡ y
  unfolding year_in pair_at parted four_digits two_digits
  long-year = omega arith

  long-fits : T (laid_out sep date_length long)
  unfolding laid_out fits_at parted four_digits two_digits
  long-fits = two_more short_length (fits_at sep long) (front_fits sep s a b (y / 100) (two_digits (y % 100)) hs ha hb (omega arith)) (digits (y % 100) (omega arith))

-- with a year of two
short-fits : (sep : ℕ → Bool) (s a b c : ℕ) → T (sep s) → a < 100 → b < 100 → c < 100 → T (laid_out sep short_length (parted s (two_digits a) (two_digits b) (two_digits c)))
unfolding laid_out parted two_digits
short-fits sep s a b c hs ha hb hc = front_fits sep s a b c [] hs ha hb hc

-- a date of the century's years

century_back : (y : ℕ) → first_year ≤ y → y ≤ last_year → first_year + y % 100 ≡ y
century_back y f u = omega arith

module _ (sep : ℕ → Bool) (s : ℕ) (t : Date) (hs : T (sep s)) (hd : t.day < 100) (hm : t.month < 100) (hf : first_year ≤ t.year) (hu : t.year ≤ last_year) where
  abbrev y4 : t.year < 10000
  y4 = omega arith

  abbrev y2 : t.year % 100 < 100
  y2 = omega arith

  pub written_laid : (o : Order) → T (laid_out sep (length_of o) (written o s t))
  unfolding written
  written_laid dayFirst = long-fits sep s t.day t.month t.year hs hd hm y4
  written_laid monthFirst = long-fits sep s t.month t.day t.year hs hm hd y4
  written_laid shortDayFirst = short-fits sep s t.day t.month (t.year % 100) hs hd hm y2
  written_laid shortMonthFirst = short-fits sep s t.month t.day (t.year % 100) hs hm hd y2
  written_laid shortYearFirst = short-fits sep s (t.year % 100) t.month t.day hs y2 hm hd

  -- and is read back
  pub read_written : (o : Order) → read_as o (written o s t) ≡ t
  unfolding written read_as short_year_at four_digits parted two_digits pair_at year_in
  read_written dayFirst = λ i. record {
    year = long-year sep s t.day t.month t.year hs hd hm y4 i;
    month = front-second sep s t.day t.month (t.year / 100) (two_digits (t.year % 100)) hs hd hm (omega arith) i;
    day = front-first sep s t.day t.month (t.year / 100) (two_digits (t.year % 100)) hs hd hm (omega arith) i;
  }
  read_written monthFirst = λ i. record {
    year = long-year sep s t.month t.day t.year hs hm hd y4 i;
    month = front-first sep s t.month t.day (t.year / 100) (two_digits (t.year % 100)) hs hm hd (omega arith) i;
    day = front-second sep s t.month t.day (t.year / 100) (two_digits (t.year % 100)) hs hm hd (omega arith) i;
  }
  read_written shortDayFirst = λ i. record {
    year = (ap (λ (k : ℕ). first_year + k) (front-third sep s t.day t.month (t.year % 100) [] hs hd hm y2) ∙ century_back t.year hf hu) i;
    month = front-second sep s t.day t.month (t.year % 100) [] hs hd hm y2 i;
    day = front-first sep s t.day t.month (t.year % 100) [] hs hd hm y2 i;
  }
  read_written shortMonthFirst = λ i. record {
    year = (ap (λ (k : ℕ). first_year + k) (front-third sep s t.month t.day (t.year % 100) [] hs hm hd y2) ∙ century_back t.year hf hu) i;
    month = front-first sep s t.month t.day (t.year % 100) [] hs hm hd y2 i;
    day = front-second sep s t.month t.day (t.year % 100) [] hs hm hd y2 i;
  }
  read_written shortYearFirst = λ i. record {
    year = (ap (λ (k : ℕ). first_year + k) (front-first sep s (t.year % 100) t.month t.day [] hs y2 hm hd) ∙ century_back t.year hf hu) i;
    month = front-second sep s (t.year % 100) t.month t.day [] hs y2 hm hd i;
    day = front-third sep s (t.year % 100) t.month t.day [] hs y2 hm hd i;
  }

-- a writing has the bytes that its order says
pub written-length : (o : Order) (s : ℕ) (t : Date) → length (written o s t) ≡ length_of o
unfolding written parted four_digits two_digits
written-length dayFirst s t = refl
written-length monthFirst s t = refl
written-length shortDayFirst s t = refl
written-length shortMonthFirst s t = refl
written-length shortYearFirst s t = refl

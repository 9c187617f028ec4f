-- A text means the days of the real dates of which it is the writing.
use Rattle.std.specs.Prelude.{◌≡◌, refl, ◌↔◌, ◌⊎◌, Bool, true, false, cond, ℕ, suc, ◌≤◌, ◌<◌, T, leb, length, get_or}
use Rattle.std.proofs.Common.{sym, ap, subst, ◌∙◌, inl, inr, true≢false, le_refl, le→leb, eqb→eq, eq-eqb, ne_eqb}
use mathlib.Core.List.Memᴰ
use mathlib.Core.List.{List, [], ◌∷◌, Memᴰ}
use native.Mathlib.Omega.{arith}
use Rattle.std.proofs.Math.Dec.{leb→le}
use Rattle.theory.specs.BoundLaws.{and_i, and_l, and_r}
use Rattle.calendar.specs.Calendar.{first_year, last_year, Date, real, day_of}
use Rattle.calendar.specs.CalendarLaws.{month_most, real_in}
use Rattle.calendar.specs.Ascending.{ascending, insert}
use Rattle.calendar.specs.AscendingLaws.{ascending_places, insert-ascending, insert-length, insert_has, insert_new, insert_old}
use Rattle.calendar.specs.DateText.{date_length, short_length, dates_most, Order, dayFirst, monthFirst, shortDayFirst, shortMonthFirst, shortYearFirst, written, length_of, pair_at, year_in, short_year_at, read_as, laid_out, shaped_long, is_short, shaped_date, with_real, days_of, shown, means, Writing, Reading}
use Rattle.calendar.specs.WritingLaws.{laid_length, laid_mark, first_pair, second_pair, third_pair, written_read, written_laid, read_written, written-length}

-- short texts and others

module _ (text : List ℕ) where
  is-short : length text ≡ short_length → is_short text ≡ true
  is-short e = eq-eqb (length text) short_length e

  not_short : (length text ≡ short_length → ⊥) → is_short text ≡ false
  not_short n = ne_eqb (length text) short_length n

  pub shown-short : length text ≡ short_length → shown text ≡ read_as shortDayFirst text ∷ read_as shortMonthFirst text ∷ read_as shortYearFirst text ∷ []
  unfolding shown
  shown-short e = rw (is-short e)

  pub shown-long : (length text ≡ short_length → ⊥) → shown text ≡ read_as dayFirst text ∷ read_as monthFirst text ∷ []
  unfolding shown
  shown-long n = rw (not_short n)

  module _ (sep : ℕ → Bool) where
    pub shaped_as_short : length text ≡ short_length → shaped_date sep text ≡ laid_out sep short_length text
    unfolding shaped_date
    shaped_as_short e = rw (is-short e)

    pub shaped_as_long : (length text ≡ short_length → ⊥) → shaped_date sep text ≡ shaped_long sep text
    unfolding shaped_date
    shaped_as_long n = rw (not_short n)

short_or_not : (text : List ℕ) → (length text ≡ short_length) ⊎ (length text ≡ short_length → ⊥)
short_or_not text = go (is_short text) refl
  where
    go : (b : Bool) → is_short text ≡ b → (length text ≡ short_length) ⊎ (length text ≡ short_length → ⊥)
    go true e = inl (eqb→eq (length text) short_length (rw e tt))
    go false e = inr (λ z. true≢false (sym (is-short text z) ∙ e))

-- a text with a year of four digits
module _ (sep : ℕ → Bool) (text : List ℕ) (h : T (shaped_long sep text)) where
  pub long_laid : T (laid_out sep date_length text)
  unfolding shaped_long
  long_laid = and_l (laid_out sep date_length text) _ h

  pub long_years : (first_year ≤ year_in text) × (year_in text ≤ last_year)
  unfolding shaped_long
  long_years =
      let y = and_r (laid_out sep date_length text) _ h in
      (leb→le _ _ (and_l (leb first_year (year_in text)) _ y), leb→le _ _ (and_r (leb first_year (year_in text)) _ y))

-- a short one: each of its pairs is a year of the century
module _ (sep : ℕ → Bool) (text : List ℕ) (h : T (laid_out sep short_length text)) where
  closing-year : (first_year ≤ short_year_at text 6) × (short_year_at text 6 ≤ last_year)
  unfolding short_year_at
  closing-year = let p = (third_pair sep short_length text h (omega arith)).0 in (omega arith, omega arith)

  leading-year : (first_year ≤ short_year_at text 0) × (short_year_at text 0 ≤ last_year)
  unfolding short_year_at
  leading-year = let p = (first_pair sep short_length text h (omega arith)).0 in (omega arith, omega arith)

-- a text of any order has three pairs
order-long : (o : Order) → 7 < length_of o
order-long dayFirst = omega arith
order-long monthFirst = omega arith
order-long shortDayFirst = omega arith
order-long shortMonthFirst = omega arith
order-long shortYearFirst = omega arith

-- a text of the shape, read in an order of its length
module _ (sep : ℕ → Bool) (text : List ℕ) (h : T (shaped_date sep text)) where
  as_short : length text ≡ short_length → T (laid_out sep short_length text)
  as_short e = subst T (shaped_as_short text sep e) h

  as_long : length text ≡ date_length → T (shaped_long sep text)
  as_long e = subst T (shaped_as_long text sep (λ z. omega arith)) h

  laid_in : (o : Order) → length text ≡ length_of o → T (laid_out sep (length_of o) text)
  laid_in dayFirst e = long_laid sep text (as_long e)
  laid_in monthFirst e = long_laid sep text (as_long e)
  laid_in shortDayFirst e = as_short e
  laid_in shortMonthFirst e = as_short e
  laid_in shortYearFirst e = as_short e

  years-in : (o : Order) → length text ≡ length_of o → (first_year ≤ (read_as o text).year) × ((read_as o text).year ≤ last_year)
  unfolding read_as
  years-in dayFirst e = long_years sep text (as_long e)
  years-in monthFirst e = long_years sep text (as_long e)
  years-in shortDayFirst e = closing-year sep text (as_short e)
  years-in shortMonthFirst e = closing-year sep text (as_short e)
  years-in shortYearFirst e = leading-year sep text (as_short e)

  mark_in : (o : Order) → length text ≡ length_of o → T (sep (get_or text 2 0))
  mark_in o e = laid_mark sep (length_of o) text (laid_in o e) (omega (arith, order-long o))

  -- a real date that the text shows is one of its readings
  shaped-reading : (o : Order) → length text ≡ length_of o → T (real (read_as o text)) → Reading sep text (day_of (read_as o text))
  shaped-reading o e r = record {
    order = o;
    mark = get_or text 2 0;
    meant = read_as o text;
    separates = mark_in o e;
    of_century = record { is_real = r; from = (years-in o e).0; upto = (years-in o e).1 };
    writes = written_read sep text o (laid_in o e);
    number = refl;
  }

  -- day and month have two digits each
  figures-in : (o : Order) → length text ≡ length_of o → ((read_as o text).day < 100) × ((read_as o text).month < 100)
  unfolding read_as
  figures-in o e =
      let l = order-long o in
      go o (first_pair sep (length_of o) text (laid_in o e) l).0 (second_pair sep (length_of o) text (laid_in o e) l).0 (third_pair sep (length_of o) text (laid_in o e) l).0
    where
      go : (o : Order) → pair_at text 0 < 100 → pair_at text 3 < 100 → pair_at text 6 < 100 → ((read_as o text).day < 100) × ((read_as o text).month < 100)
      go dayFirst a b c = (a, b)
      go monthFirst a b c = (b, a)
      go shortDayFirst a b c = (a, b)
      go shortMonthFirst a b c = (b, a)
      go shortYearFirst a b c = (c, b)

-- a text of the shape has the length of some order
shaped_order : (sep : ℕ → Bool) (text : List ℕ) → T (shaped_date sep text) → (o : Order) × (length text ≡ length_of o)
shaped_order sep text h = elim (short_or_not text) [
  | inl e ↦ (shortDayFirst, e)
  | inr n ↦ (dayFirst, laid_length sep date_length text (long_laid sep text (subst T (shaped_as_long text sep n) h)))
]

shaped_writing : (sep : ℕ → Bool) (text : List ℕ) → T (shaped_date sep text) → Writing sep text
shaped_writing sep text h =
    let w = shaped_order sep text h in
    record {
      order = w.0;
      mark = get_or text 2 0;
      figures = read_as w.0 text;
      separates = mark_in sep text h w.0 w.1;
      day = (figures-in sep text h w.0 w.1).0;
      month = (figures-in sep text h w.0 w.1).1;
      from = (years-in sep text h w.0 w.1).0;
      upto = (years-in sep text h w.0 w.1).1;
      writes = written_read sep text w.0 (laid_in sep text h w.0 w.1);
    }

-- a writing has the shape

short_shaped : (sep : ℕ → Bool) (text : List ℕ) → T (laid_out sep short_length text) → T (shaped_date sep text)
short_shaped sep text h = subst T (sym (shaped_as_short text sep (laid_length sep short_length text h))) h

long_shaped : (sep : ℕ → Bool) (text : List ℕ) → T (laid_out sep date_length text) → first_year ≤ year_in text → year_in text ≤ last_year → T (shaped_date sep text)
unfolding shaped_long
long_shaped sep text h f u =
    subst T (sym (shaped_as_long text sep (λ z. omega (arith, laid_length sep date_length text h))))
    (and_i (laid_out sep date_length text) _ h (and_i (leb first_year (year_in text)) _ (le→leb _ _ f) (le→leb _ _ u)))

written_shaped : (sep : ℕ → Bool) (o : Order) (s : ℕ) (t : Date) → T (sep s) → t.day < 100 → t.month < 100 → first_year ≤ t.year → t.year ≤ last_year → T (shaped_date sep (written o s t))
unfolding read_as
written_shaped sep o s t hs hd hm hf hu = go o (written_laid sep s t hs hd hm hf hu o) (ap (λ (d : Date). d.year) (read_written sep s t hs hd hm hf hu o))
  where
    go : (o : Order) → T (laid_out sep (length_of o) (written o s t)) → (read_as o (written o s t)).year ≡ t.year → T (shaped_date sep (written o s t))
    go dayFirst l e = long_shaped sep (written dayFirst s t) l (rw e hf) (rw e hu)
    go monthFirst l e = long_shaped sep (written monthFirst s t) l (rw e hf) (rw e hu)
    go shortDayFirst l e = short_shaped sep (written shortDayFirst s t) l
    go shortMonthFirst l e = short_shaped sep (written shortMonthFirst s t) l
    go shortYearFirst l e = short_shaped sep (written shortYearFirst s t) l

-- a text has the shape exactly when it is the writing of two numbers of two digits and a year of the century
pub shaped_iff : (sep : ℕ → Bool) (text : List ℕ) → T (shaped_date sep text) ↔ Writing sep text
shaped_iff sep text = (shaped_writing sep text, λ w. subst (λ (x : List ℕ). T (shaped_date sep x)) w.writes (written_shaped sep w.order w.mark w.figures w.separates w.day w.month w.from w.upto))

-- the days of the real ones among some dates

pub days-ascending : (l : List Date) → T (ascending (days_of l))
unfolding days_of with_real ascending
days-ascending [] = tt
days-ascending (t ∷ l) = go (real t) (days-ascending l)
  where
    go : (b : Bool) → T (ascending (days_of l)) → T (ascending (cond b (insert (day_of t) (days_of l)) (days_of l)))
    go true h = insert-ascending (day_of t) (days_of l) h
    go false h = h

pub days-length : (l : List Date) → length (days_of l) ≤ length l
unfolding days_of with_real
days-length [] = le_refl 0
days-length (t ∷ l) = go (real t) (days-length l)
  where
    go : (b : Bool) → length (days_of l) ≤ length l → length (cond b (insert (day_of t) (days_of l)) (days_of l)) ≤ suc (length l)
    go true h = omega (arith, insert-length (day_of t) (days_of l))
    go false h = omega arith

days_from : (l : List Date) (n : ℕ) → Memᴰ n (days_of l) → (t : Date) × Memᴰ t l × T (real t) × (day_of t ≡ n)
unfolding days_of with_real
days_from [] n m = absurd (Memᴰ.not-nil m)
days_from (t ∷ l) n m = go (real t) (λ h. h) m (days_from l n)
  where
    Found : Type 0
    Found = (u : Date) × Memᴰ u (t ∷ l) × T (real u) × (day_of u ≡ n)

    further : (u : Date) × Memᴰ u l × T (real u) × (day_of u ≡ n) → Found
    further w = (w.0, Memᴰ.tail w.1, w.2, w.3)

    pick : T (real t) → (Memᴰ n (days_of l) → (u : Date) × Memᴰ u l × T (real u) × (day_of u ≡ n)) → (n ≡ day_of t) ⊎ Memᴰ n (days_of l) → Found
    pick r f (inl e) = (t, Memᴰ.head refl, r, sym e)
    pick r f (inr k) = further (f k)

    go : (b : Bool) → (T b → T (real t)) → Memᴰ n (cond b (insert (day_of t) (days_of l)) (days_of l)) → (Memᴰ n (days_of l) → (u : Date) × Memᴰ u l × T (real u) × (day_of u ≡ n)) → Found
    go true r k f = pick (r tt) f (insert_has (day_of t) n (days_of l) k)
    go false r k f = further (f k)

days-all : (l : List Date) (t : Date) → Memᴰ t l → T (real t) → Memᴰ (day_of t) (days_of l)
unfolding days_of with_real
days-all [] t m r = absurd (Memᴰ.not-nil m)
days-all (u ∷ l) t m r = go (Memᴰ.cases_cons m) (days-all l t)
  where
    keep : (b : Bool) → Memᴰ (day_of t) (days_of l) → Memᴰ (day_of t) (cond b (insert (day_of u) (days_of l)) (days_of l))
    keep true k = insert_old (day_of u) (day_of t) (days_of l) k
    keep false k = k

    here : (b : Bool) → T b → Memᴰ (day_of u) (cond b (insert (day_of u) (days_of l)) (days_of l))
    here true h = insert_new (day_of u) (days_of l)
    here false h = absurd h

    go : (t ≡ u) ⊎ Memᴰ t l → (Memᴰ t l → T (real t) → Memᴰ (day_of t) (days_of l)) → Memᴰ (day_of t) (days_of (u ∷ l))
    go (inl e) f = subst (λ (x : Date). Memᴰ (day_of x) (days_of (u ∷ l))) (sym e) (here (real u) (subst (λ (x : Date). T (real x)) e r))
    go (inr k) f = keep (real u) (f k r)

-- the days that a text can mean

pub shaped_means : (sep : ℕ → Bool) (text : List ℕ) → T (shaped_date sep text) → means sep text ≡ days_of (shown text)
unfolding means
shaped_means sep text h = go (shaped_date sep text) h
  where
    go : (b : Bool) → T b → cond b (days_of (shown text)) [] ≡ days_of (shown text)
    go true k = refl
    go false k = absurd k

pub means_shaped : (sep : ℕ → Bool) (text : List ℕ) (n : ℕ) → Memᴰ n (means sep text) → T (shaped_date sep text)
unfolding means
means_shaped sep text n m = go (shaped_date sep text) m
  where
    go : (b : Bool) → Memᴰ n (cond b (days_of (shown text)) []) → T b
    go true k = tt
    go false k = Memᴰ.not-nil k

pub means_ascending : (sep : ℕ → Bool) (text : List ℕ) → T (ascending (means sep text))
unfolding means ascending
means_ascending sep text = go (shaped_date sep text)
  where
    go : (b : Bool) → T (ascending (cond b (days_of (shown text)) []))
    go true = days-ascending (shown text)
    go false = tt

-- each day is later than the one before it
pub means_rises : (sep : ℕ → Bool) (text : List ℕ) (i j : ℕ) → i < j → j < length (means sep text) → get_or (means sep text) i 0 < get_or (means sep text) j 0
means_rises sep text = ascending_places (means sep text) (means_ascending sep text)

-- three at most, and two where the year has four digits
pub means_most : (sep : ℕ → Bool) (text : List ℕ) → length (means sep text) ≤ dates_most
unfolding means shown
means_most sep text = go (shaped_date sep text) (is_short text)
  where
    go : (b c : Bool) → length (cond b (days_of (cond c (read_as shortDayFirst text ∷ read_as shortMonthFirst text ∷ read_as shortYearFirst text ∷ []) (read_as dayFirst text ∷ read_as monthFirst text ∷ []))) []) ≤ dates_most
    go true true = days-length (read_as shortDayFirst text ∷ read_as shortMonthFirst text ∷ read_as shortYearFirst text ∷ [])
    go true false = omega (arith, days-length (read_as dayFirst text ∷ read_as monthFirst text ∷ []))
    go false c = omega arith

pub means_long_most : (sep : ℕ → Bool) (text : List ℕ) → (length text ≡ short_length → ⊥) → length (means sep text) ≤ 2
unfolding means
means_long_most sep text n = go (shaped_date sep text)
  where
    go : (b : Bool) → length (cond b (days_of (shown text)) []) ≤ 2
    go true = rw (shown-long text n) (days-length (read_as dayFirst text ∷ read_as monthFirst text ∷ []))
    go false = omega arith

shown-all : (o : Order) (text : List ℕ) → length text ≡ length_of o → Memᴰ (read_as o text) (shown text)
shown-all dayFirst text e = rw (shown-long text (λ z. omega arith)) (Memᴰ.head refl)
shown-all monthFirst text e = rw (shown-long text (λ z. omega arith)) (Memᴰ.tail (Memᴰ.head refl))
shown-all shortDayFirst text e = rw (shown-short text e) (Memᴰ.head refl)
shown-all shortMonthFirst text e = rw (shown-short text e) (Memᴰ.tail (Memᴰ.head refl))
shown-all shortYearFirst text e = rw (shown-short text e) (Memᴰ.tail (Memᴰ.tail (Memᴰ.head refl)))

shown_only : (sep : ℕ → Bool) (t : Date) (text : List ℕ) → T (shaped_date sep text) → Memᴰ t (shown text) → (o : Order) × (length text ≡ length_of o) × (t ≡ read_as o text)
shown_only sep t text h m = elim (short_or_not text) [ inl e ↦ three e (rw (shown-short text e) at m) | inr n ↦ two n (rw (shown-long text n) at m) ]
  where
    Shows : Type 0
    Shows = (o : Order) × (length text ≡ length_of o) × (t ≡ read_as o text)

    three : length text ≡ short_length → Memᴰ t (read_as shortDayFirst text ∷ read_as shortMonthFirst text ∷ read_as shortYearFirst text ∷ []) → Shows
    three e k = elim (Memᴰ.cases_cons k) [
      | inl d ↦ (shortDayFirst, e, d)
      | inr l ↦ elim (Memᴰ.cases_cons l) [ inl d ↦ (shortMonthFirst, e, d) | inr r ↦ (shortYearFirst, e, Memᴰ.eq_of_singleton r) ]
    ]

    two : (length text ≡ short_length → ⊥) → Memᴰ t (read_as dayFirst text ∷ read_as monthFirst text ∷ []) → Shows
    two n k =
        let e = laid_length sep date_length text (long_laid sep text (subst T (shaped_as_long text sep n) h)) in
        elim (Memᴰ.cases_cons k) [ inl d ↦ (dayFirst, e, d) | inr l ↦ (monthFirst, e, Memᴰ.eq_of_singleton l) ]

-- a text is read in the orders of its length only: ten bytes in those of DT, eight in those of DS
pub reading-length : {sep : ℕ → Bool} {text : List ℕ} {n : ℕ} (r : Reading sep text n) → length text ≡ length_of r.order
reading-length r = ap length (sym r.writes) ∙ written-length r.order r.mark r.meant

-- a number is among a text's days exactly when it is the day of a real date of which the text is the writing
pub means_iff : (sep : ℕ → Bool) (text : List ℕ) (n : ℕ) → Memᴰ n (means sep text) ↔ Reading sep text n
means_iff sep text n = (there, back)
  where
    there : Memᴰ n (means sep text) → Reading sep text n
    there m =
        let h = means_shaped sep text n m in
        let w = days_from (shown text) n (rw (shaped_means sep text h) at m) in
        let p = shown_only sep w.0 text h w.1 in
        rw (← w.3, p.2) (shaped-reading sep text h p.0 p.1 (rw p.2 at w.2))

    back : Reading sep text n → Memᴰ n (means sep text)
    back r =
        let a = real_in r.meant r.of_century.is_real in
        let d : r.meant.day < 100 = omega (arith, month_most r.meant.year r.meant.month) in
        let m : r.meant.month < 100 = omega arith in
        let h = rw r.writes at (written_shaped sep r.order r.mark r.meant r.separates d m r.of_century.from r.of_century.upto) in
        let e = rw r.writes at (read_written sep r.mark r.meant r.separates d m r.of_century.from r.of_century.upto r.order) in
        rw (shaped_means sep text h, ← r.number, ← e)
        (days-all (shown text) (read_as r.order text) (shown-all r.order text (reading-length r)) (rw e r.of_century.is_real))

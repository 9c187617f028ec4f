-- No value that these functions can give is cut.
use Rattle.std.specs.Prelude.{◌≡◌, refl, ◌⊎◌, Bool, true, false, cond, not, ◌&&◌, ℕ, zero, suc, ◌+◌, ◌*◌, ◌≤◌, ◌<◌, eqb, ltb, get_or}
use Rattle.std.proofs.Common.{sym, ap, subst, ◌∙◌, inl, inr, mul-le-mul_right, arith, ltb→lt, lt-ltb, le-ltb}
use mathlib.Core.List.{List, [], ◌∷◌, Memᴰ}
use Rattle.std.proofs.Math.Arith.{digits_lt}
use Rattle.std.proofs.Math.Dec.{T, leb, leb→le}
use Rattle.std.proofs.Math.ListN.{length}
use Rattle.theory.specs.Limits.{fields_most, readings_most}
use Rattle.theory.specs.Bound.{first, val}
use Rattle.theory.specs.BoundLaws.{lt_or_ge, and_r, val_most, count_most}
use Rattle.theory.specs.Relation.{Rel, rounds}
use Rattle.theory.specs.Reading.{kept, kept_count, empty}
use Rattle.theory.specs.Settling.{steps}
use Rattle.theory.proofs.Theorems.{steps_at_most_rounds_most}
use Rattle.theory.specs.Choice.{clash_from, clash_to}
use Rattle.theory.proofs.ChoiceLaws.{clash-found}
use Rattle.refusal.specs.Said.{Said, says}
use Rattle.table.specs.declared.layout.Row.{Row}
use Rattle.table.specs.Layout.{table_length, table_rows, table_row, search_rows, search_row, at, RowIn, cell_start, rel, size_of}
use Rattle.table.specs.LayoutLaws.{row_in, search_is_table}
use Rattle.table.specs.Checks.{at_first, Refuses, Check}
use Rattle.table.specs.Shape.{stray_row, diagonal_row, mirror_row, row_place, bad_size, at_first_row, after_sizes, after_length, after_rows, after_shape}
use Rattle.judge.specs.Asked.{after_field, broken_row, at_first_broken, rows_says, kept_says, after_show, from_opening, show_says, GoodShow}
use Rattle.judge.specs.AskedLaws.{check_show}
use Rattle.settle.specs.Round.{changed_row}
use Rattle.settle.specs.Settle.{rel_of, GoodLent, after_lent, rounds_say, settle_says}
use Rattle.settle.specs.SettleLaws.{check-lent, says-settled, says-unfinished}
use Rattle.choose.specs.Choosing.{choice_of, bad_fixed, after_empty, after_fixed, after_clash, choose_says, after_lent as lentChoice}
use Rattle.calendar.specs.Calendar.{last_day}
use Rattle.calendar.specs.DateText.{dates_most, shaped_date, means}
use Rattle.calendar.specs.DateTextLaws.{means_most}
use Rattle.calendar.specs.DateAnswers.{days_say, date_says}
use Rattle.calendar.specs.DateAnswersLaws.{means_within}
use Rattle.capi.specs.Unpacked.{Short, Fits}

-- short places

pub none_short : Short []
none_short = record { few = omega arith; each = λ p. omega arith }

pub one_short : {x : ℕ} → x < 65536 → Short (x ∷ [])
one_short {x} h = record { few = omega arith; each = each }
  where
    each : (p : ℕ) → get_or (x ∷ []) p 0 < 65536
    each zero = h
    each (suc p) = omega arith

pub two_short : {x y : ℕ} → x < 65536 → y < 65536 → Short (x ∷ y ∷ [])
two_short {x} {y} h k = record { few = omega arith; each = each }
  where
    each : (p : ℕ) → get_or (x ∷ y ∷ []) p 0 < 65536
    each zero = h
    each (suc zero) = k
    each (suc (suc p)) = omega arith

pub row-short : {n : ℕ} (r : Row) → n ≤ fields_most → RowIn n r → Short (row_place r)
row-short r f h = record { few = omega arith; each = each }
  where
    each : (p : ℕ) → get_or (row_place r) p 0 < 65536
    each zero = omega (arith, f, h.first)
    each (suc zero) = omega (arith, f, h.second)
    each (suc (suc zero)) = omega (arith, h.reading)
    each (suc (suc (suc p))) = omega arith

-- checks

module _ (P : List ℕ → Type 0) where
  pub fits_refusal : (k : ℕ) (v : List ℕ) → 1 ≤ k → k < 256 → Short v → Fits P (says k v)
  fits_refusal k v a b h = inr (a, b, h)

  pub fits_test : (b : Bool) (rest k : Said) → (T b → Fits P rest) → Fits P k → Fits P (cond b rest k)
  fits_test true rest k h r = h tt
  fits_test false rest k h r = r

  pub fits-first : (n : ℕ) (p : ℕ → Bool) (say : ℕ → Said) (rest : Said) → ((q : ℕ) → q < n → Fits P (say q)) → Fits P rest → Fits P (at_first n p say rest)
  fits-first n p say rest h r = elim (lt_or_ge (first n p) n) [
    | inl l ↦ subst (Fits P) (sym (ap (λ (b : Bool). cond b (say (first n p)) rest) (lt-ltb (first n p) n l))) (h (first n p) l)
    | inr g ↦ subst (Fits P) (sym (ap (λ (b : Bool). cond b (say (first n p)) rest) (le-ltb (first n p) n g))) r
  ]

  -- what fits where the checks refuse, and after they pass
  pub fits_after : {Q : Type 0} (A : Said → Said) → Check Q A → Fits P (A (says 24 [])) → (rest : Said) → (Q → Fits P rest) → Fits P (A rest)
  fits_after {Q} A c h rest r = go c.decides
    where
      go : Q ⊎ Refuses A → Fits P (A rest)
      go (inl q) = subst (Fits P) (sym (c.passes q rest)) (r q)
      go (inr w) = subst (Fits P) (w.2 (says 24 []) ∙ sym (w.2 rest)) h

  -- a row of a table of n fields
  pub fits-row : (k n : ℕ) (test : ℕ → ℕ → ℕ → Bool) (rest : Said) → 1 ≤ k → k < 256 → n ≤ fields_most → Fits P rest → Fits P (at_first_row k n test rest)
  fits-row k n test rest a b f r = fits-first (table_rows n) (λ p. at test (table_row n p)) (λ p. says k (row_place (table_row n p))) rest (λ q h. inr (a, b, row-short (table_row n q) f (row_in n q h))) r

  pub fits-sizes : (sizes : List ℕ) (rest : Said) → (length sizes ≤ fields_most → Fits P rest) → Fits P (after_sizes sizes rest)
  unfolding after_sizes
  fits-sizes sizes rest r = fits_test (leb 1 (length sizes) && leb (length sizes) fields_most) _ (says 1 []) some (fits_refusal 1 [] (omega arith) (omega arith) none_short)
    where
      some : T (leb 1 (length sizes) && leb (length sizes) fields_most) → Fits P (at_first (length sizes) (bad_size sizes) (λ f. says 2 (f ∷ [])) rest)
      some t =
          let few : length sizes ≤ fields_most = leb→le (length sizes) fields_most (and_r (leb 1 (length sizes)) _ t) in
          fits-first (length sizes) (bad_size sizes) (λ f. says 2 (f ∷ [])) rest (λ q h. fits_refusal 2 (q ∷ []) (omega arith) (omega arith) (one_short (omega (arith, few, h)))) (r few)

  pub fits-length : (n : ℕ) (t : List ℕ) (rest : Said) → Fits P rest → Fits P (after_length n t rest)
  unfolding after_length
  fits-length n t rest r = fits_test (eqb (length t) (table_length n)) rest (says 3 []) (λ _. r) (fits_refusal 3 [] (omega arith) (omega arith) none_short)

  pub fits_shape : (sizes t : List ℕ) (rest : Said) → (length sizes ≤ fields_most → Fits P rest) → Fits P (after_shape sizes t rest)
  unfolding after_rows
  fits_shape sizes t rest r = fits-sizes sizes _ (λ f. fits-length (length sizes) t _
      (fits-row 4 (length sizes) (stray_row (size_of sizes) (rel (length sizes) t)) _ (omega arith) (omega arith) f
      (fits-row 5 (length sizes) (diagonal_row (rel (length sizes) t)) _ (omega arith) (omega arith) f
      (fits-row 6 (length sizes) (mirror_row (rel (length sizes) t)) _ (omega arith) (omega arith) f (r f)))))

  -- 24
  pub fits_field : (n f : ℕ) (rest : Said) → Fits P rest → Fits P (after_field n f rest)
  unfolding after_field
  fits_field n f rest r = fits_test (ltb f n) rest (says 24 []) (λ _. r) (fits_refusal 24 [] (omega arith) (omega arith) none_short)

  -- the first broken row, said with a number or as a result
  pub fits-broken : (k n : ℕ) (size : ℕ → ℕ) (R : Rel) (rest : Said) → n ≤ fields_most → ((r : Row) → RowIn n r → Fits P (says k (row_place r))) → Fits P rest → Fits P (at_first_broken k n size R rest)
  fits-broken k n size R rest f h r = fits-first (search_rows n) (λ p. at (broken_row size R) (search_row n p)) (λ p. says k (row_place (search_row n p))) rest (λ q l. h (search_row n q) (subst (RowIn n) (sym (search_is_table n q)) (row_in n q l))) r

  -- what comes where the checks refuse is of no matter
  refusing : Fits P (says 24 [])
  refusing = fits_refusal 24 [] (omega arith) (omega arith) none_short

-- settling

-- unfinished, or rounds of 32 bits and 1 or 0
abbrev pub OfSettling : List ℕ → Type 0
OfSettling v = (v ≡ []) ⊎ ((r e : ℕ) × (v ≡ r ∷ e ∷ []) × (r < 4294967296) × (e ≤ 1))

pub settling_fits : (sizes t s : List ℕ) (budget : ℕ) → Fits OfSettling (settle_says sizes t s budget)
unfolding settle_says after_lent
settling_fits sizes t s budget = fits_after OfSettling (after_lent sizes t s) (check-lent sizes t s) refuses (rounds_say (length sizes) (rel_of sizes t) budget) said
  where
    refuses : Fits OfSettling (after_lent sizes t s (says 24 []))
    refuses = fits_shape OfSettling sizes t _ (λ _. fits_test OfSettling (eqb (length s) (table_length (length sizes))) (says 24 []) (says 7 []) (λ _. refusing OfSettling) (fits_refusal OfSettling 7 [] (omega arith) (omega arith) none_short))

    said : GoodLent sizes t s → Fits OfSettling (rounds_say (length sizes) (rel_of sizes t) budget)
    said g = elim (lt_or_ge budget (steps (length sizes) (rel_of sizes t))) [
      | inl l ↦ subst (Fits OfSettling) (sym (says-unfinished (length sizes) (rel_of sizes t) budget l)) (inl (refl, inl refl))
      | inr l ↦ subst (Fits OfSettling) (sym (says-settled (length sizes) (rel_of sizes t) budget l)) (inl (refl, inr (steps (length sizes) (rel_of sizes t), val (empty (length sizes) (rounds (length sizes) (steps (length sizes) (rel_of sizes t)) (rel_of sizes t))), refl, omega (arith, steps_at_most_rounds_most g.good.formed g.good.good.few), val_most (empty (length sizes) (rounds (length sizes) (steps (length sizes) (rel_of sizes t)) (rel_of sizes t))))))
    ]

-- judging

-- nothing, or a row
abbrev pub OfRows : List ℕ → Type 0
OfRows v = (v ≡ []) ⊎ ((r : Row) × (v ≡ row_place r) × Short v)

pub rows_fit : (sizes t : List ℕ) → Fits OfRows (rows_says sizes t)
unfolding rows_says
rows_fit sizes t = fits_shape OfRows sizes t _ (λ f. fits-broken OfRows 0 (length sizes) (size_of sizes) (rel (length sizes) t) (says 0 []) f (λ r h. inl (refl, inr (r, refl, row-short r f h))) (inl (refl, inl refl)))

-- readings kept, fields read

-- one value
abbrev pub OfOne : List ℕ → Type 0
OfOne v = (k : ℕ) × (v ≡ k ∷ []) × (k < 65536)

pub kept-fits : (sizes t : List ℕ) (f : ℕ) → Fits OfOne (kept_says sizes t f)
unfolding kept_says
kept-fits sizes t f = fits_shape OfOne sizes t _ (λ _. fits_field OfOne (length sizes) f _ (inl (refl, (kept_count (rel (length sizes) t) f, refl, omega (arith, count_most readings_most (kept (rel (length sizes) t) f))))))

-- choosing

abbrev pub OfNone : List ℕ → Type 0
OfNone v = v ≡ []

pub choice_fits : (sizes t fixed : List ℕ) (room : ℕ) → Fits OfNone (choose_says sizes t fixed room)
unfolding lentChoice after_empty after_fixed after_clash
choice_fits sizes t fixed room = fits_shape OfNone sizes t _ (λ f.
    fits_test OfNone (eqb (length fixed) (length sizes) && eqb room (length sizes)) _ (says 7 []) (λ _.
    fits-row OfNone 8 (length sizes) (changed_row (length sizes) (rel_of sizes t)) _ (omega arith) (omega arith) f
    (fits_test OfNone (not (empty (length sizes) (rel_of sizes t))) _ (says 9 []) (λ _.
    fits-broken OfNone 10 (length sizes) (size_of sizes) (rel_of sizes t) _ f (λ r h. fits_refusal OfNone 10 (row_place r) (omega arith) (omega arith) (row-short r f h))
    (fits-first OfNone (length sizes) (bad_fixed sizes fixed) (λ k. says 11 (k ∷ [])) _ (λ q h. fits_refusal OfNone 11 (q ∷ []) (omega arith) (omega arith) (one_short (omega (arith, f, h))))
    (clashes f)))
    (fits_refusal OfNone 9 [] (omega arith) (omega arith) none_short)))
    (fits_refusal OfNone 7 [] (omega arith) (omega arith) none_short))
  where
    n : ℕ
    n = length sizes

    i : ℕ
    i = clash_from n (rel_of sizes t) (choice_of fixed)

    j : ℕ
    j = clash_to n (rel_of sizes t) (choice_of fixed)

    clashes : n ≤ fields_most → Fits OfNone (cond (ltb i n) (says 12 (i ∷ j ∷ [])) (says 0 []))
    clashes f = fits_test OfNone (ltb i n) (says 12 (i ∷ j ∷ [])) (says 0 []) (λ b. let l = ltb→lt i n b in fits_refusal OfNone 12 (i ∷ j ∷ []) (omega arith) (omega arith) (two_short (omega (arith, f, l)) (omega (arith, f, (clash-found n (rel_of sizes t) (choice_of fixed) l).0)))) (inl (refl, refl))

-- a cell shown

-- 0 or 1, and a place of 32 bits
abbrev pub OfShown : List ℕ → Type 0
OfShown v = (b at : ℕ) × (v ≡ b ∷ at ∷ []) × (b ≤ 1) × (at < 4294967296)

pub shown-fits : (sizes opening settled : List ℕ) (i j : ℕ) → Fits OfShown (show_says sizes opening settled i j)
unfolding show_says after_show
shown-fits sizes opening settled i j = fits_after OfShown (after_show sizes opening settled i j) (check_show sizes opening settled i j) refuses _ said
  where
    n : ℕ
    n = length sizes

    refuses : Fits OfShown (after_show sizes opening settled i j (says 24 []))
    refuses = fits-sizes OfShown sizes _ (λ _. fits-length OfShown n opening _ (fits-length OfShown n settled _ (fits_field OfShown n i _ (fits_field OfShown n j _ (refusing OfShown)))))

    small : GoodShow sizes opening settled i j → cell_start n i j < 4294967296
    small g =
        let few : n ≤ fields_most = g.good.few in
        let d : i * n + j < n * n = digits_lt g.first g.second in
        let e : n * n ≤ fields_most * n = mul-le-mul_right n few in
        omega (arith, d, e)

    said : GoodShow sizes opening settled i j → Fits OfShown (says 0 (val (from_opening n settled) ∷ cell_start n i j ∷ []))
    said g = inl (refl, (val (from_opening n settled), cell_start n i j, refl, val_most (from_opening n settled), small g))

-- a date text

-- the number of days
abbrev pub OfCount : List ℕ → Type 0
OfCount v = (c : ℕ) × (v ≡ c ∷ []) × (c ≤ 3)

pub date-fits : (sep : ℕ → Bool) (text : List ℕ) → Fits OfCount (date_says sep text)
unfolding date_says
date-fits sep text = fits_test OfCount (shaped_date sep text) (days_say (means sep text)) (says 19 []) (λ _. counted (means sep text) (means_most sep text)) (fits_refusal OfCount 19 [] (omega arith) (omega arith) none_short)
  where
    counted : (l : List ℕ) → length l ≤ dates_most → Fits OfCount (days_say l)
    counted [] h = fits_refusal OfCount 20 [] (omega arith) (omega arith) none_short
    counted (x ∷ l) h = inl (refl, (length (x ∷ l), refl, omega arith))

-- the days themselves
pub days-short : (sep : ℕ → Bool) (text : List ℕ) → Short (means sep text)
days-short sep text = record { few = omega (arith, means_most sep text); each = within (means sep text) (means_within sep text) }
  where
    within : (l : List ℕ) → ((n : ℕ) → Memᴰ n l → n ≤ last_day) → (p : ℕ) → get_or l p 0 < 65536
    within [] h p = omega arith
    within (x ∷ l) h zero = omega (arith, h x (Memᴰ.head refl))
    within (x ∷ l) h (suc p) = within l (λ n m. h n (Memᴰ.tail m)) p

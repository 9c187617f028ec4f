-- What the packed numbers come to, for whoever takes them apart.
use Rattle.std.specs.Prelude.{◌≡◌, refl, Bool, true, false, ℕ, drop}
use Rattle.std.proofs.Math.Path.{sym, ap, ap₂}
use Rattle.std.proofs.Common.{subst, ◌∙◌, inl, inr, arith, ext_get_or, ne_eqb}
use Rattle.std.proofs.Math.Bool.{cond}
use mathlib.Core.List.{List, [], ◌∷◌}
use Rattle.std.proofs.Math.Dec.{eqb}
use Rattle.std.proofs.Math.ListN.{length, get_or, take}
use Rattle.theory.specs.Limits.{readings_most}
use Rattle.theory.specs.Bound.{val}
use Rattle.theory.proofs.Theorems.{first_is_one}
use Rattle.refusal.specs.Said.{Said, says}
use Rattle.table.specs.CheckLaws.{passed, answered}
use Rattle.table.specs.Layout.{cell_start, cell_of}
use Rattle.table.specs.Shape.{row_place}
use Rattle.calendar.specs.DateText.{shaped_date, means}
use Rattle.calendar.specs.DateAnswers.{days_say, date_says}
use Rattle.judge.specs.Asked.{rows_says, kept_says, from_opening, show_says, shown_words}
use Rattle.judge.specs.AskedLaws.{check_show}
use Rattle.judge.specs.Theorems.{a_cell_is_shown}
use Rattle.settle.specs.Settle.{settle_says}
use Rattle.choose.specs.Choosing.{choose_says}
use Rattle.choose.specs.ChoosingLaws.{check_choose}
use Rattle.sheet.specs.Opening.{Outcome, reading}
use Rattle.capi.specs.Packed.{packed, packed_said, as_values, as_days, as_settling, as_rows, as_shown, wide, parts}
use Rattle.capi.specs.Promises.{PacksReading, PacksSettling, PacksChoice}
use Rattle.capi.specs.Unpacked.{state_in, second_in, wide_in, counted_in, said_in, none_in, count_in, value_in, settling_in, rows_in, shown_in, Short, Fits}
use Rattle.capi.specs.UnpackedLaws.{packed-second, packed-values, packed-wide, counted_back, said_back}
use Rattle.capi.specs.FitLaws.{OfSettling, settling_fits, OfRows, rows_fit, OfOne, one_short, kept-fits, OfNone, choice_fits, OfShown, shown-fits, OfCount, date-fits, days-short}
use Rattle.capi.specs.SheetFitLaws.{opened-fits}

-- 1. No value is cut: what is said is read back from the number, so that the number determines it

pub settling_read_back : (sizes t s : List ℕ) (budget : ℕ) → said_in settling_in (packed_said as_settling (settle_says sizes t s budget)) ≡ settle_says sizes t s budget
settling_read_back sizes t s budget = said_back as_settling settling_in OfSettling back (settle_says sizes t s budget) (settling_fits sizes t s budget)
  where
    back : (v : List ℕ) → OfSettling v → settling_in (packed 0 (as_settling v)) ≡ v
    back v (inl e) = subst (λ (l : List ℕ). settling_in (packed 0 (as_settling l)) ≡ l) (sym e) (rw (packed-second 0 (parts 2 []) (omega arith) (omega arith)))
    back v (inr (r, e, p, hr, he)) = subst (λ (l : List ℕ). settling_in (packed 0 (as_settling l)) ≡ l) (sym p)
        (rw (packed-second 0 (parts e (wide r)) (omega arith) (omega arith), ne_eqb e 2 (λ z. omega arith), packed-wide e r hr))

pub rows_read_back : (sizes t : List ℕ) → said_in rows_in (packed_said as_rows (rows_says sizes t)) ≡ rows_says sizes t
rows_read_back sizes t = said_back as_rows rows_in OfRows back (rows_says sizes t) (rows_fit sizes t)
  where
    back : (v : List ℕ) → OfRows v → rows_in (packed 0 (as_rows v)) ≡ v
    back v (inl e) = subst (λ (l : List ℕ). rows_in (packed 0 (as_rows l)) ≡ l) (sym e) (rw (packed-second 0 (parts 0 []) (omega arith) (omega arith)))
    back v (inr (r, p, h)) = let k = rw p at h in subst (λ (l : List ℕ). rows_in (packed 0 (as_rows l)) ≡ l) (sym p)
        (rw (packed-second 0 (parts 1 (row_place r)) (omega arith) (omega arith), packed-values 0 (parts 1 (row_place r)) (omega arith) k))

-- one value
one_back : (v : List ℕ) → OfOne v → value_in (packed 0 (as_values v)) ≡ v
one_back v (k, p, h) = subst (λ (l : List ℕ). value_in (packed 0 (as_values l)) ≡ l) (sym p) (ap (take 1) (packed-values 0 (parts 0 (k ∷ [])) (omega arith) (one_short h)))

pub kept_read_back : (sizes t : List ℕ) (f : ℕ) → said_in value_in (packed_said as_values (kept_says sizes t f)) ≡ kept_says sizes t f
kept_read_back sizes t f = said_back as_values value_in OfOne one_back (kept_says sizes t f) (kept-fits sizes t f)

pub opened_read_back : (sep : ℕ → Bool) (sheet sizes days table : List ℕ) → said_in value_in (packed_said as_values (reading sep sheet sizes days table).said) ≡ (reading sep sheet sizes days table).said
opened_read_back sep sheet sizes days table = said_back as_values value_in OfOne one_back (reading sep sheet sizes days table).said (opened-fits sep sheet sizes days table)

pub choice_read_back : (sizes t fixed : List ℕ) (room : ℕ) → said_in none_in (packed_said as_values (choose_says sizes t fixed room)) ≡ choose_says sizes t fixed room
choice_read_back sizes t fixed room = said_back as_values none_in OfNone (λ v e. sym e) (choose_says sizes t fixed room) (choice_fits sizes t fixed room)

shown_back : (v : List ℕ) → OfShown v → shown_in (packed 0 (as_shown v)) ≡ v
shown_back v (b, at, p, hb, h) = subst (λ (l : List ℕ). shown_in (packed 0 (as_shown l)) ≡ l) (sym p) (rw (packed-second 0 (parts b (wide at)) (omega arith) (omega arith), packed-wide b at h))

pub shown_read_back : (sizes opening settled : List ℕ) (i j : ℕ) → said_in shown_in (packed_said as_shown (show_says sizes opening settled i j)) ≡ show_says sizes opening settled i j
shown_read_back sizes opening settled i j = said_back as_shown shown_in OfShown shown_back (show_says sizes opening settled i j) (shown-fits sizes opening settled i j)

pub date_read_back : (sep : ℕ → Bool) (text : List ℕ) → said_in count_in (packed_said (as_days (means sep text)) (date_says sep text)) ≡ date_says sep text
date_read_back sep text = said_back (as_days (means sep text)) count_in OfCount back (date_says sep text) (date-fits sep text)
  where
    back : (v : List ℕ) → OfCount v → count_in (packed 0 (as_days (means sep text) v)) ≡ v
    back v (c, p, h) = subst (λ (l : List ℕ). count_in (packed 0 (as_days (means sep text) l)) ≡ l) (sym p) (rw (packed-second 0 (parts c (means sep text)) (omega arith) (omega arith)))

-- and so are the days
pub days_read_back : (sep : ℕ → Bool) (text : List ℕ) → (date_says sep text).state ≡ 0 → counted_in (packed_said (as_days (means sep text)) (date_says sep text)) ≡ means sep text
unfolding date_says
days_read_back sep text = go (shaped_date sep text) (means sep text) (days-short sep text)
  where
    go : (b : Bool) (l : List ℕ) → Short l → (cond b (days_say l) (says 19 [])).state ≡ 0 → counted_in (packed_said (as_days l) (cond b (days_say l) (says 19 []))) ≡ l
    go false l h e = absurd (omega arith)
    go true [] h e = absurd (omega arith)
    go true (x ∷ l) h e = counted_back 0 (x ∷ l) (omega arith) h

-- 2. Two results that satisfy a statement coincide. Where the statement is an equation nothing is left to say.

pub reading_packed_is_one : {o : Outcome} {a b : ℕ} {z₁ d₁ t₁ z₂ d₂ t₂ : List ℕ} → PacksReading o a z₁ d₁ t₁ → PacksReading o b z₂ d₂ t₂ → (a ≡ b) × (z₁ ≡ z₂) × (d₁ ≡ d₂) × (t₁ ≡ t₂)
reading_packed_is_one p q = (p.number ∙ sym q.number, p.leaves_sizes ∙ sym q.leaves_sizes, p.leaves_days ∙ sym q.leaves_days, p.leaves_table ∙ sym q.leaves_table)

pub settling_packed_is_one : {sizes t s : List ℕ} {budget a b : ℕ} {t₁ s₁ t₂ s₂ : List ℕ} → PacksSettling sizes t s budget a t₁ s₁ → PacksSettling sizes t s budget b t₂ s₂ → (a ≡ b) × (t₁ ≡ t₂) × (s₁ ≡ s₂)
settling_packed_is_one p q = (p.number ∙ sym q.number, p.table ∙ sym q.table, p.scratch ∙ sym q.scratch)

pub choice_packed_is_one : {sizes t fixed before : List ℕ} {a b : ℕ} {u v : List ℕ} → PacksChoice sizes t fixed before a u → PacksChoice sizes t fixed before b v → (a ≡ b) × (u ≡ v)
choice_packed_is_one {sizes} {t} {fixed} {before} {a} {b} {u} {v} p q = (p.number ∙ sym q.number, same (choice_fits sizes t fixed (length before)))
  where
    same : Fits OfNone (choose_says sizes t fixed (length before)) → u ≡ v
    same (inl h) =
        let e : says 0 [] ≡ choose_says sizes t fixed (length before) = λ i. says (sym h.0 i) (sym h.1 i) in
        let room : length before ≡ length sizes = (passed (check_choose sizes t fixed (length before)) e).0.lent in
        ext_get_or 0 u v (p.long ∙ sym q.long) (λ i l. first_is_one (p.first h.0) (q.first h.0) i (omega (arith, p.long, room, l)))
    same (inr h) = p.left h.0 ∙ sym (q.left h.0)

-- 3. A cell shown: the 32 words from the place that is given, in the table that is named, are those that `show` gives

val_is_one : (b : Bool) → eqb (val b) 1 ≡ b
val_is_one true = refl
val_is_one false = refl

module _ (sizes opening settled : List ℕ) (i j : ℕ) where
  -- the number that is answered
  abbrev answer : ℕ
  answer = packed_said as_shown (show_says sizes opening settled i j)

  pub shown_words_are_there : state_in answer ≡ 0 → take readings_most (drop (wide_in answer) (cond (eqb (second_in answer) 1) opening settled)) ≡ shown_words sizes opening settled i j
  unfolding show_says cell_of
  shown_words_are_there z =
      let n = length sizes in
      let e : says 0 (shown_in answer) ≡ show_says sizes opening settled i j = sym (ap (λ (k : ℕ). cond (eqb k 0) (says 0 (shown_in answer)) (says k (counted_in answer))) z) ∙ shown_read_back sizes opening settled i j in
      let w : shown_in answer ≡ val (from_opening n settled) ∷ cell_start n i j ∷ [] = (answered (check_show sizes opening settled i j) e).1 in
      let from : second_in answer ≡ val (from_opening n settled) = ap (λ (l : List ℕ). get_or l 0 0) w in
      let start : wide_in answer ≡ cell_start n i j = ap (λ (l : List ℕ). get_or l 1 0) w in
      ap₂ (λ (p : ℕ) (b : Bool). take readings_most (drop p (cond b opening settled))) start (ap (λ (k : ℕ). eqb k 1) from ∙ val_is_one (from_opening n settled))
      ∙ sym (a_cell_is_shown sizes opening settled i j (sym (ap (λ (s : Said). s.state) e))).0

-- What the records of a whole sheet are: 1 to 16 fields, each with 1 to 32 days that rise and are not over the last.
use Rattle.std.specs.Prelude.{◌≡◌, Bool, true, false, cond, ℕ, zero, suc, ◌+◌, ◌-◌, ◌≤◌, ◌<◌, T, length, get_or, take, drop}
use Rattle.std.proofs.Math.Path.{refl}
use Rattle.std.proofs.Common.{sym, ap, ◌∙◌, inl, inr, arith, le→leb, length-append}
use mathlib.Core.List.{List, [], ◌∷◌, ◌++◌, Memᴰ}
use Rattle.std.proofs.Math.ListN.{get_or-append}
use Rattle.std.proofs.lemmas.List.{length-map}
use Rattle.std.proofs.Math.Seq.{get_or-append_seam}
use Rattle.refusal.specs.Said.{says}
use Rattle.theory.specs.Limits.{fields_most, readings_most}
use Rattle.theory.specs.BoundLaws.{all_i, lt_or_ge}
use Rattle.calendar.specs.Calendar.{last_day}
use Rattle.calendar.specs.Ascending.{ascending}
use Rattle.calendar.specs.DateText.{date_length, short_length, shaped_date, means}
use Rattle.calendar.specs.DateTextLaws.{means_ascending, means_most}
use Rattle.calendar.specs.DateAnswers.{days_say, date_says}
use Rattle.calendar.specs.DateAnswersLaws.{means_within}
use Rattle.table.specs.LayoutLaws.{length-tabulate}
use Rattle.scan.specs.declared.mark.Mark.{Mark}
use Rattle.scan.specs.declared.mark.Mark.TheVariants.{Date, Short, Days, Gap, Strike, End, Unknown}
use Rattle.scan.specs.Sheet.{number_at, Record, field, gap, strike, fields_of, any_pair, Told, told, more, done, adds, early, date_at, days_at, mark_of, by_mark, step_at, whole, scan}
use Rattle.scan.specs.RecordLaws.{is_pair, fields_field, fields_pair, late_pair, told-sizes}
use Rattle.scan.specs.SheetLaws.{date_no_end, days_no_end, gap_no_end, strike_no_end, adds-done, end_some, step_done, date-stands, days_stand, gap_stands, strike-stands, end_no_more, step_more, adds_more, step_forward, scan_on, scan_on_lem, Going, goes, over, going}

-- the days of a field
pub record GoodField (d : List ℕ) : Type 0 where
  pub some : 1 ≤ length d
  pub few : length d ≤ readings_most
  pub rise : T (ascending d)
  pub in_time : T (early d)

-- the fields of a sheet
pub record GoodFields (fields : List (List ℕ)) : Type 0 where
  pub few : length fields ≤ fields_most
  pub each : (i : ℕ) → i < length fields → GoodField (get_or fields i [])

true_holds : {b : Bool} → b ≡ true → T b
true_holds e = rw e tt

mem_at : (l : List ℕ) (i : ℕ) → i < length l → Memᴰ (get_or l i 0) l
mem_at [] i h = absurd (omega arith)
mem_at (x ∷ l) zero h = Memᴰ.head refl
mem_at (x ∷ l) (suc i) h = Memᴰ.tail (mem_at l i (omega arith))

-- a text that is not refused means some day
means_some : (sep : ℕ → Bool) (text : List ℕ) → (date_says sep text).state ≡ 0 → 1 ≤ length (means sep text)
unfolding date_says
means_some sep text = go (shaped_date sep text) (means sep text)
  where
    go : (b : Bool) (l : List ℕ) → (cond b (days_say l) (says 19 [])).state ≡ 0 → 1 ≤ length l
    go true [] e = absurd (omega arith)
    go true (x ∷ l) e = omega arith
    go false l e = absurd (omega arith)

means_good : (sep : ℕ → Bool) (text : List ℕ) → (date_says sep text).state ≡ 0 → GoodField (means sep text)
unfolding early
means_good sep text e = record {
  some = means_some sep text e;
  few = omega (arith, means_most sep text);
  rise = means_ascending sep text;
  in_time = all_i (length (means sep text)) _ (λ k h. le→leb (get_or (means sep text) k 0) last_day (means_within sep text (get_or (means sep text) k 0) (mem_at (means sep text) k h)));
}

field_of : {d l : List ℕ} → field d ≡ field l → d ≡ l
field_of e = cc e

-- what a step that goes on adds
pub step_good : (sep : ℕ → Bool) (t : Told) (s : List ℕ) (at : ℕ) (d : List ℕ) (n : ℕ) → step_at sep t s at ≡ more (field d) n → GoodField d × (length t.sizes < fields_most) × (t.late ≡ false)
step_good sep t s at d n e = go (mark_of (number_at s at)) (step_more sep t s at (field d) n e).1
  where
    dated : (size : ℕ) → adds t at (date_at sep size s at) ≡ more (field d) n → GoodField d × (length t.sizes < fields_most) × (t.late ≡ false)
    dated size f =
        let a = adds_more t at (date_at sep size s at) (field d) n f in
        let p = date-stands sep size s at (field d) n a.2 in
        (rw (field_of p.is) (means_good sep (take size (drop (at + 2) s)) p.shown), a.1, a.0)

    go : (m : Mark) → by_mark sep m t s at ≡ more (field d) n → GoodField d × (length t.sizes < fields_most) × (t.late ≡ false)
    go Date f = dated date_length f
    go Short f = dated short_length f
    go Days f =
        let a = adds_more t at (days_at s at) (field d) n f in
        let p = days_stand s at (field d) n a.2 in (
          rw (field_of p.is) (record {
            some = rw length-tabulate p.some;
            few = rw length-tabulate p.few;
            rise = true_holds p.rise;
            in_time = true_holds p.in_time;
          }),
          a.1,
          a.0,
        )
    go Gap f = absurd (let p = (gap_stands t.sizes s at (field d) n f).is in cc p)
    go Strike f = absurd (let p = (strike-stands t.sizes s at (field d) n f).is in cc p)
    go End f = absurd (end_no_more t.sizes s at (field d) n f)
    go Unknown f = absurd (cc f)

-- one field more
good_more : {fields : List (List ℕ)} {d : List ℕ} → GoodFields fields → GoodField d → length fields < fields_most → GoodFields (fields ++ d ∷ [])
good_more {fields} {d} g h l = record {
  few = rw length-append (omega arith);
  each = λ i k. elim (lt_or_ge i (length fields)) [
    | inl m ↦ rw (get_or-append fields (d ∷ []) [] i m) (g.each i m)
    | inr m ↦ last i (omega (arith, rw length-append at k))
  ];
}
  where
    last : (i : ℕ) → i ≡ length fields → GoodField (get_or (fields ++ d ∷ []) i [])
    last i e = rw (e, get_or-append_seam fields d [] []) h

module _ (sep : ℕ → Bool) (s : List ℕ) where
  told-count : (rs : List Record) → length (told rs).sizes ≡ length (fields_of rs)
  told-count rs = ap length (told-sizes rs) ∙ length-map (fields_of rs) length

  told-late : (rs : List Record) → (told rs).late ≡ any_pair rs
  unfolding told
  told-late rs = refl

  -- a record keeps the fields good
  good-on : (rs : List Record) (at : ℕ) (r : Record) (n : ℕ) → step_at sep (told rs) s at ≡ more r n → GoodFields (fields_of rs) → GoodFields (fields_of (rs ++ r ∷ []))
  good-on rs at (field d) n e g =
      let p = step_good sep (told rs) s at d n e in
      rw (fields_field rs d) (good_more g p.0 (omega (arith, p.1, told-count rs)))
  good-on rs at (gap i j lo hi) n e g = rw (fields_pair rs (gap i j lo hi) refl) g
  good-on rs at (strike i j a b) n e g = rw (fields_pair rs (strike i j a b) refl) g

  -- by the steps that are left
  good-from : (k : ℕ) (rs : List Record) (at : ℕ) (all : List Record) → length s - at < k → scan_on sep s rs at ≡ whole all → GoodFields (fields_of rs) → GoodFields (fields_of all)
  good-from zero rs at all h w g = absurd (omega arith)
  good-from (suc k) rs at all h w g = go (going sep s rs at all w) (λ r n l v f. good-from k (rs ++ r ∷ []) n all l v f)
    where
      go : Going sep s rs at all → ((r : Record) (n : ℕ) → length s - n < k → scan_on sep s (rs ++ r ∷ []) n ≡ whole all → GoodFields (fields_of (rs ++ r ∷ [])) → GoodFields (fields_of all)) → GoodFields (fields_of all)
      go (goes r n e v) f = let w = step_forward sep (told rs) s at r n e in f r n (omega arith) v (good-on rs at r n e g)
      go (over e v) f = rw (← v) g

  pub whole-good : (rs : List Record) → scan sep s ≡ whole rs → GoodFields (fields_of rs)
  unfolding fields_of
  whole-good rs w = good-from (suc (length s - 0)) [] 0 rs (omega arith) (sym (scan_on_lem sep s) ∙ w) (record { few = omega arith; each = λ i h. absurd (omega arith) })

  -- EN stands after a field
  done-some : (t : Told) (at : ℕ) → step_at sep t s at ≡ done → 1 ≤ length t.sizes
  done-some t at e = go (mark_of (number_at s at)) (step_done sep t s at e).1
    where
      go : (m : Mark) → by_mark sep m t s at ≡ done → 1 ≤ length t.sizes
      go Date f = absurd (date_no_end sep date_length s at (adds-done t at (date_at sep date_length s at) f))
      go Short f = absurd (date_no_end sep short_length s at (adds-done t at (date_at sep short_length s at) f))
      go Days f = absurd (days_no_end s at (adds-done t at (days_at s at) f))
      go Gap f = absurd (gap_no_end t.sizes s at f)
      go Strike f = absurd (strike_no_end t.sizes s at f)
      go End f = end_some t.sizes s at f
      go Unknown f = absurd (cc f)

  -- what holds of the records at the end of a scan that is whole holds of all records
  some-from : (k : ℕ) (rs : List Record) (at : ℕ) (all : List Record) → length s - at < k → scan_on sep s rs at ≡ whole all → 1 ≤ length (fields_of all)
  some-from zero rs at all h w = absurd (omega arith)
  some-from (suc k) rs at all h w = go (going sep s rs at all w) (λ r n l v. some-from k (rs ++ r ∷ []) n all l v)
    where
      go : Going sep s rs at all → ((r : Record) (n : ℕ) → length s - n < k → scan_on sep s (rs ++ r ∷ []) n ≡ whole all → 1 ≤ length (fields_of all)) → 1 ≤ length (fields_of all)
      go (goes r n e v) f = let w = step_forward sep (told rs) s at r n e in f r n (omega arith) v
      go (over e v) f = rw (← v) (omega (arith, done-some (told rs) at e, told-count rs))

  pub whole_some : (rs : List Record) → scan sep s ≡ whole rs → 1 ≤ length (fields_of rs)
  whole_some rs w = some-from (suc (length s - 0)) [] 0 rs (omega arith) (sym (scan_on_lem sep s) ∙ w)

  -- fields only come to those that are there
  count-on : (rs : List Record) (r : Record) → length (fields_of rs) ≤ length (fields_of (rs ++ r ∷ []))
  count-on rs (field d) = rw (fields_field rs d) (simp length-append (omega arith))
  count-on rs (gap i j lo hi) = rw (fields_pair rs (gap i j lo hi) refl) (omega arith)
  count-on rs (strike i j a b) = rw (fields_pair rs (strike i j a b) refl) (omega arith)

  count-from : (k : ℕ) (rs : List Record) (at : ℕ) (all : List Record) → length s - at < k → scan_on sep s rs at ≡ whole all → length (fields_of rs) ≤ length (fields_of all)
  count-from zero rs at all h w = absurd (omega arith)
  count-from (suc k) rs at all h w = go (going sep s rs at all w) (λ r n l v. count-from k (rs ++ r ∷ []) n all l v)
    where
      go : Going sep s rs at all → ((r : Record) (n : ℕ) → length s - n < k → scan_on sep s (rs ++ r ∷ []) n ≡ whole all → length (fields_of (rs ++ r ∷ [])) ≤ length (fields_of all)) → length (fields_of rs) ≤ length (fields_of all)
      go (goes r n e v) f = let w = step_forward sep (told rs) s at r n e in omega (arith, f r n (omega arith) v, count-on rs r)
      go (over e v) f = rw v (omega arith)

  pub count_grows : (rs : List Record) (at : ℕ) (all : List Record) → scan_on sep s rs at ≡ whole all → length (fields_of rs) ≤ length (fields_of all)
  count_grows rs at all w = count-from (suc (length s - at)) rs at all (omega arith) w

  -- after a GP or PR there is no field more
  late-from : (k : ℕ) (rs : List Record) (at : ℕ) (all : List Record) → length s - at < k → scan_on sep s rs at ≡ whole all → any_pair rs ≡ true → fields_of all ≡ fields_of rs
  late-from zero rs at all h w l = absurd (omega arith)
  late-from (suc k) rs at all h w l = go (going sep s rs at all w) (λ r n m v p. late-from k (rs ++ r ∷ []) n all m v p)
    where
      go : Going sep s rs at all → ((r : Record) (n : ℕ) → length s - n < k → scan_on sep s (rs ++ r ∷ []) n ≡ whole all → any_pair (rs ++ r ∷ []) ≡ true → fields_of all ≡ fields_of (rs ++ r ∷ [])) → fields_of all ≡ fields_of rs
      go (goes (field d) n e v) f = absurd (let x = sym (step_good sep (told rs) s at d n e).2 ∙ told-late rs ∙ l in cc x)
      go (goes (gap i j lo hi) n e v) f = let w = step_forward sep (told rs) s at (gap i j lo hi) n e in f (gap i j lo hi) n (omega arith) v (late_pair rs (gap i j lo hi) refl) ∙ fields_pair rs (gap i j lo hi) refl
      go (goes (strike i j a b) n e v) f = let w = step_forward sep (told rs) s at (strike i j a b) n e in f (strike i j a b) n (omega arith) v (late_pair rs (strike i j a b) refl) ∙ fields_pair rs (strike i j a b) refl
      go (over e v) f = rw v

  pub late_fixed : (rs : List Record) (at : ℕ) (all : List Record) → scan_on sep s rs at ≡ whole all → any_pair rs ≡ true → fields_of all ≡ fields_of rs
  late_fixed rs at all w l = late-from (suc (length s - at)) rs at all (omega arith) w l

  -- where a field is still due, a field stands
  pub data FieldNext (rs : List Record) (at : ℕ) (all : List Record) : Type 0 where
    field_next : (d : List ℕ) (n : ℕ) → step_at sep (told rs) s at ≡ more (field d) n → scan_on sep s (rs ++ field d ∷ []) n ≡ whole all → FieldNext rs at all

  pub field_next_lem : (rs : List Record) (at : ℕ) (all : List Record) → scan_on sep s rs at ≡ whole all → length (fields_of rs) < length (fields_of all) → FieldNext rs at all
  field_next_lem rs at all w h = go (going sep s rs at all w)
    where
      not-pair : (r : Record) (n : ℕ) → is_pair r ≡ true → scan_on sep s (rs ++ r ∷ []) n ≡ whole all → ⊥
      not-pair r n p v = let e : length (fields_of all) ≡ length (fields_of rs) = ap length (late_fixed (rs ++ r ∷ []) n all v (late_pair rs r p) ∙ fields_pair rs r p) in omega arith

      go : Going sep s rs at all → FieldNext rs at all
      go (goes (field d) n e v) = field_next d n e v
      go (goes (gap i j lo hi) n e v) = absurd (not-pair (gap i j lo hi) n refl v)
      go (goes (strike i j a b) n e v) = absurd (not-pair (strike i j a b) n refl v)
      go (over e v) = absurd (let x : length (fields_of rs) ≡ length (fields_of all) = ap (λ (l : List Record). length (fields_of l)) v in omega arith)

  -- once all fields have come, they stay as they are
  fixed_from : (k : ℕ) (rs : List Record) (at : ℕ) (all : List Record) → length s - at < k → scan_on sep s rs at ≡ whole all → length (fields_of rs) ≡ length (fields_of all) → fields_of all ≡ fields_of rs
  fixed_from zero rs at all h w c = absurd (omega arith)
  fixed_from (suc k) rs at all h w c = go (going sep s rs at all w) (λ r n m v p. fixed_from k (rs ++ r ∷ []) n all m v p)
    where
      go : Going sep s rs at all → ((r : Record) (n : ℕ) → length s - n < k → scan_on sep s (rs ++ r ∷ []) n ≡ whole all → length (fields_of (rs ++ r ∷ [])) ≡ length (fields_of all) → fields_of all ≡ fields_of (rs ++ r ∷ [])) → fields_of all ≡ fields_of rs
      go (goes (field d) n e v) f = absurd (let p = ap length (fields_field rs d) ∙ length-append (fields_of rs) (d ∷ []) in omega (arith, count_grows (rs ++ field d ∷ []) n all v, p))
      go (goes (gap i j lo hi) n e v) f = let w = step_forward sep (told rs) s at (gap i j lo hi) n e in let q = fields_pair rs (gap i j lo hi) refl in f (gap i j lo hi) n (omega arith) v (ap length q ∙ c) ∙ q
      go (goes (strike i j a b) n e v) f = let w = step_forward sep (told rs) s at (strike i j a b) n e in let q = fields_pair rs (strike i j a b) refl in f (strike i j a b) n (omega arith) v (ap length q ∙ c) ∙ q
      go (over e v) f = rw v

  pub fields_fixed : (rs : List Record) (at : ℕ) (all : List Record) → scan_on sep s rs at ≡ whole all → length (fields_of rs) ≡ length (fields_of all) → fields_of all ≡ fields_of rs
  fields_fixed rs at all w c = fixed_from (suc (length s - at)) rs at all (omega arith) w c

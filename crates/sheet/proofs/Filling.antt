-- The write pass over the fields: at each turn the first fields stand in the buffers.
use mathlib.Core.Path.{◌≡◌, refl, sym, ap, ap₂, ◌∙◌, subst}
use mathlib.Core.List.{List, [], ◌∷◌, ◌++◌, map, append_assoc}
use Prim.Native.Nat.{ℕ, zero, suc, ◌+◌, ◌-◌, ◌*◌, ◌≤◌, ◌<◌}
use native.Mathlib.Numerals.{add-one}
use native.Mathlib.Omega.{arith}
use lib.ListN.{length, get_or, set, take, drop, replicate, length-append, length-set}
use lib.Seq.{length-take-le, take-suc-set, take_at, take-append-add, drop-append-add}
use borrow.Rule.Slice.PartMut.{put_mid, same_len_mid, mid_len}
use Rattle.std.specs.Prelude.{Result, Ok, Err}
use Rattle.std.specs.Result.{IsOk}
use Rattle.refusal.specs.declared.Refusal.{Refusal}
use Rattle.theory.specs.Limits.{readings_most}
use Rattle.calendar.specs.DateText.{date_length, short_length, separator}
use Rattle.calendar.specs.DateAnswers.{padded}
use Rattle.scan.specs.Sheet.{Record, field, fields_of, any_pair, Told, told, Step, more, number_at, date_at, days_at as listAt, mark_of, by_mark, step_at, whole, scan}
use Rattle.scan.specs.RecordLaws.{fields_field, late_field}
use Rattle.scan.specs.SheetLaws.{adds_more, gap_stands, strike-stands, end_no_more, step_more, scan_on, scan_on_lem}
use Rattle.scan.specs.WholeLaws.{GoodFields, whole-good, FieldNext, field_next, field_next_lem}
use Rattle.scan.specs.Judging.{adds, gist, gist_of, field_by, verdict_on, days_read, ReadsField}
use Rattle.scan.specs.declared.mark.Mark.{Mark}
use Rattle.scan.specs.declared.mark.Mark.TheVariants.{Date, Short, Days, Gap, Strike, End, Unknown}
use Rattle.scan.specs.declared.field.FieldRead.{FieldRead}
use Rattle.sheet.specs.Opening.{days_of}
use Rattle.sheet.specs.BufferLaws.{Few, few_rest, good_few, padded-long}
use Rattle.sheet.specs.Writing.{days_at, records, fields, Judged, UpTo, FieldsTo}

-- the buffers' content

-- a field's days are its own
pub days_of_field : (fs : List (List ℕ)) → Few fs → (i : ℕ) → i < length fs → days_at (days_of fs) i (length (get_or fs i [])) ≡ get_or fs i []
unfolding days_at days_of
days_of_field [] f i h = absurd (omega arith)
days_of_field (d ∷ fs) f zero h = ap (take (length d)) (append_assoc d (replicate (readings_most - length d) 0) (days_of fs)) ∙ take_at d _ (length d) refl
days_of_field (d ∷ fs) f (suc i) h =
    let e : suc i * readings_most ≡ length (padded readings_most d) + i * readings_most = omega (arith, padded-long readings_most d (f 0 (omega arith))) in
    ap (λ (k : ℕ). take (length (get_or fs i [])) (drop k (padded readings_most d ++ days_of fs))) e
    ∙ ap (take (length (get_or fs i []))) (drop-append-add (padded readings_most d) (days_of fs) (i * readings_most))
    ∙ days_of_field fs (few_rest d fs f) i (omega arith)

pub days_more : (fs : List (List ℕ)) (d : List ℕ) → days_of (fs ++ d ∷ []) ≡ days_of fs ++ padded readings_most d
unfolding days_of
days_more [] d = mathlib.Core.List.append-nil (padded readings_most d)
days_more (x ∷ fs) d = ap (λ (l : List ℕ). padded readings_most x ++ l) (days_more fs d) ∙ sym (append_assoc (padded readings_most x) (days_of fs) (padded readings_most d))

sizes_more : (fs : List (List ℕ)) (d : List ℕ) → map length (fs ++ d ∷ []) ≡ map length fs ++ length d ∷ []
sizes_more [] d = refl
sizes_more (x ∷ fs) d = ap (λ (l : List ℕ). length x ∷ l) (sizes_more fs d)

-- a sheet that was judged

pub fields-good : (sheet : List ℕ) → scan separator sheet ≡ whole (records sheet) → GoodFields (fields sheet)
fields-good sheet w = whole-good separator sheet (records sheet) w

pub fields_few : (sheet : List ℕ) → scan separator sheet ≡ whole (records sheet) → Few (fields sheet)
fields_few sheet w = good_few (fields sheet) (fields-good sheet w)

pub upto_start : {sheet : List ℕ} → scan separator sheet ≡ whole (records sheet) → UpTo sheet [] 0
upto_start {sheet} w = record { whole = w; on = sym (scan_on_lem separator sheet) ∙ w }

-- the next field

record Next (sheet : List ℕ) (before : List Record) (at : ℕ) : Type 0 where
  days : List ℕ
  next : ℕ
  step : step_at separator (told before) sheet at ≡ more (field days) next
  on : scan_on separator sheet (before ++ field days ∷ []) next ≡ whole (records sheet)

next_of : {sheet : List ℕ} {before : List Record} {at : ℕ} → FieldNext separator sheet before at (records sheet) → Next sheet before at
next_of (field_next d n e v) = record { days = d; next = n; step = e; on = v }

by_mark_lem : (t : Told) (s : List ℕ) (at : ℕ) (d : List ℕ) (n : ℕ) (m : Mark) → by_mark separator m t s at ≡ more (field d) n → field_by separator m s at ≡ more (field d) n
by_mark_lem t s at d n Date e = (adds_more t at (date_at separator date_length s at) (field d) n e).2
by_mark_lem t s at d n Short e = (adds_more t at (date_at separator short_length s at) (field d) n e).2
by_mark_lem t s at d n Days e = (adds_more t at (listAt s at) (field d) n e).2
by_mark_lem t s at d n Gap e = absurd (let p = (gap_stands t.sizes s at (field d) n e).is in cc p)
by_mark_lem t s at d n Strike e = absurd (let p = (strike-stands t.sizes s at (field d) n e).is in cc p)
by_mark_lem t s at d n End e = absurd (end_no_more t.sizes s at (field d) n e)
by_mark_lem t s at d n Unknown e = absurd (cc e)

-- what adds a field is no refusal
not_refused : (r : Result FieldRead Refusal) {k n : ℕ} → gist_of (verdict_on r) ≡ adds k n → IsOk r
not_refused (Ok x) e = refl
not_refused (Err q) e = absurd (cc e)

module _ {sheet sizes days : List ℕ} {i at : ℕ} (f : FieldsTo sheet sizes days i at) (h : i < length sizes) where
  next : Next sheet f.before at
  next = next_of (field_next_lem separator sheet f.before at (records sheet) f.up_to.on (omega (arith, f.count, f.all_sizes)))

  pub field_there : at + 2 ≤ length sheet
  field_there = (step_more separator (told f.before) sheet at (field next.days) next.next next.step).0

  here : {m : Mark} → m ≡ mark_of (number_at sheet at) → field_by separator m sheet at ≡ more (field next.days) next.next
  here e = ap (λ (x : Mark). field_by separator x sheet at) e ∙ by_mark_lem (told f.before) sheet at next.days next.next (mark_of (number_at sheet at)) (step_more separator (told f.before) sheet at (field next.days) next.next next.step).1

  module _ {m : Mark} (em : m ≡ mark_of (number_at sheet at)) {r : Result FieldRead Refusal} (reads : ReadsField (field_by separator m sheet at) r) where
    judged : gist_of (verdict_on r) ≡ adds (length next.days) next.next
    judged = reads.judges ∙ ap gist (here em)

    pub field_read : IsOk r
    field_read = not_refused r judged

    module _ {read : FieldRead} (v : r ≡ Ok read) where
      told-that : adds read.size read.next ≡ adds (length next.days) next.next
      told-that = sym (ap (λ (x : Result FieldRead Refusal). gist_of (verdict_on x)) v) ∙ judged

      listed : read.days ≡ padded readings_most next.days
      listed = sym (ap days_read v) ∙ reads.days ∙ ap (λ (s : Step). padded readings_most (Rattle.scan.specs.Judging.days_in s)) (here em)

      few : length next.days ≤ readings_most
      few = (Rattle.scan.specs.WholeLaws.step_good separator (told f.before) sheet at next.days next.next next.step).0.few

      pub days-long : length read.days ≡ readings_most
      days-long = ap length listed ∙ padded-long readings_most next.days few

      size_is : read.size ≡ length next.days
      size_is = cc told-that

      to_is : read.next ≡ next.next
      to_is = cc told-that

      end : i * readings_most + readings_most ≤ length days
      end = omega (arith, f.all_days)

      first : length (take (i * readings_most) days) ≡ i * readings_most
      first = length-take-le (i * readings_most) days (omega (arith, end))

      days-on : take ((i + 1) * readings_most) (put_mid (i * readings_most) (i * readings_most + readings_most - i * readings_most) days read.days) ≡ days_of (fields_of f.before) ++ padded readings_most next.days
      days-on =
          ap (λ (k : ℕ). take k (put_mid (i * readings_most) (i * readings_most + readings_most - i * readings_most) days read.days)) {x = (i + 1) * readings_most} {y = length (take (i * readings_most) days) + readings_most} (omega (arith, first))
          ∙ take-append-add (take (i * readings_most) days) (read.days ++ drop (i * readings_most + readings_most - i * readings_most) (drop (i * readings_most) days)) readings_most
          ∙ ap₂ ◌++◌ f.holds_days (take_at read.days _ readings_most days-long ∙ listed)

      sizes-on : take (i + 1) (set sizes i read.size) ≡ map length (fields_of f.before) ++ length next.days ∷ []
      sizes-on = ap (λ (k : ℕ). take k (set sizes i read.size)) (add-one i) ∙ take-suc-set sizes i read.size h ∙ ap₂ (λ (l : List ℕ) (k : ℕ). l ++ k ∷ []) f.holds_sizes size_is

      written : FieldsTo sheet (set sizes i read.size) (put_mid (i * readings_most) (i * readings_most + readings_most - i * readings_most) days read.days) (i + 1) read.next
      written = record {
        before = f.before ++ field next.days ∷ [];
        up_to = record { whole = f.up_to.whole; on = ap (scan_on separator sheet (f.before ++ field next.days ∷ [])) to_is ∙ next.on };
        none = late_field f.before next.days ∙ f.none;
        count = ap length (fields_field f.before next.days) ∙ length-append (fields_of f.before) (next.days ∷ []) ∙ ap (λ (k : ℕ). k + 1) f.count;
        holds_sizes = sizes-on ∙ sym (ap (map length) (fields_field f.before next.days) ∙ sizes_more (fields_of f.before) next.days);
        holds_days = days-on ∙ sym (ap days_of (fields_field f.before next.days) ∙ days_more (fields_of f.before) next.days);
        all_sizes = length-set sizes i read.size ∙ f.all_sizes;
        all_days = same_len_mid (i * readings_most) (i * readings_most + readings_most - i * readings_most) days read.days (days-long ∙ sym (mid_len (i * readings_most) (i * readings_most + readings_most) days end ∙ omega arith)) ∙ f.all_days ∙ ap (λ (k : ℕ). k * readings_most) (sym (length-set sizes i read.size));
      }

      -- the 32 days as they are copied
      pub field_written : {l : List ℕ} → l ≡ read.days → FieldsTo sheet (set sizes i read.size) (put_mid (i * readings_most) (i * readings_most + readings_most - i * readings_most) days l) (i + 1) read.next
      field_written e = subst (λ (x : List ℕ). FieldsTo sheet (set sizes i read.size) (put_mid (i * readings_most) (i * readings_most + readings_most - i * readings_most) days x) (i + 1) read.next) (sym e) written

-- no field is written yet
pub fields_none : {sheet sizes days : List ℕ} → Judged sheet (length sizes) → length days ≡ length sizes * readings_most → FieldsTo sheet sizes days 0 0
unfolding fields_of any_pair days_of
fields_none j e = record {
  before = [];
  up_to = upto_start j.whole;
  none = refl;
  count = refl;
  holds_sizes = refl;
  holds_days = refl;
  all_sizes = sym j.count;
  all_days = e;
}

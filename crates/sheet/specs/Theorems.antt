-- The theorems of reading a sheet, each beside the sentence of 01 that it carries.
use Rattle.std.specs.Prelude.{◌≡◌, ◌↔◌, Bool, ℕ, ◌+◌, ◌*◌, ◌≤◌, ◌<◌, length, take, Result, Ok, Err}
use Rattle.std.proofs.Common.{sym, ap, ◌∙◌, mul-le-mul, arith, leb→le}
use mathlib.Core.List.{List, [], map}
use Rattle.std.proofs.Math.Dec.{leb}
use Rattle.std.proofs.Math.ListN.{get_or, get_or-eq_default}
use Rattle.std.proofs.lemmas.List.{length-map}
use Rattle.refusal.specs.declared.Refusal.{Refusal}
use Rattle.refusal.specs.declared.Refusal.TheVariants.{Short, Long}
use Rattle.refusal.specs.Said.{Said}
use Rattle.refusal.specs.RefusalLaws.{numbered}
use Rattle.theory.specs.Limits.{fields_most, readings_most}
use Rattle.theory.specs.BoundLaws.{all_e}
use Rattle.theory.specs.Relation.{Agree}
use Rattle.calendar.specs.Calendar.{last_day}
use Rattle.calendar.specs.AscendingLaws.{ascending_places}
use Rattle.table.specs.Layout.{table_length, rel, words}
use Rattle.table.specs.LayoutLaws.{length-words}
use Rattle.table.specs.Shape.{after_shape, GoodTable}
use Rattle.table.specs.Theorems.{after_good_shape}
use Rattle.scan.specs.Answer.{said_opened, scan_says}
use Rattle.scan.specs.AnswerLaws.{opened-determined}
use Rattle.scan.specs.Sheet.{Record, fields_of, early, scan, whole}
use Rattle.scan.specs.WholeLaws.{GoodField, GoodFields, whole-good, whole_some}
use Rattle.sheet.specs.Opening.{day_of, opening, days_of, sheet_most, Outcome, reading, Reads}
use Rattle.sheet.specs.OpeningLaws.{size_of_lem, opening-words, opening-good}
use Rattle.sheet.specs.Terms.{LongEnough, TooShort, records_of, fields_in}
use Rattle.sheet.specs.BufferLaws.{over_new, over_old, over_length, good_few, length-days, days_at_lem}
use Rattle.sheet.specs.ReadingLaws.{reading_ends, ends_13, ends_14, ends_scanned, ends_refused, reads_opened, reads_leaves, opened-sizes, opened-table}

-- "that two results satisfying the statement coincide"
pub reading_is_one : (o : Outcome) (x y : Result ℕ Refusal) (s d t s' d' t' : List ℕ) → Reads o x s d t → Reads o y s' d' t' → (x ≡ y) × (s ≡ s') × (d ≡ d') × (t ≡ t')
reading_is_one o x y s d t s' d' t' p q = (
  opened-determined x y (p.answers ∙ sym q.answers),
  p.leaves_sizes ∙ sym q.leaves_sizes,
  p.leaves_days ∙ sym q.leaves_days,
  p.leaves_table ∙ sym q.leaves_table,
)

-- any sheet, whatever the answer
module _ (sep : ℕ → Bool) (sheet sizes days table : List ℕ) (x : Result ℕ Refusal) {s d t : List ℕ} (r : Reads (reading sep sheet sizes days table) x s d t) where
  -- "Refusals write nothing"
  pub refusal_writes_nothing : (q : Refusal) → x ≡ Err q → (s ≡ sizes) × (d ≡ days) × (t ≡ table)
  refusal_writes_nothing q e =
      let number = ap (λ (w : Said). w.state) (sym (ap said_opened e) ∙ r.answers) in
      let same = ends_refused sep sheet sizes days table (reading sep sheet sizes days table) (reading_ends sep sheet sizes days table) (omega (arith, number, numbered q)) in
      (r.leaves_sizes ∙ same.0, r.leaves_days ∙ same.1, r.leaves_table ∙ same.2)

  -- "sheet reading: a lent buffer too short"
  pub answers_13_exactly_when_a_buffer_is_short : (x ≡ Err Short) ↔ TooShort sizes days table
  answers_13_exactly_when_a_buffer_is_short =
      let ends = ends_13 sep sheet sizes days table (reading sep sheet sizes days table) (reading_ends sep sheet sizes days table) in
      (λ e. ends.0 (sym r.answers ∙ ap said_opened e), λ h. opened-determined x (Err Short) (r.answers ∙ ends.1 h))

  -- "sheet over 4,096 bytes", where the buffers are long enough
  pub answers_14_exactly_when_the_sheet_is_long : (x ≡ Err Long) ↔ (LongEnough sizes days table × (sheet_most < length sheet))
  answers_14_exactly_when_the_sheet_is_long =
      let ends = ends_14 sep sheet sizes days table (reading sep sheet sizes days table) (reading_ends sep sheet sizes days table) in
      (λ e. ends.0 (sym r.answers ∙ ap said_opened e), λ h. opened-determined x (Err Long) (r.answers ∙ ends.1 h))

  -- "13 and 14 come first, then the first faulty record": else the answer is what the scan says
  pub else_answers_what_the_scan_says : LongEnough sizes days table → length sheet ≤ sheet_most → said_opened x ≡ scan_says (scan sep sheet)
  else_answers_what_the_scan_says l h = r.answers ∙ ends_scanned sep sheet sizes days table (reading sep sheet sizes days table) (reading_ends sep sheet sizes days table) l h

  -- so a whole sheet is opened
  pub whole_sheet_is_opened : LongEnough sizes days table → length sheet ≤ sheet_most → (rs : List Record) → scan sep sheet ≡ whole rs → x ≡ Ok (length (fields_of rs))
  whole_sheet_is_opened l h rs w = opened-determined x (Ok (length (fields_of rs))) (else_answers_what_the_scan_says l h ∙ ap scan_says w)

-- a sheet that is answered with n fields, and the lent buffers after it
module _ (sep : ℕ → Bool) (sheet sizes days table : List ℕ) {n : ℕ} {s d t : List ℕ} (r : Reads (reading sep sheet sizes days table) (Ok n) s d t) where
  -- "In a sheet, 13 and 14 come first, then the first faulty record": there is none
  pub opened_is_whole : scan sep sheet ≡ whole (records_of sep sheet)
  opened_is_whole = (reads_opened sep sheet sizes days table r).whole.scanned

  -- "The reader answers n": as many as the sheet has fields
  pub opened_answers_the_number_of_fields : n ≡ length (fields_in sep sheet)
  opened_answers_the_number_of_fields = (reads_opened sep sheet sizes days table r).count

  -- what is written is of the records that were judged
  pub opened_answers_what_was_judged : said_opened (Ok n) ≡ scan_says (scan sep sheet)
  opened_answers_what_was_judged = ap (λ (k : ℕ). said_opened (Ok k)) opened_answers_the_number_of_fields ∙ sym (ap scan_says opened_is_whole)

  -- "1 to 16 fields; 1 to 32 readings a field; days 0 to 36,524"
  pub opened_fields_are_some : 1 ≤ length (fields_in sep sheet)
  opened_fields_are_some = whole_some sep sheet (records_of sep sheet) opened_is_whole

  pub opened_fields_are_good : GoodFields (fields_in sep sheet)
  opened_fields_are_good = whole-good sep sheet (records_of sep sheet) opened_is_whole

  -- "and writes n sizes"
  pub opened_sizes_are_the_fields : take n s ≡ map length (fields_in sep sheet)
  opened_sizes_are_the_fields = opened-sizes sep sheet sizes days table r

  -- "the first n·n·32 words"
  pub opened_table_is_the_opening : take (table_length n) t ≡ words n (opening (fields_in sep sheet) (records_of sep sheet))
  opened_table_is_the_opening = opened-table sep sheet sizes days table r

  -- "A well_formed table": what is written passes the checks 1 to 6
  pub opened_is_good : GoodTable (take n s) (take (table_length n) t)
  opened_is_good =
      rw (opened_sizes_are_the_fields, opened_table_is_the_opening, opened_answers_the_number_of_fields)
      (opening-good (fields_in sep sheet) (records_of sep sheet) opened_fields_are_some opened_fields_are_good)

  pub opened_passes_1_to_6 : (rest : Said) → after_shape (take n s) (take (table_length n) t) rest ≡ rest
  opened_passes_1_to_6 = after_good_shape (take n s) (take (table_length n) t) opened_is_good

  -- and stands for the opening table
  pub opened_stands_for_the_opening : Agree n (rel n (take (table_length n) t)) (opening (fields_in sep sheet) (records_of sep sheet))
  opened_stands_for_the_opening =
      rw (opened_table_is_the_opening, opened_answers_the_number_of_fields)
      (opening-words (fields_in sep sheet) (records_of sep sheet) opened_fields_are_good)

  -- the buffers, place by place

  -- "writes n sizes": of each field the number of its readings
  pub opened_size_counts_the_readings : (i : ℕ) → i < n → get_or s i 0 ≡ length (get_or (fields_in sep sheet) i [])
  opened_size_counts_the_readings i h =
      let long = length-map (fields_in sep sheet) length in
      ap (λ (l : List ℕ). get_or l i 0) (reads_leaves sep sheet sizes days table r).leaves_sizes
      ∙ over_new (map length (fields_in sep sheet)) sizes i (omega (arith, long, opened_answers_the_number_of_fields))
      ∙ (unfold Rattle.table.specs.Layout.size_of in size_of_lem (fields_in sep sheet) i)

  -- "each field's days at 32 times its number"
  pub opened_days_stand_at_32_times_the_field : (i a : ℕ) → i < n → a < readings_most → get_or d (readings_most * i + a) 0 ≡ day_of (fields_in sep sheet) i a
  opened_days_stand_at_32_times_the_field i a hi ha =
      let few = good_few (fields_in sep sheet) opened_fields_are_good in
      let count = opened_answers_the_number_of_fields in
      ap (λ (l : List ℕ). get_or l (readings_most * i + a) 0) (reads_leaves sep sheet sizes days table r).leaves_days
      ∙ over_new (days_of (fields_in sep sheet)) days (readings_most * i + a) (omega (arith, length-days (fields_in sep sheet) few, count))
      ∙ days_at_lem (fields_in sep sheet) few i a (omega (arith, count)) ha

  -- "zeros to the end of the 32"
  pub opened_days_end_in_zeros : (i a : ℕ) → i < n → length (get_or (fields_in sep sheet) i []) ≤ a → a < readings_most → get_or d (readings_most * i + a) 0 ≡ 0
  opened_days_end_in_zeros i a hi h ha = opened_days_stand_at_32_times_the_field i a hi ha ∙ get_or-eq_default (get_or (fields_in sep sheet) i []) 0 {n = a} h

  good-field : (i : ℕ) → i < n → GoodField (get_or (fields_in sep sheet) i [])
  good-field i h = opened_fields_are_good.each i (omega (arith, opened_answers_the_number_of_fields))

  -- "strictly rising days", and "they stay in date order"
  pub opened-days-rise : (i a b : ℕ) → i < n → a < b → b < length (get_or (fields_in sep sheet) i []) → get_or d (readings_most * i + a) 0 < get_or d (readings_most * i + b) 0
  opened-days-rise i a b hi h hb =
      let few = (good-field i hi).few in
      rw (opened_days_stand_at_32_times_the_field i a hi (omega arith), opened_days_stand_at_32_times_the_field i b hi (omega arith))
      (ascending_places (get_or (fields_in sep sheet) i []) (good-field i hi).rise a b h hb)

  -- "days 0 to 36,524"
  pub opened_days_are_in_the_century : (i a : ℕ) → i < n → a < length (get_or (fields_in sep sheet) i []) → get_or d (readings_most * i + a) 0 ≤ last_day
  unfolding early
  opened_days_are_in_the_century i a hi ha =
      let few = (good-field i hi).few in
      let f = get_or (fields_in sep sheet) i [] in
      rw (opened_days_stand_at_32_times_the_field i a hi (omega arith))
      (leb→le (get_or f a 0) last_day (all_e (length f) (λ k. leb (get_or f k 0) last_day) (good-field i hi).in_time a ha))

  -- "All else stays"

  pub opened_leaves_other_sizes : (p : ℕ) → n ≤ p → get_or s p 0 ≡ get_or sizes p 0
  opened_leaves_other_sizes p h =
      let long = length-map (fields_in sep sheet) length in
      ap (λ (l : List ℕ). get_or l p 0) (reads_leaves sep sheet sizes days table r).leaves_sizes
      ∙ over_old (map length (fields_in sep sheet)) sizes p (omega (arith, long, opened_answers_the_number_of_fields))

  pub opened_leaves_other_days : (p : ℕ) → readings_most * n ≤ p → get_or d p 0 ≡ get_or days p 0
  opened_leaves_other_days p h =
      ap (λ (l : List ℕ). get_or l p 0) (reads_leaves sep sheet sizes days table r).leaves_days
      ∙ over_old (days_of (fields_in sep sheet)) days p (omega (arith, length-days (fields_in sep sheet) (good_few (fields_in sep sheet) opened_fields_are_good), opened_answers_the_number_of_fields))

  pub opened_leaves_other_words : (p : ℕ) → table_length n ≤ p → get_or t p 0 ≡ get_or table p 0
  opened_leaves_other_words p h =
      let m = length (fields_in sep sheet) in
      let R = opening (fields_in sep sheet) (records_of sep sheet) in
      let long : length (words m R) ≤ p = rw (length-words m R, ← opened_answers_the_number_of_fields) h in
      ap (λ (l : List ℕ). get_or l p 0) (reads_leaves sep sheet sizes days table r).leaves_table
      ∙ over_old (words m R) table p long

  -- and no buffer changes its length
  pub opened_keeps_the_lengths : (length s ≡ length sizes) × (length d ≡ length days) × (length t ≡ length table)
  opened_keeps_the_lengths =
      let m = length (fields_in sep sheet) in
      let R = opening (fields_in sep sheet) (records_of sep sheet) in
      let few : m ≤ fields_most = opened_fields_are_good.few in
      let enough = (reads_opened sep sheet sizes days table r).whole.long in
      let left = reads_leaves sep sheet sizes days table r in (
        ap length left.leaves_sizes ∙ over_length (map length (fields_in sep sheet)) sizes (omega (arith, length-map (fields_in sep sheet) length, few, enough.enough_sizes)),
        ap length left.leaves_days ∙ over_length (days_of (fields_in sep sheet)) days (omega (arith, length-days (fields_in sep sheet) (good_few (fields_in sep sheet) opened_fields_are_good), few, enough.enough_days)),
        ap length left.leaves_table ∙ over_length (words m R) table (omega (arith, length-words m R, mul-le-mul few few, enough.enough_words)),
      )

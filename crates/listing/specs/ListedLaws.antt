-- The text of what reading a sheet leaves in the lent buffers is the text of the sheet.
use Rattle.std.specs.Prelude.{◌≡◌, refl, Bool, true, false, ℕ, zero, suc, ◌+◌, ◌-◌, ◌*◌, ◌≤◌, ◌<◌, leb, get_or, take, drop, replicate, Result, Ok, Err}
use Rattle.std.proofs.Math.Path.{sym, ap}
use Rattle.std.proofs.Common.{◌∙◌, inl, inr, arith, length-append, length-take, get_or-append-add, le-leb}
use mathlib.Core.List.{List, [], ◌∷◌, ◌++◌, map, append_assoc}
use Rattle.std.proofs.Math.ListN.{length, get_or-append, get_or-eq_default}
use Rattle.std.proofs.lemmas.List.{length-replicate, length-map, get_or-replicate}
use Rattle.theory.specs.Limits.{readings_most}
use Rattle.theory.specs.BoundLaws.{lt_or_ge}
use Rattle.refusal.specs.Said.{Said, says, refused}
use Rattle.refusal.specs.RefusalLaws.{numbered}
use Rattle.refusal.specs.declared.Refusal.{Refusal}
use Rattle.table.specs.Layout.{table_length, rel, size_of}
use Rattle.table.specs.LayoutLaws.{length-words}
use Rattle.calendar.specs.DateAnswers.{padded}
use Rattle.calendar.specs.DateAnswersLaws.{padded_at}
use Rattle.scan.specs.Sheet.{Record, Scanned, whole, faulty, scan}
use Rattle.scan.specs.WholeLaws.{GoodFields}
use Rattle.sheet.specs.Opening.{sheet_most, day_of, opening, over, days_of as daysWritten, Outcome, lent, reading, Reads}
use Rattle.sheet.specs.OpeningLaws.{opening-formed}
use Rattle.sheet.specs.Terms.{records_of, fields_in}
use Rattle.sheet.specs.ReadingLaws.{Ends, short, long, fault, opened, reading_ends, reads_opened, reads_leaves}
use Rattle.sheet.specs.Theorems.{opened_answers_the_number_of_fields, opened_fields_are_good, opened_sizes_are_the_fields, opened_table_is_the_opening, opened_is_good, opened_stands_for_the_opening}
use Rattle.text.specs.Text.{state_line}
use Rattle.listing.specs.Listing.{day_in, opened_text, records_text, scanned_text, list_text, answer_text, Filled, Left}
use Rattle.listing.specs.SameLaws.{opened_same, opened_dated}

-- the days of a field, zeros to the end of its 32

padded-length : (k : ℕ) (l : List ℕ) → length l ≤ k → length (padded k l) ≡ k
padded-length k l h = omega (arith, length-append l (replicate (k - length l) 0), length-replicate {A = ℕ} (k - length l) 0)

padded-any : (k : ℕ) (l : List ℕ) (a : ℕ) → a < k → get_or (padded k l) a 0 ≡ get_or l a 0
padded-any k l a h = elim (lt_or_ge a (length l)) [ inl s ↦ padded_at k l a s | inr s ↦ beyond (a - length l) (omega arith) (omega arith) s ]
  where
    beyond : (m : ℕ) → a ≡ length l + m → m < k - length l → length l ≤ a → get_or (padded k l) a 0 ≡ get_or l a 0
    beyond m e b s =
        ap (λ (p : ℕ). get_or (padded k l) p 0) e
        ∙ get_or-append-add l (replicate (k - length l) 0) m 0
        ∙ get_or-replicate (k - length l) m 0 0 b
        ∙ sym (get_or-eq_default l 0 s)

-- the days of all fields

abbrev Short : List (List ℕ) → Type 0
Short fields = (i : ℕ) → i < length fields → length (get_or fields i []) ≤ readings_most

short-rest : (d : List ℕ) (fields : List (List ℕ)) → Short (d ∷ fields) → Short fields
short-rest d fields h i k = h (suc i) (omega arith)

pub written-length : (fields : List (List ℕ)) → Short fields → length (daysWritten fields) ≡ length fields * readings_most
unfolding daysWritten
written-length [] h = refl
written-length (d ∷ fields) h =
    omega (arith, length-append (padded readings_most d) (daysWritten fields), padded-length readings_most d (h 0 (omega arith)), written-length fields (short-rest d fields h))

-- the day that stands for a reading is the day of that reading
pub written-day : (fields : List (List ℕ)) (rest : List ℕ) → Short fields → (i a : ℕ) → i < length fields → a < readings_most → day_in (daysWritten fields ++ rest) i a ≡ day_of fields i a
unfolding daysWritten
written-day [] rest h i a l s = absurd (omega arith)
written-day (d ∷ fields) rest h zero a l s =
    let e : 0 * readings_most + a ≡ a = omega arith in
    ap (λ (p : ℕ). get_or (daysWritten (d ∷ fields) ++ rest) p 0) e
    ∙ ap (λ (b : List ℕ). get_or b a 0) (append_assoc (padded readings_most d) (daysWritten fields) rest)
    ∙ get_or-append (padded readings_most d) (daysWritten fields ++ rest) 0 a (omega (arith, padded-length readings_most d (h 0 (omega arith))))
    ∙ padded-any readings_most d a s
written-day (d ∷ fields) rest h (suc i) a l s =
    let e : suc i * readings_most + a ≡ length (padded readings_most d) + (i * readings_most + a) = omega (arith, padded-length readings_most d (h 0 (omega arith))) in
    ap (λ (p : ℕ). get_or (daysWritten (d ∷ fields) ++ rest) p 0) e
    ∙ ap (λ (b : List ℕ). get_or b (length (padded readings_most d) + (i * readings_most + a)) 0) (append_assoc (padded readings_most d) (daysWritten fields) rest)
    ∙ get_or-append-add (padded readings_most d) (daysWritten fields ++ rest) (i * readings_most + a) 0
    ∙ written-day fields rest (short-rest d fields h) i a (omega arith) s

-- a part that is as long as it is taken fits
taken-fits : (k : ℕ) (l : List ℕ) {m : List ℕ} → take k l ≡ m → length m ≡ k → k ≤ length l
taken-fits k l e h = omega (arith, length-take k l, ap length e)

-- what is left

module _ (sep : ℕ → Bool) (sheet sizes days t : List ℕ) (room : lent sizes days t ≡ true) where
  -- the text by the first check that fails

  text-14 : leb (length sheet) sheet_most ≡ false → list_text sep sheet ≡ state_line (says 14 [])
  unfolding list_text
  text-14 e = rw e

  text-scan : leb (length sheet) sheet_most ≡ true → (x : Scanned) → scan sep sheet ≡ x → list_text sep sheet ≡ scanned_text x
  unfolding list_text
  text-scan e x f = rw (e, f)

  -- a refusal is that of the sheet
  refused-text : (o : Outcome) → Ends sep sheet sizes days t o → (q : Refusal) → refused q ≡ o.said → state_line (refused q) ≡ list_text sep sheet
  refused-text o (short e) q d = absurd (let z : true ≡ false = sym room ∙ e in let y : ◌≡◌ {A = ℕ} 0 1 = cc z in omega arith)
  refused-text o (long e f) q d = ap state_line d ∙ sym (text-14 f)
  refused-text o (fault e f p g) q d = ap state_line d ∙ sym (text-scan f (faulty p) g)
  refused-text o (opened rs w) q d = absurd (omega (arith, ap (λ (s : Said). s.state) d, numbered q))

  module _ {n : ℕ} {sizes' days' t' : List ℕ} (r : Reads (reading sep sheet sizes days t) (Ok n) sizes' days' t') where
    abbrev rs : List Record
    rs = records_of sep sheet

    abbrev fields : List (List ℕ)
    fields = fields_in sep sheet

    good : GoodFields fields
    good = opened_fields_are_good sep sheet sizes days t r

    few : Short fields
    few i h = (good.each i h).few

    count : n ≡ length fields
    count = opened_answers_the_number_of_fields sep sheet sizes days t r

    left : days' ≡ over (daysWritten fields) days
    left = (reads_leaves sep sheet sizes days t r).leaves_days

    filled-long : n * readings_most ≤ length days'
    filled-long = rw left (omega (arith, length-append (daysWritten fields) (drop (length (daysWritten fields)) days), written-length fields few, ap (λ (k : ℕ). k * readings_most) count))

    dated : (i a : ℕ) → i < length fields → a < readings_most → day_in days' i a ≡ day_of fields i a
    dated i a h l = ap (λ (b : List ℕ). day_in b i a) left ∙ written-day fields (drop (length (daysWritten fields)) days) few i a h l

    pub fields-filled : Filled n sizes' days' t'
    fields-filled =
        let g = opened_is_good sep sheet sizes days t r in
        record {
          few = omega (arith, count, good.few);
          sizes_fit = taken-fits n sizes' (opened_sizes_are_the_fields sep sheet sizes days t r) (length-map fields length ∙ sym count);
          words_fit = taken-fits (table_length n) t' (opened_table_is_the_opening sep sheet sizes days t r) (length-words n (opening fields rs));
          good = g;
          long = filled-long;
        }

    opened-text : opened_text n (size_of (take n sizes')) (day_in days') (rel n (take (table_length n) t')) ≡ list_text sep sheet
    unfolding records_text
    opened-text =
        let R = opening fields rs in
        let w = (reads_opened sep sheet sizes days t r).whole in
        opened_same n (size_of (take n sizes')) (day_in days') (rel n (take (table_length n) t')) R (opened_stands_for_the_opening sep sheet sizes days t r)
        ∙ ap (λ (z : List ℕ). opened_text n (size_of z) (day_in days') R) (opened_sizes_are_the_fields sep sheet sizes days t r)
        ∙ ap (λ (m : ℕ). opened_text m (size_of (map length fields)) (day_in days') R) count
        ∙ opened_dated (length fields) (size_of (map length fields)) R (opening-formed fields rs good) (day_in days') (day_of fields) dated
        ∙ sym (text-scan (le-leb (length sheet) sheet_most w.short) (whole rs) w.scanned)

  module _ {sizes' days' t' : List ℕ} where
    pub answer-left : (x : Result ℕ Refusal) → Reads (reading sep sheet sizes days t) x sizes' days' t' → Left x sizes' days' t'
    answer-left (Ok n) r = fields-filled r
    answer-left (Err q) r = tt

    pub answer-text : (x : Result ℕ Refusal) → Reads (reading sep sheet sizes days t) x sizes' days' t' → answer_text x sizes' days' t' ≡ list_text sep sheet
    answer-text (Ok n) r = opened-text r
    answer-text (Err q) r = refused-text (reading sep sheet sizes days t) (reading_ends sep sheet sizes days t) q r.answers

-- The theorems of the lister's text, each beside the sentence of 01 that it carries.
use Rattle.std.proofs.Common.{◌∙◌, leb-true, inl, inr, arith, leb→le}
use Rattle.std.proofs.Math.Path.{◌≡◌, refl}
use Rattle.std.specs.Prelude.{Bool, cond, not, ℕ, ◌≤◌, leb, length, ◌^◌, ◌<◌, get_or}
use Rattle.std.proofs.Math.Bool.{true, false}
use mathlib.Core.List.{List, [], ◌∷◌}
use Rattle.std.proofs.Math.Dec.{T}
use lib.Ieee.Bits.{is_false}
use Rattle.theory.specs.Limits.{rounds_most}
use Rattle.theory.specs.Relation.{Rel, WellFormed, Settled}
use Rattle.theory.specs.Reading.{empty}
use Rattle.theory.specs.Settling.{steps}
use Rattle.theory.specs.Choice.{by_number, First}
use Rattle.theory.proofs.Theorems.{first_exists, first_is_one, steps_at_most_rounds_most}
use Rattle.refusal.specs.Said.{says, Said}
use Rattle.scan.specs.Sheet.{Record, fields_of, Scanned, whole, faulty, scan, early}
use Rattle.scan.specs.WholeLaws.{GoodFields, whole-good}
use Rattle.sheet.specs.Opening.{sheet_most, opening, day_of}
use Rattle.sheet.specs.OpeningLaws.{opening-formed}
use Rattle.text.specs.Text.{joined, Closed, state_line, rounds_line, field_line, rows_line, line_most}
use Rattle.text.specs.TextLaws.{closed_after, state_closed, first_closed}
use Rattle.text.specs.Writing.{Shows}
use Rattle.text.specs.Theorems.{text_is_one}
use Rattle.text.specs.declared.shown.Text.{Text}
use Rattle.listing.specs.Listing.{text_most, days_of, broken_place, where_whole, chosen_days, lines_of, opened_text, records_text, scanned_text, list_text}
use Rattle.listing.specs.SameLaws.{days_same, unbroken}
use Rattle.std.proofs.Math.ListN.{get_or-eq_default}
use Rattle.theory.specs.BoundLaws.{all_e, lt_or_ge}
use Rattle.calendar.specs.Calendar.{last_day}
use Rattle.scan.specs.FaultLaws.{FaultIn, scan-fault}
use Rattle.text.specs.LengthLaws.{state-length}
use Rattle.listing.specs.LengthLaws.{parts_length}

-- "two results satisfying the statement coincide"
pub listing_is_one : {text : List ℕ} (x y : Text text_most) → Shows text_most text x.bytes x.length → Shows text_most text y.bytes y.length → x ≡ y
listing_is_one = text_is_one

-- "settles with budget 123,392": no sheet's table takes more rounds
pub budget_suffices : (rs : List Record) → GoodFields (fields_of rs) → steps (length (fields_of rs)) (opening (fields_of rs) rs) ≤ rounds_most
budget_suffices rs g = steps_at_most_rounds_most (opening-formed (fields_of rs) rs g) g.few

-- "the days chosen with nothing fixed": those of the first full reading
module _ (n : ℕ) (size : ℕ → ℕ) (day : ℕ → ℕ → ℕ) (M : Rel) where
  chosen-as : (b : Bool) (l : List ℕ) → empty n M ≡ b → broken_place n size M ≡ l → (days : List ℕ) → cond (empty n M) [] (where_whole (broken_place n size M) days) ≡ cond b [] (where_whole l days)
  chosen-as b l e f days = rw (e, f)

  pub days_chosen_are_first : WellFormed n size M → Settled n M → T (not (empty n M)) → broken_place n size M ≡ []
      → (x : ℕ → ℕ) → First n by_number M (λ f. 255) x → chosen_days n size day M ≡ days_of n day x
  unfolding chosen_days
  days_chosen_are_first w s filled clear x f =
      chosen-as false [] (is_false (empty n M) filled) clear _
      ∙ days_same n day _ _ (first_is_one (first_exists w s filled (unbroken w clear) (λ f. 255) (λ i j hi hj k. absurd k)) f)

  -- "`first none` when empty or broken"
  pub none_where_empty : empty n M ≡ true → chosen_days n size day M ≡ []
  unfolding chosen_days
  none_where_empty e = chosen-as true (broken_place n size M) e refl _

  pub none_where_broken : (v : ℕ) (vs : List ℕ) → broken_place n size M ≡ v ∷ vs → chosen_days n size day M ≡ []
  unfolding chosen_days
  none_where_broken v vs e = chosen-as (empty n M) (v ∷ vs) refl e _ ∙ either (empty n M)
    where
      either : (b : Bool) → ◌≡◌ {A = List ℕ} (cond b [] []) []
      either true = refl
      either false = refl

-- the text fits

-- days have at most five digits
day-small : (fields : List (List ℕ)) → GoodFields fields → (i a : ℕ) → day_of fields i a < 10 ^ 5
unfolding early
day-small fields g i a = elim (lt_or_ge i (length fields)) [
  | inl h ↦ elim (lt_or_ge a (length (get_or fields i []))) [
    | inl l ↦ omega (arith, leb→le (get_or (get_or fields i []) a 0) last_day (all_e (length (get_or fields i [])) (λ k. leb (get_or (get_or fields i []) k 0) last_day) (g.each i h).in_time a l))
    | inr l ↦ rw (get_or-eq_default (get_or fields i []) 0 l) (omega arith)
  ]
  | inr h ↦ rw (get_or-eq_default fields [] h) (omega arith)
]

records_most : (rs : List Record) → GoodFields (fields_of rs) → length (records_text rs) ≤ text_most
unfolding records_text opened_text
records_most rs g = parts_length (length (fields_of rs)) _ (day_of (fields_of rs)) g.few (day-small (fields_of rs) g) _ _ _ _ (budget_suffices rs g)

fault_most : (s : List ℕ) (q : Said) → length s ≤ sheet_most → FaultIn s q → length (state_line q) ≤ line_most
fault_most s q h f = elim f.fault.place [
  | inl e ↦ state-length q (omega (arith, f.fault.most)) (rw e (omega arith)) (rw e tt)
  | inr e ↦ state-length q (omega (arith, f.fault.most)) (rw e (omega arith)) (rw e (omega (arith, f.within), tt))
]

-- so many bytes are enough for any sheet's text
pub text_at_most_text_most : (sep : ℕ → Bool) (sheet : List ℕ) → length (list_text sep sheet) ≤ text_most
unfolding list_text
text_at_most_text_most sep sheet = first (leb (length sheet) sheet_most) refl
  where
    second : length sheet ≤ sheet_most → (x : Scanned) → scan sep sheet ≡ x → length (scanned_text x) ≤ text_most
    second h (whole rs) e = records_most rs (whole-good sep sheet rs e)
    second h (faulty q) e = omega (arith, fault_most sheet q h (scan-fault sep sheet q e))

    first : (b : Bool) → leb (length sheet) sheet_most ≡ b → length (cond b (scanned_text (scan sep sheet)) (state_line (says 14 []))) ≤ text_most
    first true e = second (leb-true (length sheet) sheet_most e) (scan sep sheet) refl
    first false e = omega (arith, state-length (says 14 []) (omega arith) (omega arith) tt)

-- "Lines, each closed by a line feed": so is the last
lines_closed : (n r : ℕ) (kept : ℕ → List ℕ) (broken chosen : List ℕ) → Closed (lines_of n r kept broken chosen)
unfolding lines_of
lines_closed n r kept broken chosen =
    closed_after (state_line (says 0 []))
    (closed_after (rounds_line r)
    (closed_after (joined n (λ i. field_line i (kept i)))
    (closed_after (rows_line broken)
    (first_closed chosen))))

pub text_ends_in_a_line_feed : (sep : ℕ → Bool) (sheet : List ℕ) → Closed (list_text sep sheet)
unfolding list_text records_text opened_text
text_ends_in_a_line_feed sep sheet = first (leb (length sheet) sheet_most) (scan sep sheet)
  where
    second : (x : Scanned) → Closed (scanned_text x)
    second (whole rs) = lines_closed _ _ _ _ _
    second (faulty q) = state_closed q

    first : (b : Bool) (x : Scanned) → Closed (cond b (scanned_text x) (state_line (says 14 [])))
    first true x = second x
    first false x = state_closed (says 14 [])

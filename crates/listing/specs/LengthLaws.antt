-- How long the text of a settled table can be.
use Rattle.std.proofs.Common.{inl, inr}
use Rattle.std.specs.Prelude.{Bool, true, false, cond, length}
use mathlib.Core.List.{List, [], ◌∷◌, ◌++◌}
use Prim.Native.Nat.{ℕ, ◌*◌, ◌^◌, ◌≤◌, ◌<◌}
use native.Mathlib.Omega.{arith}
use Rattle.std.proofs.Math.ListN.{length-append}
use Rattle.theory.specs.Limits.{fields_most, readings_most, rounds_most}
use Rattle.theory.specs.BoundLaws.{lt_or_ge}
use Rattle.theory.specs.Relation.{Rel}
use Rattle.theory.specs.Reading.{kept, empty}
use Rattle.theory.specs.Choice.{by_number, walk}
use Rattle.refusal.specs.Said.{says}
use Rattle.table.specs.Layout.{search_rows}
use Rattle.text.specs.Text.{joined, state_line, rounds_line, field_line, rows_line, first_line}
use Rattle.text.specs.LengthLaws.{Digits, digits-joined, joined_length, rounds-length, field_length, rows-length, first-length, zero-state}
use Rattle.listing.specs.Listing.{text_most, kept_days, days_of, broken_place, where_whole, chosen_days, lines_of}
use Rattle.listing.specs.ListingLaws.{kept_few, days-length}
use Rattle.listing.specs.SameLaws.{search_in, searched, broken_some, broken_none}

one_or_none : (d : ℕ) (b : Bool) (v : ℕ) → v < 10 ^ d → Digits d (cond b (v ∷ []) [])
one_or_none d true v h = (h, tt)
one_or_none d false v h = tt

chosen_or_none : (n : ℕ) (b : Bool) (l days : List ℕ) → length days ≤ n → Digits 5 days → (length (cond b [] (where_whole l days)) ≤ n) × Digits 5 (cond b [] (where_whole l days))
chosen_or_none n true l days h a = (omega arith, tt)
chosen_or_none n false [] days h a = (h, a)
chosen_or_none n false (v ∷ vs) days h a = (omega arith, tt)

module _ (n : ℕ) (size : ℕ → ℕ) (day : ℕ → ℕ → ℕ) (M : Rel) (few : n ≤ fields_most) (small : (i a : ℕ) → day i a < 10 ^ 5) where
  fields-length : length (joined n (λ i. field_line i (kept_days M day i))) ≤ n * 209
  unfolding kept_days
  fields-length =
      joined_length 209 n _ (λ i h. field_length i (kept_days M day i) (omega arith) (kept_few M day i)
      (digits-joined 5 readings_most _ (λ a k. one_or_none 5 (kept M i a) (day i a) (small i a))))

  broken-length : (length (broken_place n size M) ≤ 3) × Digits 2 (broken_place n size M)
  broken-length = elim (lt_or_ge (searched n size M) (search_rows n)) [
    | inl h ↦ rw (broken_some n size M h) (let r = search_in n (searched n size M) h in (omega arith, (omega arith, (omega arith, (omega arith, tt)))))
    | inr h ↦ rw (broken_none n size M h) (omega arith, tt)
  ]

  chosen-length : (length (chosen_days n size day M) ≤ n) × Digits 5 (chosen_days n size day M)
  unfolding chosen_days days_of
  chosen-length =
      let x : ℕ → ℕ = walk n by_number size M (λ f. 255) n in
      chosen_or_none n (empty n M) (broken_place n size M) (days_of n day x) (omega (arith, days-length n day x)) (digits-joined 5 n (λ i. day i (x i) ∷ []) (λ i k. (small i (x i), tt)))

-- whichever table each line is of
module _ (n : ℕ) (size : ℕ → ℕ) (day : ℕ → ℕ → ℕ) (few : n ≤ fields_most) (small : (i a : ℕ) → day i a < 10 ^ 5) where
  pub parts_length : (K B C : Rel) (r : ℕ) → r ≤ rounds_most → length (lines_of n r (kept_days K day) (broken_place n size B) (chosen_days n size day C)) ≤ text_most
  unfolding lines_of
  parts_length K B C r h =
      let fields : List ℕ = joined n (λ i. field_line i (kept_days K day i)) in
      let rows : List ℕ = rows_line (broken_place n size B) in
      let chosen : List ℕ = first_line (chosen_days n size day C) in
      let place = broken-length n size day B few small in
      let days = chosen-length n size day C few small in
      omega (
        arith,
        length-append (state_line (says 0 [])) (rounds_line r ++ (fields ++ (rows ++ chosen))),
        length-append (rounds_line r) (fields ++ (rows ++ chosen)),
        length-append fields (rows ++ chosen),
        length-append rows chosen,
        zero-state,
        rounds-length r (omega arith),
        fields-length n size day K few small,
        rows-length (broken_place n size B) place.0 place.1,
        first-length (chosen_days n size day C) (omega (arith, days.0)) days.1,
      )

pub lines_length : (n : ℕ) (size : ℕ → ℕ) (day : ℕ → ℕ → ℕ) (M : Rel) → n ≤ fields_most → ((i a : ℕ) → day i a < 10 ^ 5)
    → (r : ℕ) → r ≤ rounds_most → length (lines_of n r (kept_days M day) (broken_place n size M) (chosen_days n size day M)) ≤ text_most
lines_length n size day M few small = parts_length n size day few small M M M

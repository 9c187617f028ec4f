-- The opening table that a sheet is read into allows exactly the pairs that no record forbids.
use Rattle.std.specs.Prelude.{◌↔◌, Bool, ℕ, ◌<◌, T, take, Ok}
use mathlib.Core.List.{List}
use Rattle.table.specs.Layout.{table_length, rel}
use Rattle.sheet.specs.Opening.{reading, Reads}
use Rattle.sheet.specs.Terms.{records_of, fields_in, Pairing, EveryGapAdmits, NoStrike}
use Rattle.sheet.specs.Theorems.{opened_stands_for_the_opening}
use Rattle.sheet.proofs.AllowedLaws.{opening_iff}

-- a sheet that is answered with n fields, and the lent buffers after it
module _ (sep : ℕ → Bool) (sheet sizes days table : List ℕ) {n : ℕ} {s d t : List ℕ} (r : Reads (reading sep sheet sizes days table) (Ok n) s d t) where
  -- "The opening table allows everything, diagonals full. GP keeps the pairs whose day of j minus day of i, which may be negative, lies
  -- from lo to hi [..]. PR strikes one pair"
  pub opened_allows_exactly_what_no_record_forbids : (i j a b : ℕ) → i < n → j < n
      → T (rel n (take (table_length n) t) i j a b) ↔ (Pairing (fields_in sep sheet) i j a b × EveryGapAdmits (fields_in sep sheet) (records_of sep sheet) i j a b × NoStrike (records_of sep sheet) i j a b)
  opened_allows_exactly_what_no_record_forbids i j a b hi hj =
      rw (opened_stands_for_the_opening sep sheet sizes days table r i j a b hi hj) (opening_iff (fields_in sep sheet) i j a b (records_of sep sheet))

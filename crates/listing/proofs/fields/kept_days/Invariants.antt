-- `fields::kept_days` meets its contract: each turn adds a reading's day, or none where the reading is struck.
use Rattle.std.proofs.Common.{◌≡◌, ◌≤◌, [], ◌∷◌, cond}
use Rattle.arrayvec.specs.ArrayVec.{array_vec_len}
use Rattle.theory.specs.Reading.{kept}
use Rattle.table.specs.Layout.{rel}
use Rattle.text.specs.Text.{joined}
use Rattle.listing.specs.Listing.{day_in}
use Rattle.listing.proofs.fields.kept_days.Given as goal

abbrev pub invariant-loop-a : goal.invariant-loop-a
invariant-loop-a l = record {
  so_far : l.found.items ≡ joined l.a (λ b. cond (kept (rel l.n l.table) l.i b) (day_in l.days l.i b ∷ []) []);
  few : array_vec_len l.found ≤ l.a;
}

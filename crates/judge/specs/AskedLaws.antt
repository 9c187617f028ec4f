-- The checks of a field's number and of a cell to show.
use Rattle.std.specs.Prelude.{◌≡◌, List, [], ℕ, ◌≤◌, ◌<◌, ltb, length}
use Rattle.std.proofs.Common.{ltb→lt, lt→ltb, lit≤, lt-ltb, le-ltb}
use Rattle.refusal.specs.Said.{Said, says}
use Rattle.table.specs.Checks.{Check}
use Rattle.table.specs.CheckLaws.{both, check_of, check_test}
use Rattle.table.specs.Shape.{after_sizes, after_length}
use Rattle.table.specs.ShapeLaws.{check-sizes, check-length}
use Rattle.judge.specs.Asked.{after_field, after_show, GoodShow}

module _ (n f : ℕ) where
  pub check_field : Check (f < n) (after_field n f)
  unfolding after_field
  check_field = check_of (ltb→lt f n) (lt→ltb f n) (check_test (ltb f n) (says 24 []) (lit≤ tt))

  pub field_no : n ≤ f → (rest : Said) → says 24 [] ≡ after_field n f rest
  unfolding after_field
  field_no h rest = rw (le-ltb f n h)

  pub field_yes : f < n → (rest : Said) → rest ≡ after_field n f rest
  unfolding after_field
  field_yes h rest = rw (lt-ltb f n h)

pub check_show : (sizes opening settled : List ℕ) (i j : ℕ) → Check (GoodShow sizes opening settled i j) (after_show sizes opening settled i j)
unfolding after_show
check_show sizes opening settled i j =
    check_of (λ h. record { good = h.0; long = h.1.0; also = h.1.1.0; first = h.1.1.1.0; second = h.1.1.1.1 }) (λ g. (g.good, (g.long, (g.also, (g.first, g.second)))))
    (both {A = after_sizes sizes} (check-sizes sizes)
    (λ _. both {A = after_length (length sizes) opening} (check-length (length sizes) opening)
    (λ _. both {A = after_length (length sizes) settled} (check-length (length sizes) settled)
    (λ _. both {A = after_field (length sizes) i} (check_field (length sizes) i) (λ _. check_field (length sizes) j)))))

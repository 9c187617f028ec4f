-- A refusal's number is none of a result, and one refusal is printed in one way.
use Rattle.std.specs.Prelude.{◌≡◌, List, ℕ, ◌≤◌}
use Rattle.std.proofs.Common.{sym, ◌∙◌, arith}
use Rattle.refusal.specs.declared.Printed.{Printed}
use Rattle.refusal.specs.declared.Refusal.{Refusal}
use Rattle.refusal.specs.declared.Refusal.TheVariants.{Fields, Size, Length, Stray, Diagonal, Mirror, Lent, Unsettled, Empty, Broken, Fixed, Clash, Short, Long, Cut, Mark, Late, Many, Shapeless, ShapelessAt, Unreal, UnrealAt, Days, Pair, After, NoField}
use Rattle.refusal.specs.Refusals.{number}
use Rattle.refusal.specs.Print.{Prints}

-- a refusal's number is 1 to 24, so that none is taken for a result
pub numbered : (r : Refusal) → (1 ≤ number r) × (number r ≤ 24)
numbered Fields = omega arith
numbered (Size f) = omega arith
numbered Length = omega arith
numbered (Stray i j a) = omega arith
numbered (Diagonal i j a) = omega arith
numbered (Mirror i j a) = omega arith
numbered Lent = omega arith
numbered (Unsettled i j a) = omega arith
numbered Empty = omega arith
numbered (Broken i j a) = omega arith
numbered (Fixed f) = omega arith
numbered (Clash i j) = omega arith
numbered Short = omega arith
numbered Long = omega arith
numbered (Cut f) = omega arith
numbered (Mark f) = omega arith
numbered (Late f) = omega arith
numbered (Many f) = omega arith
numbered Shapeless = omega arith
numbered (ShapelessAt f) = omega arith
numbered Unreal = omega arith
numbered (UnrealAt f) = omega arith
numbered (Days f) = omega arith
numbered (Pair f) = omega arith
numbered (After f) = omega arith
numbered NoField = omega arith

-- a number and a place are printed in one way
pub prints_unique : {k : ℕ} {p : List ℕ} (s t : Printed) → Prints k p s → Prints k p t → s ≡ t
prints_unique s t a b = λ i. record {
  number = (a.number ∙ sym b.number) i;
  count = (a.count ∙ sym b.count) i;
  values = (a.values ∙ sym b.values) i;
}

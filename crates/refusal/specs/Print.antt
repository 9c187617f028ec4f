-- A refusal in numbers (01, "Numbers given back").
use Rattle.std.specs.Prelude.{List, [], ◌∷◌, ◌≡◌, ℕ, length, get_or}
use Rattle.refusal.specs.declared.Printed.{Printed}

-- s holds the number k and the place p, of at most three values, zeros after them
pub record Prints (k : ℕ) (p : List ℕ) (s : Printed) : Type 0 where
  pub number : s.number ≡ k
  pub count : s.count ≡ length p
  pub values : s.values ≡ get_or p 0 0 ∷ get_or p 1 0 ∷ get_or p 2 0 ∷ []

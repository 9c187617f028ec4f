-- Pairs struck from a relation, and runs in which pairs are struck and the rest is reduced in between (01, "Dates and sheets").
use Rattle.std.specs.Prelude.{false, not, ◌&&◌, ◌||◌, ℕ}
use Rattle.theory.specs.Relation.{Rel, Sound}

-- R without the pairs of P
unfoldable pub strike : Rel → Rel → Rel
strike P R i j a b = R i j a b && not (P i j a b)

-- no pair
unfoldable pub nothing : Rel
nothing i j a b = false

-- the pairs of P and those of S
unfoldable pub either : Rel → Rel → Rel
either P S i j a b = P i j a b || S i j a b

-- a run from R, of strikes and sound reductions in any order and any number: P is all that was struck, Q what is left
pub data Run (n : ℕ) (R : Rel) : Rel → Rel → Type 0 where
  start : Run n R nothing R
  struck : {P Q : Rel} → Run n R P Q → (S : Rel) → Run n R (either P S) (strike S Q)
  reduced : {P Q Q' : Rel} → Run n R P Q → Sound n Q Q' → Run n R P Q'

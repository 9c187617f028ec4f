-- Lists of numbers in strictly ascending order.
use Rattle.std.specs.Prelude.{Bool, true, cond, ◌&&◌, List, [], ◌∷◌, ℕ, ltb, eqb}

-- each number above the one before it, and the first above k
unfoldable pub rises_from : ℕ → List ℕ → Bool
rises_from k [] = true
rises_from k (x ∷ l) = ltb k x && rises_from x l

-- each number above the one before it
unfoldable pub ascending : List ℕ → Bool
ascending [] = true
ascending (x ∷ l) = rises_from x l

-- n put into an ascending list, once
unfoldable pub insert : ℕ → List ℕ → List ℕ
insert n [] = n ∷ []
insert n (x ∷ l) = cond (ltb n x) (n ∷ x ∷ l) (cond (eqb n x) (x ∷ l) (x ∷ insert n l))

-- What an answer of reading tells of the bytes that came.
use Rattle.std.specs.Prelude.{◌≡◌, ℕ, ◌≤◌, Result, Ok}
use Rattle.std.proofs.Common.{subst}
use Rattle.lister.specs.Input.{Came}

pub came_most : {E : Type 0} {most k : ℕ} {x : Result ℕ E} → Came most x → x ≡ Ok k → k ≤ most
came_most {most = most} a e = subst (Came most) e a

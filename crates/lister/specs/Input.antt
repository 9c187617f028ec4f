-- What reading standard input answers.
use Rattle.std.specs.Prelude.{ℕ, ◌≤◌, Result, Ok, Err}

-- no more bytes than there was room for
abbrev pub Came : {E : Type 0} → ℕ → Result ℕ E → Type 0
Came room (Ok n) = n ≤ room
Came room (Err e) = Unit {0}

-- An answer as one number of 64 bits, as it goes over C: a state of 8 bits, a second number of 8, three values of 16.
use Rattle.std.specs.Prelude.{cond, List, [], ◌∷◌, ℕ, ◌+◌, ◌*◌, ◌/◌, ◌%◌, eqb, length, get_or, Result, Ok, Err}
use Rattle.refusal.specs.declared.Refusal.{Refusal}
use Rattle.refusal.specs.Refusals.{number, place}
use Rattle.refusal.specs.Said.{Said}

-- the five numbers side by side, the lowest bits first
unfoldable pub joined : (state second x y z : ℕ) → ℕ
joined k m x y z = k + 256 * (m + 256 * (x + 65536 * (y + 65536 * z)))

-- what stands above the state: the second number, and the values
pub record Parts : Type 0 where
  pub second : ℕ
  pub values : List ℕ

abbrev pub parts : ℕ → List ℕ → Parts
parts m v = record { second = m; values = v }

-- 8 bits of the second number, 16 of each value; a value that is not there is 0
abbrev pub packed : ℕ → Parts → ℕ
packed k p = joined k (p.second % 256) (get_or p.values 0 0 % 65536) (get_or p.values 1 0 % 65536) (get_or p.values 2 0 % 65536)

-- a number of 32 bits takes two values, the low one first
abbrev pub wide : ℕ → List ℕ
wide w = w ∷ w / 65536 ∷ []

-- a result as `f` parts its values; a refusal with the count of its place's values, and these
abbrev pub packed_said : (List ℕ → Parts) → Said → ℕ
packed_said f s = cond (eqb s.state 0) (packed 0 (f s.values)) (packed s.state (parts (length s.values) s.values))

-- an answer: a result as its value says and parts it, a refusal with the count of its place's values, and these
abbrev pub packed_answer : {A : Type 0} → (A → Said) → (A → List ℕ → Parts) → Result A Refusal → ℕ
packed_answer say part (Ok x) = packed_said (part x) (say x)
packed_answer say part (Err r) = packed (number r) (parts (length (place r)) (place r))

-- what each function's result parts into

-- the values alone: a number of fields or of readings kept, or nothing
abbrev pub as_values : List ℕ → Parts
as_values v = parts 0 v

-- the count that is said, and the days themselves
abbrev pub as_days : List ℕ → List ℕ → Parts
as_days days v = parts (get_or v 0 0) days

-- 0 settled with pairs, 1 settled and empty, and the rounds; 2 unfinished
abbrev pub as_settling : List ℕ → Parts
as_settling [] = parts 2 []
as_settling (r ∷ v) = parts (get_or v 0 0) (wide r)

-- 0 whole; 1 broken, and the row
abbrev pub as_rows : List ℕ → Parts
as_rows [] = parts 0 []
as_rows (i ∷ v) = parts 1 (i ∷ v)

-- 0 from the settled table, 1 from the opening one, and the first word's place in it
abbrev pub as_shown : List ℕ → Parts
as_shown v = parts (get_or v 0 0) (wide (get_or v 1 0))

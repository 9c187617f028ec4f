-- What a packed number tells whoever takes it apart, as include/frajqotta.h does.
use Rattle.std.specs.Prelude.{cond, ◌≡◌, ◌⊎◌, List, [], ◌∷◌, ℕ, ◌/◌, ◌%◌, ◌≤◌, ◌<◌, eqb, length, get_or, take}
use Rattle.refusal.specs.Said.{Said, says}

-- bits 0 to 7
abbrev pub state_in : ℕ → ℕ
state_in n = n % 256

-- bits 8 to 15
abbrev pub second_in : ℕ → ℕ
second_in n = n / 256 % 256

-- three values of 16 bits each, from bits 16, 32 and 48
abbrev pub values_in : ℕ → List ℕ
values_in n = n / 65536 % 65536 ∷ n / 4294967296 % 65536 ∷ n / 281474976710656 % 65536 ∷ []

-- bits 16 to 47
abbrev pub wide_in : ℕ → ℕ
wide_in n = n / 65536 % 4294967296

-- as many values as the second number says
abbrev pub counted_in : ℕ → List ℕ
counted_in n = take (second_in n) (values_in n)

-- what is said: of a result the values that `f` finds, of a refusal its place
abbrev pub said_in : (ℕ → List ℕ) → ℕ → Said
said_in f n = cond (eqb (state_in n) 0) (says 0 (f n)) (says (state_in n) (counted_in n))

-- the values of each function's result

abbrev pub none_in : ℕ → List ℕ
none_in n = []

abbrev pub count_in : ℕ → List ℕ
count_in n = second_in n ∷ []

abbrev pub value_in : ℕ → List ℕ
value_in n = take 1 (values_in n)

abbrev pub settling_in : ℕ → List ℕ
settling_in n = cond (eqb (second_in n) 2) [] (wide_in n ∷ second_in n ∷ [])

abbrev pub rows_in : ℕ → List ℕ
rows_in n = cond (eqb (second_in n) 0) [] (values_in n)

abbrev pub shown_in : ℕ → List ℕ
shown_in n = second_in n ∷ wide_in n ∷ []

-- what can be packed with nothing cut

-- at most three values, of 16 bits each
pub record Short (v : List ℕ) : Type 0 where
  pub few : length v ≤ 3
  pub each : (p : ℕ) → get_or v p 0 < 65536

-- a result of which P holds, or a refusal whose number has 8 bits and whose place is short
abbrev pub Fits : (List ℕ → Type 0) → Said → Type 0
Fits P s = ((s.state ≡ 0) × P s.values) ⊎ ((1 ≤ s.state) × (s.state < 256) × Short s.values)

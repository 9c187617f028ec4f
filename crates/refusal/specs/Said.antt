-- What an entry point answers, in the paper's numbers (01, "Numbers given back").
use Rattle.std.specs.Prelude.{List, ℕ, Result, Ok, Err}
use Rattle.refusal.specs.declared.Refusal.{Refusal}
use Rattle.refusal.specs.Refusals.{number, place}

-- the state, 0 for a result and else the refusal's number, and the values that come with it
pub record Said : Type 0 where
  pub state : ℕ
  pub values : List ℕ

abbrev pub says : ℕ → List ℕ → Said
says k v = record { state = k; values = v }

-- a refusal says its number and its place
abbrev pub refused : Refusal → Said
refused r = says (number r) (place r)

-- what is answered: a result says its values, a refusal its number and place
abbrev pub said_by : {A : Type 0} → (A → Said) → Result A Refusal → Said
said_by say (Ok x) = say x
said_by say (Err r) = refused r

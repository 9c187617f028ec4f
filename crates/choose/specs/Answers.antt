-- What choosing answers, in the paper's numbers, and what it promises (01, "Choosing", "Numbers given back").
use Rattle.std.specs.Prelude.{◌≡◌, List, [], ℕ, length, Result, Ok, Err}
use Rattle.refusal.specs.Said.{Said, says, said_by}
use Rattle.refusal.specs.declared.Refusal.{Refusal}
use Rattle.choose.specs.Choosing.{choose_says, FirstOf}

-- a result comes with no value: the answer buffer has it
abbrev pub said_choice : Result Unit Refusal → Said
said_choice = said_by (λ _. says 0 [])

-- what is answered where it chooses
abbrev pub chosen : Result Unit Refusal
chosen = Ok tt

-- what the answer buffer holds in the end, by what is answered: the first full reading; as it was
abbrev pub Holds : List ℕ → List ℕ → List ℕ → List ℕ → List ℕ → Result Unit Refusal → Type 0
Holds sizes t fixed before after (Ok _) = FirstOf sizes t fixed after
Holds sizes t fixed before after (Err r) = after ≡ before

-- what choosing promises
pub record Chooses (sizes t fixed before after : List ℕ) (r : Result Unit Refusal) : Type 0 where
  pub says : said_choice r ≡ choose_says sizes t fixed (length before)
  pub long : length after ≡ length before
  pub holds : Holds sizes t fixed before after r

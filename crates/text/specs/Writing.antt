-- Numbers written one after the other into lent ones.
use Rattle.std.specs.Prelude.{◌≡◌, List, ◌++◌, ℕ, ◌+◌, ◌-◌, ◌≤◌, length, replicate}
use Rattle.std.proofs.lemmas.List.Edits.{sets}

-- from an index on there is room for a text
pub record Room (l : List ℕ) (at : ℕ) (text : List ℕ) : Type 0 where
  pub enough : at + length text ≤ length l

-- the text stands from an index on, where there was room for it, and all else is as before; next is the index after it
pub record Wrote (before after : List ℕ) (at next : ℕ) (text : List ℕ) : Type 0 where
  pub room : Room before at text
  pub holds : after ≡ sets before at text
  pub ends : next ≡ at + length text

abbrev pub zeros : ℕ → List ℕ
zeros n = replicate n 0

-- so many bytes hold the text at the front, zeros after it; count is the text's length
pub record Shows (most : ℕ) (text bytes : List ℕ) (count : ℕ) : Type 0 where
  pub holds : bytes ≡ text ++ zeros (most - length text)
  pub counts : count ≡ length text

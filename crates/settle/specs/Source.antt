-- What the steps of a round promise of the words they are lent.
use Rattle.std.specs.Prelude.{◌≡◌, List, ℕ, length}
use Rattle.table.specs.Layout.{table_length, rel}
use Rattle.settle.specs.declared.round.Source.{Source}
use Rattle.settle.specs.Round.{Part, Done}

-- words for a table of as many fields
abbrev pub Room : Source → List ℕ → Type 0
Room s out = length out ≡ table_length s.n

-- the round is done in a part
abbrev pub DoneIn : Source → Part → List ℕ → List ℕ → ℕ → Type 0
DoneIn s P out out' fields = Done s.n (rel s.n s.t.now) P (rel s.n out) (rel s.n out') fields

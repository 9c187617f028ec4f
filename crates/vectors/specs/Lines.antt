-- Lines of a text.
use Rattle.std.specs.Prelude.{◌≡◌, ◌≢◌, ◌<◌, slice_index, ℕ, ◌+◌, ◌≤◌, List, [], Option, length, take, drop, MatchOption}
use Rattle.std.specs.List.{All}
use Rattle.std.specs.Borrow.{Bor}
use Rattle.vectors.specs.declared.file.Lines.{Lines}

-- a line from `from` ends at r, within a text of the given length
pub record Ends (from r long : ℕ) : Type 0 where
  pub after : from ≤ r
  pub within : r ≤ long

-- what of a text is not taken yet
abbrev pub left : Lines → List ℕ
left lines = lines.rest.now

-- a line without a line feed comes out of the front of what is left, and the byte behind it, its line feed, is dropped with it
abbrev pub TakesLine : Lines → Option (Bor (List ℕ)) → Lines → Type 0
TakesLine old line new = MatchOption line ((left old ≡ []) × (left new ≡ []))
    (λ l. (l.now ≡ take (length l.now) (left old)) × (left new ≡ drop (length l.now + 1) (left old))
    × All (λ b. b ≢ 10) l.now × (length l.now < length (left old) → slice_index (left old) (length l.now) ≡ 10))

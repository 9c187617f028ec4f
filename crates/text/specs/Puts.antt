-- A writer's texts, one after the other.
use Rattle.std.specs.Prelude.{◌≡◌, List, ℕ, ◌+◌, ◌≤◌, length}
use Rattle.text.specs.declared.write.Writer.{Writer}
use Rattle.text.specs.Writing.{Room, Wrote}

-- there is room for so many bytes where the writer is
abbrev pub HasRoom : Writer → ℕ → Type 0
HasRoom w k = w.at + k ≤ length w.out.now

-- there is room for a text where the writer is
abbrev pub Fits : Writer → List ℕ → Type 0
Fits w text = Room w.out.now w.at text

-- the text stands where the writer was, which is behind it now in the same lent bytes; all else is as before
pub record Puts (before after : Writer) (text : List ℕ) : Type 0 where
  pub same_reference : after.out.ghost_name ≡ before.out.ghost_name
  pub wrote : Wrote before.out.now after.out.now before.at after.at text

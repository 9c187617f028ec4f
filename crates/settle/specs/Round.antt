-- What a round takes away, and what the steps of a round do to the words they are lent (01, "Settling").
use Rattle.std.specs.Prelude.{◌≡◌, ◌⊎◌, Bool, not, ◌&&◌, List, ℕ, ◌≤◌, ◌<◌, T, ltb, length}
use Rattle.theory.specs.Limits.{readings_most}
use Rattle.theory.specs.Bound.{any}
use Rattle.theory.specs.Relation.{Rel, Within, round}
use Rattle.theory.specs.Reading.{holds}
use Rattle.words.specs.Word.{bit, pack}
use Rattle.table.specs.Layout.{Sized, table_length, rel, words}

-- the pairs that a round takes away
unfoldable pub lost : ℕ → Rel → Rel
lost n R i j a b = R i j a b && not (round n R i j a b)

-- a round would change row a of cell (i, j)
unfoldable pub changed_row : ℕ → Rel → ℕ → ℕ → ℕ → Bool
changed_row n R i j a = any readings_most (lost n R i j a)

-- a round would change a cell of field f
unfoldable pub moves : ℕ → Rel → ℕ → Bool
moves n R f = any n (λ j. holds (lost n R) f j)

-- the fields of which a round would change a cell, as bits of a word
abbrev pub moved_fields : ℕ → Rel → ℕ
moved_fields n R = pack 32 (λ f. ltb f n && moves n R f)

-- a round would change no cell of two fields that both are not among the bits of moved
abbrev pub Quiet : ℕ → Rel → ℕ → Type 0
Quiet n R moved = (i j a b : ℕ) → i < n → j < n → T (not (bit moved i)) → T (not (bit moved j)) → T (lost n R i j a b) → ⊥

-- cells (i, j) and (j, i) mirror each other
abbrev pub Turned : ℕ → Rel → Type 0
Turned n R = (i j a b : ℕ) → i < n → j < n → R i j a b ≡ R j i b a

-- a part of a table's pairs
abbrev pub Part : Type 1
Part = ℕ → ℕ → ℕ → ℕ → Type 0

-- the pair (a, b) of cell (i, j), and its mirror image
abbrev pub OfPair : ℕ → ℕ → ℕ → ℕ → Part
OfPair i j a b k l c d = ((k ≡ i) × (l ≡ j) × (c ≡ a) × (d ≡ b)) ⊎ ((k ≡ j) × (l ≡ i) × (d ≡ a) × (c ≡ b))

-- the pairs of row a of cell (i, j) whose second reading has p, and their mirror images
abbrev pub OfSome : ℕ → ℕ → ℕ → (ℕ → Type 0) → Part
OfSome i j a p k l c d = ((k ≡ i) × (l ≡ j) × (c ≡ a) × p d) ⊎ ((k ≡ j) × (l ≡ i) × (d ≡ a) × p c)

-- row a of cell (i, j), and its mirror image
abbrev pub OfRow : ℕ → ℕ → ℕ → Part
OfRow i j a k l c d = ((k ≡ i) × (l ≡ j) × (c ≡ a)) ⊎ ((k ≡ j) × (l ≡ i) × (d ≡ a))

-- cell (i, j), and its mirror image
abbrev pub OfCell : ℕ → ℕ → Part
OfCell i j k l c d = ((k ≡ i) × (l ≡ j)) ⊎ ((k ≡ j) × (l ≡ i))

-- the cells (i, j) with i ≤ j, and their mirror images
abbrev pub OfField : ℕ → Part
OfField i k l c d = ((k ≡ i) × (i ≤ l)) ⊎ ((l ≡ i) × (i ≤ k))

-- after is before without the pairs of a part
pub record Without (n : ℕ) (P : Part) (before after : Rel) : Type 0 where
  pub less : Within n after before
  pub gone : (i j a b : ℕ) → i < n → j < n → P i j a b → T (after i j a b) → ⊥
  pub stays : (i j a b : ℕ) → i < n → j < n → (P i j a b → ⊥) → T (before i j a b) → T (after i j a b)

-- the pairs of a part that a round of R takes away
abbrev pub LostOf : ℕ → Rel → Part → Part
LostOf n R P i j a b = P i j a b × T (lost n R i j a b)

-- a round of R is done in a part: what it takes away there is gone, and the bits of moved are fields that lose a pair, those that
-- lose one in the part among them
pub record Done (n : ℕ) (R : Rel) (P : Part) (before after : Rel) (moved : ℕ) : Type 0 where
  pub without : Without n (LostOf n R P) before after
  pub marked : (i j a b : ℕ) → i < n → j < n → LostOf n R P i j a b → T (bit moved i)
  pub only : (f : ℕ) → T (bit moved f) → (f < n) × T (moves n R f)

-- a table of n fields that is its own mirror image, and words for another
pub record Lent (n : ℕ) (t out : List ℕ) : Type 0 where
  pub sized : Sized n t
  pub turned : Turned n (rel n t)
  pub other : length out ≡ table_length n

-- a whole round: out holds it, and moved has the fields of which it changed a cell
pub record RoundDone (n : ℕ) (t out : List ℕ) (moved : ℕ) : Type 0 where
  pub holds : out ≡ words n (round n (rel n t))
  pub fields : moved ≡ moved_fields n (rel n t)

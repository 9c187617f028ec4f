-- The strike of one pair and its mirror (01, "Dates and sheets").
use Rattle.std.specs.Prelude.{◌≡◌, not, ◌&&◌, List, ℕ, eqb, get_or, set}
use Rattle.theory.specs.Limits.{readings_most}
use Rattle.theory.specs.Relation.{Rel, Agree}
use Rattle.theory.specs.Strike.{strike, either}
use Rattle.words.specs.Word.{bit, pack}
use Rattle.table.specs.Layout.{rel, row_number}

-- the pair (a, b) of cell (i, j) alone
unfoldable pub one_pair : ℕ → ℕ → ℕ → ℕ → Rel
one_pair i j a b k l c d = eqb k i && (eqb l j && (eqb c a && eqb d b))

-- that pair and its mirror
unfoldable pub pair_and_mirror : ℕ → ℕ → ℕ → ℕ → Rel
pair_and_mirror i j a b = either (one_pair i j a b) (one_pair j i b a)

-- t with bit b of word p cleared
unfoldable pub cleared : List ℕ → ℕ → ℕ → List ℕ
cleared t p b = set t p (pack readings_most (λ c. bit (get_or t p 0) c && not (eqb c b)))

-- t with the pair (a, b) of cell (i, j) and its mirror struck
unfoldable pub struck_words : ℕ → List ℕ → ℕ → ℕ → ℕ → ℕ → List ℕ
struck_words n t i j a b = cleared (cleared t (row_number n i j a) b) (row_number n j i b) a

-- u is t with the pair and its mirror struck, and stands for what t stands for without them
pub record Struck (n : ℕ) (t : List ℕ) (i j a b : ℕ) (u : List ℕ) : Type 0 where
  pub words : u ≡ struck_words n t i j a b
  pub stands : Agree n (rel n u) (strike (pair_and_mirror i j a b) (rel n t))

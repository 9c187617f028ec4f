-- Choosing: the checks 7 to 12 in number order, and what the answer is (01, "Choosing", "Numbers given back").
use Rattle.std.specs.Prelude.{◌≡◌, Bool, cond, not, ◌&&◌, ◌||◌, List, [], ◌∷◌, ℕ, ◌<◌, T, eqb, ltb, length, get_or}
use Rattle.theory.specs.Relation.{Rel, Settled}
use Rattle.theory.specs.Reading.{empty}
use Rattle.theory.specs.Rows.{WholeRows}
use Rattle.theory.specs.Choice.{by_number, free, Fixed, Allowed, First, clash_from, clash_to}
use Rattle.refusal.specs.Said.{Said, says}
use Rattle.table.specs.Layout.{size_of}
use Rattle.table.specs.Checks.{at_first}
use Rattle.table.specs.Shape.{GoodTable, after_shape}
use Rattle.judge.specs.Asked.{at_first_broken}
use Rattle.settle.specs.Changes.{after_settled}
use Rattle.settle.specs.Settle.{rel_of}

-- the choice for field i among those of a list: a reading's number, or 255 for free
abbrev pub choice_of : List ℕ → ℕ → ℕ
choice_of l i = get_or l i 0

-- 7: as many fixed choices as fields, and as much room for the answer
unfoldable pub after_lent : ℕ → ℕ → ℕ → Said → Said
after_lent n held room rest = cond (eqb held n && eqb room n) rest (says 7 [])

-- 9: not empty
unfoldable pub after_empty : ℕ → Rel → Said → Said
after_empty n R rest = cond (not (empty n R)) rest (says 9 [])

-- the fixed byte of field f is neither 255 nor below the size
abbrev pub bad_fixed : List ℕ → List ℕ → ℕ → Bool
bad_fixed sizes fixed f = not (free (choice_of fixed f) || ltb (choice_of fixed f) (size_of sizes f))

-- 11: the fixed bytes
unfoldable pub after_fixed : List ℕ → List ℕ → Said → Said
after_fixed sizes fixed = at_first (length sizes) (bad_fixed sizes fixed) (λ f. says 11 (f ∷ []))

-- 12: the fixed readings, two and two
unfoldable pub after_clash : ℕ → Rel → (ℕ → ℕ) → Said → Said
after_clash n R fixed rest = cond (ltb (clash_from n R fixed) n) (says 12 (clash_from n R fixed ∷ clash_to n R fixed ∷ [])) rest

-- 8 to 10, of which settling says the first and judging the last: settled, not empty, whole; then the rest
abbrev pub after_table : ℕ → (ℕ → ℕ) → Rel → Said → Said
after_table n size R rest = after_settled n R (after_empty n R (at_first_broken 10 n size R rest))

-- 1 to 11, then the rest
abbrev pub after_ready : List ℕ → List ℕ → List ℕ → ℕ → Said → Said
after_ready sizes t fixed room rest = after_shape sizes t (after_lent (length sizes) (length fixed) room (after_table (length sizes) (size_of sizes) (rel_of sizes t) (after_fixed sizes fixed rest)))

-- what choosing says, with room for an answer of so many bytes
abbrev pub choose_says : List ℕ → List ℕ → List ℕ → ℕ → Said
choose_says sizes t fixed room = after_ready sizes t fixed room (after_clash (length sizes) (rel_of sizes t) (choice_of fixed) (says 0 []))

-- what passes 1 to 11
pub record Ready (sizes t fixed : List ℕ) (room : ℕ) : Type 0 where
  pub good : GoodTable sizes t
  pub held : length fixed ≡ length sizes
  pub lent : room ≡ length sizes
  pub settled : Settled (length sizes) (rel_of sizes t)
  pub filled : T (not (empty (length sizes) (rel_of sizes t)))
  pub whole : WholeRows (length sizes) (size_of sizes) (rel_of sizes t)
  pub bytes : (f : ℕ) → f < length sizes → Fixed (choice_of fixed) f → choice_of fixed f < size_of sizes f

-- what passes 12: the fixed readings go together
abbrev pub Agreed : List ℕ → List ℕ → List ℕ → Type 0
Agreed sizes t fixed = Allowed (length sizes) (rel_of sizes t) (choice_of fixed)

-- the answer is the first full reading of the table that keeps the fixed readings, field by field from field 0
abbrev pub FirstOf : List ℕ → List ℕ → List ℕ → List ℕ → Type 0
FirstOf sizes t fixed answer = First (length sizes) by_number (rel_of sizes t) (choice_of fixed) (choice_of answer)

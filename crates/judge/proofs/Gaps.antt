-- The search for the first broken row: every row before the place reached is whole.
use mathlib.Core.Path.{◌≡◌, sym, ap, subst, ◌∙◌}
use mathlib.Core.Bool.{Bool, cond, not, ◌&&◌, ◌||◌}
use mathlib.Core.List.{List, [], ◌∷◌}
use Prim.Native.Nat.{ℕ, ◌+◌, ◌*◌, ◌≤◌, ◌<◌}
use native.Mathlib.Nat.{mul-le-mul_right}
use native.Mathlib.Omega.{arith}
use lib.Dec.{T, ltb}
use lib.ListN.{length, get_or}
use borrow.Author.Tests.{lt-ltb, le-ltb}
use Rattle.theory.specs.Limits.{readings_most}
use Rattle.theory.specs.Bound.{all, first}
use Rattle.theory.specs.BoundLaws.{all_same}
use Rattle.theory.specs.Rows.{stands, whole}
use Rattle.refusal.specs.Said.{Said, says}
use Rattle.words.specs.Word.{bit, pack}
use Rattle.words.specs.WordLaws.{bit-pack}
use Rattle.table.specs.declared.layout.Row.{Row}
use Rattle.table.specs.Layout.{rel, search_rows, search_row, row_number, at, size_of}
use Rattle.table.specs.LayoutLaws.{cell_bit, row_of_number, search_is_table, number_in}
use Rattle.table.specs.Post.{CellWords}
use Rattle.table.specs.Checks.{at_first}
use Rattle.table.specs.Shape.{row_place}
use Rattle.table.proofs.Search.{Passed, passed_one, passed_less, found, passed-all}
use Rattle.judge.specs.Asked.{broken_row, at_first_broken}

-- a search ends where the first is found, or having passed all

pub first_said : (n : ℕ) (p : ℕ → Bool) (say : ℕ → Said) (rest : Said) {f : ℕ} → f ≡ first n p → f < n → say f ≡ at_first n p say rest
first_said n p say rest {f} e h = ap say e ∙ sym (ap (λ (b : Bool). cond b (say (first n p)) rest) (lt-ltb (first n p) n (rw e at h)))

pub first-passed : (n : ℕ) (p : ℕ → Bool) (say : ℕ → Said) (rest : Said) {f : ℕ} → f ≡ first n p → n ≤ f → rest ≡ at_first n p say rest
first-passed n p say rest {f} e h = sym (ap (λ (b : Bool). cond b (say (first n p)) rest) (le-ltb (first n p) n (rw e at h)))

-- rows that are the same below 32 are whole together
whole_same : (stand stand' p q : ℕ → Bool) → ((b : ℕ) → b < readings_most → stand b ≡ stand' b) → ((b : ℕ) → b < readings_most → p b ≡ q b) → whole stand p ≡ whole stand' q
unfolding whole
whole_same stand stand' p q s e =
    all_same 32 (λ b2. all b2 (λ b. all b (λ b1. not (p b1 && (p b2 && stand b)) || p b))) (λ b2. all b2 (λ b. all b (λ b1. not (q b1 && (q b2 && stand' b)) || q b)))
    (λ b2 h2. all_same b2 (λ b. all b (λ b1. not (p b1 && (p b2 && stand b)) || p b)) (λ b. all b (λ b1. not (q b1 && (q b2 && stand' b)) || q b))
    (λ b h. all_same b (λ b1. not (p b1 && (p b2 && stand b)) || p b) (λ b1. not (q b1 && (q b2 && stand' b)) || q b)
    (λ b1 h1. rw (e b1 (omega arith), e b2 h2, s b (omega arith), e b (omega arith)))))

-- the test of a row's word is the test of the row
pub row-broken : (sizes t : List ℕ) (i j a : ℕ) {s : List ℕ} {stand w : ℕ} {r : Bool} → CellWords (length sizes) t i j s → w ≡ size_of sizes j → stand ≡ pack 32 (λ b. ltb b w)
    → a < readings_most → r ≡ whole (bit stand) (bit (get_or s a 0)) → not r ≡ broken_row (size_of sizes) (rel (length sizes) t) i j a
unfolding broken_row stands
row-broken sizes t i j a {s} {stand} {w} {r} c e m ha f =
    ap not (f ∙ whole_same (bit stand) (stands (size_of sizes) (rel (length sizes) t) j) (bit (get_or s a 0)) (rel (length sizes) t i j a)
    (λ b hb. ap (λ (x : ℕ). bit x b) m ∙ bit-pack 32 (λ c. ltb c w) b hb ∙ ap (ltb b) e)
    (λ b hb. ap (λ (x : List ℕ). bit (get_or x a 0) b) c.words ∙ cell_bit (length sizes) t i j a b ha hb))

-- a row of the search
abbrev broken : List ℕ → List ℕ → ℕ → Bool
broken sizes t p = at (broken_row (size_of sizes) (rel (length sizes) t)) (search_row (length sizes) p)

broken_at : (sizes t : List ℕ) (i j a : ℕ) → j < length sizes → a < readings_most → broken sizes t (row_number (length sizes) i j a) ≡ broken_row (size_of sizes) (rel (length sizes) t) i j a
broken_at sizes t i j a hj ha = ap (at (broken_row (size_of sizes) (rel (length sizes) t)))
    (search_is_table (length sizes) (row_number (length sizes) i j a) ∙ row_of_number (length sizes) i j a hj ha)

-- no row before place p of the search is broken
abbrev pub NoneBroken : List ℕ → List ℕ → ℕ → Type 0
NoneBroken sizes t p = Passed (search_rows (length sizes)) (broken sizes t) p

module _ (sizes t : List ℕ) (i : ℕ) where
  pub none_more : (j a : ℕ) → NoneBroken sizes t (row_number (length sizes) i j a) → i < length sizes → j < length sizes → a < readings_most
      → (T (broken_row (size_of sizes) (rel (length sizes) t) i j a) → ⊥) → NoneBroken sizes t (row_number (length sizes) i j (a + 1))
  none_more j a g hi hj ha n = passed_less (row_number (length sizes) i j (a + 1))
      (passed_one g (number_in (length sizes) i j a hi hj ha) (λ x. n (subst T (broken_at sizes t i j a hj ha) x))) (omega arith)

  -- the search ends at a broken row
  pub broken-said : (j a : ℕ) → NoneBroken sizes t (row_number (length sizes) i j a) → i < length sizes → j < length sizes → a < readings_most
      → T (broken_row (size_of sizes) (rel (length sizes) t) i j a)
      → says 0 (i ∷ j ∷ a ∷ []) ≡ at_first_broken 0 (length sizes) (size_of sizes) (rel (length sizes) t) (says 0 [])
  broken-said j a g hi hj ha x =
      ap (λ (r : Row). says 0 (row_place r)) (sym (search_is_table (length sizes) (row_number (length sizes) i j a) ∙ row_of_number (length sizes) i j a hj ha))
      ∙ first_said (search_rows (length sizes)) (broken sizes t) (λ p. says 0 (row_place (search_row (length sizes) p))) (says 0 [])
      (found g (number_in (length sizes) i j a hi hj ha) (subst T (sym (broken_at sizes t i j a hj ha)) x)) (number_in (length sizes) i j a hi hj ha)

  -- or at the end
  pub whole-said : NoneBroken sizes t (i * length sizes * readings_most) → length sizes ≤ i → says 0 [] ≡ at_first_broken 0 (length sizes) (size_of sizes) (rel (length sizes) t) (says 0 [])
  whole-said g h =
      let e : length sizes * length sizes * 32 ≤ i * length sizes * 32 = mul-le-mul_right 32 (mul-le-mul_right (length sizes) h) in
      first-passed (search_rows (length sizes)) (broken sizes t) (λ p. says 0 (row_place (search_row (length sizes) p))) (says 0 []) (passed-all g e) e

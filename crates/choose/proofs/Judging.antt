-- What the checks say one after the other.
use mathlib.Core.Path.{◌≡◌, refl, sym, ap, ◌∙◌, subst}
use mathlib.Core.Logic.{◌⊎◌, inl, inr}
use mathlib.Core.Bool.{Bool, true, false, cond, and-false}
use mathlib.Core.List.{List, []}
use Prim.Native.Nat.{ℕ, ◌<◌}
use native.Mathlib.Omega.{arith}
use lib.Dec.{ltb}
use lib.ListN.{length}
use borrow.Author.Tests.{ne_eqb}
use Rattle.theory.specs.Bound.{first}
use Rattle.theory.specs.Relation.{Rel}
use Rattle.theory.specs.Choice.{Fixed}
use Rattle.std.specs.Prelude.{Option, Some, None}
use Rattle.refusal.specs.Said.{Said, says}
use Rattle.table.specs.Layout.{size_of, search_rows, search_row, at}
use Rattle.table.specs.declared.layout.Row.{Row}
use Rattle.table.specs.Shape.{GoodTable, row_place}
use Rattle.judge.specs.Answers.{said_row}
use Rattle.judge.specs.Asked.{broken_row, at_first_broken}
use Rattle.choose.specs.Choosing.{choice_of, after_lent, Ready, Agreed}
use Rattle.choose.specs.ChoosingLaws.{check-lent}
use Rattle.choose.specs.Taken.{Readings}

-- the lengths, 7

module _ (n held room : ℕ) (rest : Said) where
  pub lent-wrong : (held ≡ n → ⊥) ⊎ ((held ≡ n) × (room ≡ n → ⊥)) → says 7 [] ≡ after_lent n held room rest
  unfolding after_lent
  lent-wrong (inl d) = rw (ne_eqb held n d)
  lent-wrong (inr d) = rw (ne_eqb room n d.1, and-false)

  pub lent-right : held ≡ n → room ≡ n → rest ≡ after_lent n held room rest
  lent-right h l = sym ((check-lent n held room).passes (h, l) rest)

-- what the search for a broken row says is refused with 10

whole_as : (b : Bool) (r : Row) (rest : Said) → says 0 [] ≡ cond b (says 0 (row_place r)) (says 0 []) → rest ≡ cond b (says 10 (row_place r)) rest
whole_as true r rest e =
    let v : [] ≡ row_place r = ap (λ (s : Said). s.values) e in
    let z : ◌≡◌ {A = ℕ} 0 1 = cc in
    absurd (omega arith)
whole_as false r rest e = refl

broken_as : (b : Bool) (r q : Row) (rest : Said) → says 0 (row_place q) ≡ cond b (says 0 (row_place r)) (says 0 []) → says 10 (row_place q) ≡ cond b (says 10 (row_place r)) rest
broken_as true r q rest e = ap (λ (s : Said). says 10 s.values) e
broken_as false r q rest e =
    let v : row_place q ≡ [] = ap (λ (s : Said). s.values) e in
    let z : ◌≡◌ {A = ℕ} 0 1 = cc in
    absurd (omega arith)

-- the number of the first broken row in the search
abbrev first_broken : ℕ → (ℕ → ℕ) → Rel → ℕ
first_broken n size R = first (search_rows n) (λ p. at (broken_row size R) (search_row n p))

module _ (n : ℕ) (size : ℕ → ℕ) (R : Rel) {x : Option Row} (e : said_row x ≡ at_first_broken 0 n size R (says 0 [])) where
  pub rows_whole : x ≡ None → (rest : Said) → rest ≡ at_first_broken 10 n size R rest
  rows_whole h rest = whole_as (ltb (first_broken n size R) (search_rows n)) (search_row n (first_broken n size R)) rest (sym (ap said_row h) ∙ e)

  pub rows-broken : (r : Row) → x ≡ Some r → (rest : Said) → says 10 (row_place r) ≡ at_first_broken 10 n size R rest
  rows-broken r h rest = broken_as (ltb (first_broken n size R) (search_rows n)) (search_row n (first_broken n size R)) r rest (sym (ap said_row h) ∙ e)

-- the fixed choices, copied into the answer

pub ready_copied : (sizes t fixed x : List ℕ) (room : ℕ) → x ≡ fixed → Ready sizes t fixed room × Agreed sizes t fixed → Ready sizes t x (length x) × Agreed sizes t x
ready_copied sizes t fixed x room e h = subst (λ (y : List ℕ). Ready sizes t y (length y) × Agreed sizes t y) (sym e) (subst (λ (r : ℕ). Ready sizes t fixed r) (h.0.lent ∙ sym h.0.held) h.0, h.1)

-- bytes below the sizes are readings' numbers
pub readings_of : {sizes t : List ℕ} (fixed : List ℕ) → GoodTable sizes t → ((f : ℕ) → f < length sizes → Fixed (choice_of fixed) f → choice_of fixed f < size_of sizes f)
    → Readings (length sizes) (choice_of fixed)
readings_of fixed g h f l s = omega (arith, h f l s, g.good.each f l)

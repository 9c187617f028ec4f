-- What judging a table of good shape tells of its first broken row.
use mathlib.Core.Path.{◌≡◌, refl, sym, ap, ◌∙◌}
use mathlib.Core.Bool.{Bool, true, false, cond}
use mathlib.Core.List.{List, [], ◌∷◌}
use Prim.Native.Nat.{ℕ}
use native.Mathlib.Omega.{arith}
use lib.Dec.{ltb}
use lib.ListN.{length}
use Rattle.theory.specs.Bound.{first}
use Rattle.refusal.specs.Said.{Said, says}
use Rattle.refusal.specs.RefusalLaws.{numbered}
use Rattle.refusal.specs.declared.Refusal.{Refusal}
use Rattle.table.specs.Layout.{rel, size_of, search_rows, search_row, at}
use Rattle.table.specs.Shape.{GoodTable, row_place}
use Rattle.table.specs.ShapeLaws.{check_shape}
use Rattle.std.specs.Prelude.{Option, Some, None, Result, Ok, Err}
use Rattle.table.specs.declared.layout.Row.{Row}
use Rattle.judge.specs.Answers.{said_rows}
use Rattle.judge.specs.Asked.{broken_row, at_first_broken, rows_says}
use Rattle.listing.specs.Listing.{broken_place}

-- neither answer of the search is a refusal
no_state : (b : Bool) (v : List ℕ) → (cond b (says 0 v) (says 0 [])).state ≡ 0
no_state true v = refl
no_state false v = refl

module _ {sizes t : List ℕ} (x : Result (Option Row) Refusal) (g : GoodTable sizes t) (e : said_rows x ≡ rows_says sizes t) where
  said : said_rows x ≡ at_first_broken 0 (length sizes) (size_of sizes) (rel (length sizes) t) (says 0 [])
  unfolding rows_says
  said = e ∙ (check_shape sizes t).passes g _

  values : (said_rows x).values ≡ broken_place (length sizes) (size_of sizes) (rel (length sizes) t)
  unfolding broken_place
  values = ap (λ (s : Said). s.values) said

  pub told-whole : x ≡ Ok None → broken_place (length sizes) (size_of sizes) (rel (length sizes) t) ≡ []
  told-whole h = sym values ∙ ap (λ (y : Result (Option Row) Refusal). (said_rows y).values) h

  pub told-broken : (r : Row) → x ≡ Ok (Some r) → broken_place (length sizes) (size_of sizes) (rel (length sizes) t) ≡ r.i ∷ r.j ∷ r.a ∷ []
  told-broken r h = sym values ∙ ap (λ (y : Result (Option Row) Refusal). (said_rows y).values) h

  pub never_refused : (q : Refusal) → x ≡ Err q → ⊥
  never_refused q h =
      let n = length sizes in
      let p : ℕ → Bool = λ p. at (broken_row (size_of sizes) (rel n t)) (search_row n p) in
      let k = first (search_rows n) p in
      let state = sym (ap (λ (y : Result (Option Row) Refusal). (said_rows y).state) h) ∙ ap (λ (s : Said). s.state) said in
      omega (arith, numbered q, state ∙ no_state (ltb k (search_rows n)) (row_place (search_row n k)))

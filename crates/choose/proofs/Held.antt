-- The searches through the fixed choices: what each test of the code says, and what a search says at its end.
use mathlib.Core.Path.{◌≡◌, sym, ap, ◌∙◌, subst}
use mathlib.Core.Bool.{Bool, not, ◌&&◌, ◌||◌}
use mathlib.Core.List.{List, [], ◌∷◌}
use Prim.Native.Nat.{ℕ, ◌+◌, ◌≤◌, ◌<◌}
use native.Mathlib.Omega.{arith}
use lib.Dec.{T, ltb, leb, leb→le}
use lib.ListN.{length}
use Rattle.std.specs.Prelude.{Some, None}
use borrow.Author.Tests.{lt-ltb, le-ltb, le-leb, ne_eqb}
use Rattle.theory.specs.Limits.{readings_most}
use Rattle.theory.specs.Bound.{any, first}
use Rattle.theory.specs.BoundLaws.{and_l, any_i, any_e, first_holds, first_found}
use Rattle.theory.specs.Relation.{Rel}
use Rattle.theory.specs.Choice.{free, clash, clash_from, clash_to}
use Rattle.words.specs.Word.{bit}
use Rattle.refusal.specs.Said.{says}
use Rattle.table.specs.Layout.{row, rel, size_of, some_first}
use Rattle.table.specs.LayoutLaws.{rel-bit}
use Rattle.judge.proofs.Gaps.{first_said, first-passed}
use Rattle.table.proofs.Search.{Passed, passed_one, found, passed-all, is_some, is_none}
use Rattle.choose.specs.Choosing.{choice_of, bad_fixed, after_fixed, after_clash}

-- a byte

pub byte_at : (sizes fixed : List ℕ) (f s : ℕ) (r : Bool) → s ≡ size_of sizes f → r ≡ not (free (choice_of fixed f) || ltb (choice_of fixed f) s) → r ≡ bad_fixed sizes fixed f
byte_at sizes fixed f s r es e = e ∙ ap (λ (x : ℕ). not (free (choice_of fixed f) || ltb (choice_of fixed f) x)) es

-- two fixed readings

pub apart_read : (n : ℕ) (t : List ℕ) (i j a b word : ℕ) (h : Bool) → (a ≡ 255 → ⊥) → (b ≡ 255 → ⊥) → a < readings_most → b < readings_most
    → word ≡ row n t i j a → h ≡ bit word b → not h ≡ (not (free a || free b) && not (rel n t i j a b))
apart_read n t i j a b word h da db ha hb ew e =
    rw (ne_eqb a 255 da, ne_eqb b 255 db) (ap not (e ∙ (ap (λ (x : ℕ). bit x b) ew ∙ sym (rel-bit n t i j a b ha hb))))

-- the search through the bytes

module _ (sizes fixed : List ℕ) (f : ℕ) (g : Passed (length sizes) (bad_fixed sizes fixed) f) where
  pub byte_found : f < length sizes → T (bad_fixed sizes fixed f) → says 11 (f ∷ []) ≡ after_fixed sizes fixed (says 0 [])
  unfolding after_fixed
  byte_found h t = first_said (length sizes) (bad_fixed sizes fixed) (λ k. says 11 (k ∷ [])) (says 0 []) (found g h t) h

  pub byte_none : length sizes ≤ f → says 0 [] ≡ after_fixed sizes fixed (says 0 [])
  unfolding after_fixed
  byte_none h = first-passed (length sizes) (bad_fixed sizes fixed) (λ k. says 11 (k ∷ [])) (says 0 []) (passed-all g h) h

-- fields that clash

pub clashes : (R : Rel) (fixed : ℕ → ℕ) (i j : ℕ) (r : Bool) → i ≤ j → r ≡ (not (free (fixed i) || free (fixed j)) && not (R i j (fixed i) (fixed j))) → r ≡ clash R fixed i j
unfolding clash
clashes R fixed i j r h e = rw (le-leb i j h) e

module _ (n : ℕ) (R : Rel) (fixed : ℕ → ℕ) where
  -- those before i are not looked at
  pub from_own : (i : ℕ) → i < n → Passed n (clash R fixed i) i
  unfolding clash
  from_own i h = record { upto = omega arith; none = λ j l t. let k : i ≤ j = leb→le i j (and_l (leb i j) _ t) in omega arith }

  pub pair_found : (i j : ℕ) → Passed n (λ k. any n (clash R fixed k)) i → i < n → Some j ≡ some_first n (clash R fixed i) → says 12 (i ∷ j ∷ []) ≡ after_clash n R fixed (says 0 [])
  unfolding after_clash clash_from clash_to
  pair_found i j g hi s =
      let e : j ≡ first n (clash R fixed i) = (is_some n (clash R fixed i) s).0 in
      let hj : j < n = (is_some n (clash R fixed i) s).1 in
      let f : i ≡ first n (λ k. any n (clash R fixed k)) = found g hi (any_i n (clash R fixed i) j hj
      (subst (λ (x : ℕ). T (clash R fixed i x)) (sym e) (first_holds n (clash R fixed i) (rw e at hj)))) in
      rw (← f, lt-ltb i n hi, ← e)

  pub pair_more : (i : ℕ) → Passed n (λ k. any n (clash R fixed k)) i → i < n → None ≡ some_first n (clash R fixed i) → Passed n (λ k. any n (clash R fixed k)) (i + 1)
  pair_more i g hi s = passed_one g hi (λ t. let m = any_e n (clash R fixed i) t in omega (arith, m.1, is_none n (clash R fixed i) s, first_found n (clash R fixed i) m.0 m.1 m.2))

  pub pair_none : (i : ℕ) → Passed n (λ k. any n (clash R fixed k)) i → n ≤ i → says 0 [] ≡ after_clash n R fixed (says 0 [])
  unfolding after_clash clash_from
  pair_none i g h = let f : i ≡ first n (λ k. any n (clash R fixed k)) = passed-all g h in rw (← f, le-ltb i n h)

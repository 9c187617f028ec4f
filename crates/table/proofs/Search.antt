-- A search for the first number of which a test holds: the test holds of none that it has passed.
use mathlib.Core.Path.{◌≡◌, refl, sym, ap, subst, ◌∙◌}
use mathlib.Core.Logic.{◌⊎◌, inl, inr}
use mathlib.Core.Bool.{Bool, true, false, cond, not}
use Prim.Native.Nat.{ℕ, suc, ◌+◌, ◌-◌, ◌≤◌, ◌<◌, zero-le}
use native.Mathlib.Nat.{not-suc-le-zero, le_refl}
use native.Mathlib.Omega.{arith}
use lib.Dec.{T, ltb}
use lib.ListN.{length, get_or}
use borrow.Author.Count.{below_more}
use borrow.Author.Tests.{lt-ltb, le-ltb}
use Rattle.std.specs.Prelude.{Option, Some, None, MatchOption, option_map, List, [], ◌∷◌}
use denote.Ref.{Bor}
use Rattle.std.specs.declared.ops.Range.{Range}
use Rattle.std.specs.Fn.{Called, CalledAt}
use Rattle.std.specs.List.{FoldsTo, position_or_len}
use Rattle.std.specs.Iterator.{YieldsThen}
use Rattle.std.specs.Slice.Iter.{iter_rest}
use Rattle.std.specs.declared.slice.Iter.{Iter}
use Rattle.std.proofs.iter.Yields.{fronts, nat_range_steps}
use Rattle.std.proofs.lemmas.Iterator.{first_from_Range, YieldsList-from_slice}
use Rattle.std.proofs.lemmas.Iterator.Search.{position_from_yields_List}
use Rattle.std.specs.Bool.{⊤}
use denote.Param.Members.{Mut}
use Rattle.theory.specs.Bound.{first}
use Rattle.theory.specs.BoundLaws.{first_is, first_same, first_least, first_holds, lt_or_ge}
use Rattle.table.specs.Layout.{some_first}

-- a test that was made

pub hit : {r b : Bool} → r ≡ b → r ≡ true → T b
hit e t = subst T e (subst T (sym t) tt)

pub miss : {r b : Bool} → r ≡ b → r ≡ false → T b → ⊥
miss e f t = subst T f (subst T (sym e) t)

-- the search is at q, of k
pub record Passed (k : ℕ) (p : ℕ → Bool) (q : ℕ) : Type 0 where
  pub upto : q ≤ k
  pub none : (i : ℕ) → i < q → T (p i) → ⊥

pub passed_none : (k : ℕ) (p : ℕ → Bool) → Passed k p 0
passed_none k p = record { upto = zero-le; none = λ i h. absurd (not-suc-le-zero h) }

pub passed_one : {k : ℕ} {p : ℕ → Bool} {q : ℕ} → Passed k p q → q < k → (T (p q) → ⊥) → Passed k p (q + 1)
passed_one {k} {p} {q} g h n = record { upto = omega arith; none = below_more (λ i. T (p i) → ⊥) q g.none n }

pub passed_less : {k : ℕ} {p : ℕ → Bool} {q : ℕ} (r : ℕ) → Passed k p q → r ≤ q → Passed k p r
passed_less r g h = record { upto = omega (arith, g.upto); none = λ i l. g.none i (omega arith) }

pub found : {k : ℕ} {p : ℕ → Bool} {q : ℕ} → Passed k p q → q < k → T (p q) → q ≡ first k p
found {k} {p} {q} g h t = sym (first_is k p q g.upto (λ _. t) g.none)

pub passed-all : {k : ℕ} {p : ℕ → Bool} {q : ℕ} → Passed k p q → k ≤ q → q ≡ first k p
passed-all {k} {p} {q} g h = sym (first_is k p q g.upto (λ l. absurd (omega arith)) g.none)

-- the next m numbers are tested at once, by a test that is the same there
abbrev pub Along : ℕ → (ℕ → Bool) → ℕ → (ℕ → Bool) → Type 0
Along m p q sub = (a : ℕ) → a < m → p (q + a) ≡ sub a

pub passed_block : {k : ℕ} {p : ℕ → Bool} {q : ℕ} (m : ℕ) (sub : ℕ → Bool) → Passed k p q → q + m ≤ k → Along m p q sub → m ≤ first m sub → Passed k p (q + m)
passed_block {k} {p} {q} m sub g h same le = record { upto = h; none = λ i l. go i l (lt_or_ge i q) }
  where
    go : (i : ℕ) → i < q + m → (i < q) ⊎ (q ≤ i) → T (p i) → ⊥
    go i l (inl b) t = g.none i b t
    go i l (inr b) t =
        let s : q + (i - q) ≡ i = omega arith in
        first_least m sub (i - q) (omega arith) (subst T (same (i - q) (omega arith)) (subst (λ (x : ℕ). T (p x)) (sym s) t))

pub found_block : {k : ℕ} {p : ℕ → Bool} {q : ℕ} (m : ℕ) (sub : ℕ → Bool) → Passed k p q → q + m ≤ k → Along m p q sub → first m sub < m → q + first m sub ≡ first k p
found_block {k} {p} {q} m sub g h same l = sym (first_is k p (q + first m sub) (omega (arith, h)) (λ _. hit) (λ i b. none i b (lt_or_ge i q)))
  where
    hit : T (p (q + first m sub))
    hit = subst T (sym (same (first m sub) l)) (first_holds m sub l)

    none : (i : ℕ) → i < q + first m sub → (i < q) ⊎ (q ≤ i) → T (p i) → ⊥
    none i b (inl c) t = g.none i c t
    none i b (inr c) t =
        let s : q + (i - q) ≡ i = omega arith in
        first_least m sub (i - q) (omega arith) (subst T (same (i - q) (omega arith)) (subst (λ (x : ℕ). T (p x)) (sym s) t))

-- what was found, where there is something

pub some_is : (k : ℕ) (p : ℕ → Bool) {q : ℕ} → q ≡ first k p → q < k → Some q ≡ some_first k p
unfolding some_first
some_is k p {q} e l = ap Some e ∙ sym (ap (λ (b : Bool). cond b (Some (first k p)) None) (lt-ltb (first k p) k (rw (← e) l)))

pub none_is : (k : ℕ) (p : ℕ → Bool) {q : ℕ} → q ≡ first k p → k ≤ q → None ≡ some_first k p
unfolding some_first
none_is k p {q} e h = sym (ap (λ (b : Bool). cond b (Some (first k p)) None) (le-ltb (first k p) k (rw (← e) h)))

pub is_some : (k : ℕ) (p : ℕ → Bool) {q : ℕ} → Some q ≡ some_first k p → (q ≡ first k p) × (q < k)
unfolding some_first
is_some k p {q} e = go (lt_or_ge (first k p) k)
  where
    go : (first k p < k) ⊎ (k ≤ first k p) → (q ≡ first k p) × (q < k)
    go (inl l) = let f : Some q ≡ Some (first k p) = e ∙ ap (λ (b : Bool). cond b (Some (first k p)) None) (lt-ltb (first k p) k l) in let g : q ≡ first k p = cc in (g, rw g l)
    go (inr h) = let f : Some q ≡ None = e ∙ ap (λ (b : Bool). cond b (Some (first k p)) None) (le-ltb (first k p) k h) in cc

pub is_none : (k : ℕ) (p : ℕ → Bool) → None ≡ some_first k p → k ≤ first k p
unfolding some_first
is_none k p e = go (lt_or_ge (first k p) k)
  where
    go : (first k p < k) ⊎ (k ≤ first k p) → k ≤ first k p
    go (inl l) = let f : None ≡ Some (first k p) = e ∙ ap (λ (b : Bool). cond b (Some (first k p)) None) (lt-ltb (first k p) k l) in cc
    go (inr h) = h

-- what a number found names

module _ {A : Type 0} (f : ℕ → A) (k : ℕ) (p : ℕ → Bool) where
  pub mapped_some : {x : A} → Some x ≡ option_map f (some_first k p) → (first k p < k) × (x ≡ f (first k p))
  unfolding some_first
  mapped_some {x} e = go (lt_or_ge (first k p) k)
    where
      go : (first k p < k) ⊎ (k ≤ first k p) → (first k p < k) × (x ≡ f (first k p))
      go (inl l) = let h : Some x ≡ Some (f (first k p)) = e ∙ ap (λ (b : Bool). option_map f (cond b (Some (first k p)) None)) (lt-ltb (first k p) k l) in (l, cc)
      go (inr g) = let h : Some x ≡ None = e ∙ ap (λ (b : Bool). option_map f (cond b (Some (first k p)) None)) (le-ltb (first k p) k g) in cc

  pub mapped_none : None ≡ option_map f (some_first k p) → k ≤ first k p
  unfolding some_first
  mapped_none e = go (lt_or_ge (first k p) k)
    where
      go : (first k p < k) ⊎ (k ≤ first k p) → k ≤ first k p
      go (inl l) = let h : None ≡ Some (f (first k p)) = e ∙ ap (λ (b : Bool). option_map f (cond b (Some (first k p)) None)) (lt-ltb (first k p) k l) in cc
      go (inr g) = g

pub none_where : (k : ℕ) (p : ℕ → Bool) → ((i : ℕ) → i < k → T (p i) → ⊥) → None ≡ some_first k p
none_where k p n = none_is k p (passed-all (record { upto = le_refl k; none = n }) (le_refl k)) (le_refl k)

pub some_first_same : (k : ℕ) (p q : ℕ → Bool) → ((i : ℕ) → i < k → p i ≡ q i) → some_first k p ≡ some_first k q
unfolding some_first
some_first_same k p q e = ap (λ (f : ℕ). cond (ltb f k) (Some f) None) (first_same k p q e)

-- `find` over a range from 0, by a closure that answers p
pub some_first_from_find : {F : Type 0} {g : Mut F (Bor ℕ × Unit {0}) Bool} (k : ℕ) (p : ℕ → Bool) (s u : Range ℕ) (f : F) (r : Option ℕ)
    → (xs : List ℕ) × (j : F) × YieldsThen nat_range_steps s xs r u × FoldsTo (λ p x q. CalledAt g p x false q) f xs j × MatchOption r ⊤ (λ x. (h : F) × CalledAt g j x true h)
    → s ≡ record { start = 0; end = k } → ((x : ℕ) (b : Bool) (q : F) → CalledAt g f x b q → (q ≡ f) × (x < k → b ≡ p x)) → r ≡ some_first k p
some_first_from_find {F} {g} k p s u f r ran e calls =
    go r (first_from_Range s u f r (λ a. a < k → T (p a)) (λ a. a < k → T (p a) → ⊥) ran
    (λ x q h l. hit ((calls x true q h).1 l) refl)
    (λ x q h. ((calls x false q h).0, λ l. miss ((calls x false q h).1 l) refl)))
  where
    low : s.start ≡ 0
    low = ap (λ (x : Range ℕ). x.start) e

    high : s.end ≡ k
    high = ap (λ (x : Range ℕ). x.end) e

    go : (r : Option ℕ)
        → MatchOption r ((i : ℕ) → s.start ≤ i → i < s.end → i < k → T (p i) → ⊥)
        (λ q. (s.start ≤ q) × (q < s.end) × (q < k → T (p q)) × ((i : ℕ) → s.start ≤ i → i < q → i < k → T (p i) → ⊥))
        → r ≡ some_first k p
    go None h = none_where k p (λ i l. h i (omega (arith, low)) (omega (arith, high)) l)
    go (Some q) h =
        let l : q < k = omega (arith, high, h.1) in
        some_is k p (found (record { upto = omega (arith, l); none = λ i b. h.3 i (omega (arith, low)) b (omega (arith, b, l)) }) l (h.2 l)) l

-- `position` over a list, by a closure that answers p of each element
position_first : (xs : List ℕ) (p : ℕ → Bool) → position_or_len p xs ≡ first (length xs) (λ i. p (get_or xs i 0))
unfolding first
position_first [] p = refl
position_first (x ∷ xs) p = go (p x) (position_first xs p)
  where
    go : (b : Bool) {m n : ℕ} → m ≡ n → cond (not b) (1 + m) 0 ≡ cond b 0 (suc n)
    go true e = refl
    go false e = omega arith

pub some_first_from_position : {F : Type 0} {g : Mut F (Bor ℕ × Unit {0}) Bool} (xs : List ℕ) (p : ℕ → Bool) (s u : Iter ℕ) (f : F) (r : Option ℕ)
    → (ys : List (Bor ℕ)) × (o : Option (Bor ℕ)) × (j : F) × YieldsThen fronts s ys o u × FoldsTo (λ p x q. Called g p (x, tt) false q) f ys j
    × MatchOption o (r ≡ None) (λ x. (r ≡ Some (length ys)) × ((h : F) × Called g j (x, tt) true h))
    → iter_rest s ≡ xs → ((x : Bor ℕ) (b : Bool) (q : F) → Called g f (x, tt) b q → (q ≡ f) × (b ≡ p x.now)) → r ≡ some_first (length xs) (λ i. p (get_or xs i 0))
unfolding some_first
some_first_from_position xs p s u f r ran e calls =
    position_from_yields_List p u f r ran (YieldsList-from_slice xs e) calls
    ∙ ap (λ (i : ℕ). cond (ltb i (length xs)) (Some i) None) (position_first xs p)

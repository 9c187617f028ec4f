-- What the loops of a round keep, level by level: the rows of a cell, the cells of a field and the fields that are passed are done.
use mathlib.Core.Path.{◌≡◌, refl, ◌∙◌}
use mathlib.Core.Logic.{◌⊎◌, inl, inr}
use mathlib.Core.List.{List}
use Prim.Native.Nat.{ℕ, ◌+◌, ◌^◌, ◌≤◌, ◌<◌, zero-le}
use native.Mathlib.Omega.{arith}
use lib.Bits.{bit_or}
use lib.ListN.{length}
use Rattle.theory.specs.BoundLaws.{lt_or_ge}
use Rattle.theory.specs.Relation.{Rel, round}
use Rattle.words.specs.WordLaws.{pack_same}
use Rattle.table.specs.Layout.{Sized, rel}
use Rattle.table.specs.LayoutLaws.{Fit, rel-narrow, row-pack, words_of}
use Rattle.settle.specs.Round.{Part, OfRow, OfCell, OfField, Done, RoundDone}
use Rattle.settle.specs.RoundLaws.{lost_in, Everywhere, done_none, done_more, done_as, done-round, done_moved}

-- what the parts of the numbers from lo up to at have
abbrev pub Passed : (ℕ → Part) → ℕ → ℕ → Part
Passed P lo at k l c d = (m : ℕ) × (lo ≤ m) × (m < at) × P m k l c d

module _ {n : ℕ} {R : Rel} (P : ℕ → Part) where
  pub passed_start : (lo : ℕ) (A : Rel) → Done n R (Passed P lo lo) A A 0
  passed_start lo A = done_none (λ k l c d hk hl p. omega (arith, p.0.1, p.0.2))

  pub passed_more : {lo at : ℕ} {A B C : Rel} {m m' : ℕ} → lo ≤ at → Done n R (Passed P lo at) A B m → Done n R (P at) B C m' → Done n R (Passed P lo (at + 1)) A C (bit_or m m')
  passed_more {lo} {at} h v w =
      done_more v w (λ k l c d hk hl p. part k l c d p.0 (lt_or_ge p.0.0 at))
      (λ k l c d hk hl p. (p.0, p.1, omega (arith, p.2), p.3)) (λ k l c d hk hl p. (at, h, omega arith, p))
    where
      part : (k l c d : ℕ) (p : Passed P lo (at + 1) k l c d) → (p.0 < at) ⊎ (at ≤ p.0) → Passed P lo at k l c d ⊎ P at k l c d
      part k l c d p (inl u) = inl (p.0, p.1, u, p.3)
      part k l c d p (inr u) = let e : p.0 ≡ at = omega (arith, p.2) in inr (rw e at p.3)

module _ (n : ℕ) (t : List ℕ) where
  -- all rows make up the cell
  pub rows_end : (i j : ℕ) {a m : ℕ} {A B : Rel} → 32 ≤ a → Done n (rel n t) (Passed (OfRow i j) 0 a) A B m → Done n (rel n t) (OfCell i j) A B m
  rows_end i j {a} h v = done_as v (λ k l c d hk hl p. to k l c d (rel-narrow n t k l c d (lost_in n (rel n t) k l c d p.1)) p.0) (λ k l c d hk hl p. from k l c d p.3)
    where
      to : (k l c d : ℕ) → (c < 32) × (d < 32) → OfCell i j k l c d → Passed (OfRow i j) 0 a k l c d
      to k l c d w (inl s) = (c, zero-le, omega (arith, w.0), inl (s.0, s.1, refl))
      to k l c d w (inr s) = (d, zero-le, omega (arith, w.1), inr (s.0, s.1, refl))

      from : (k l c d : ℕ) {a : ℕ} → OfRow i j a k l c d → OfCell i j k l c d
      from k l c d (inl s) = inl (s.0, s.1)
      from k l c d (inr s) = inr (s.0, s.1)

  -- all cells make up the field
  pub cells_end : (i : ℕ) {j m : ℕ} {A B : Rel} → n ≤ j → Done n (rel n t) (Passed (OfCell i) i j) A B m → Done n (rel n t) (OfField i) A B m
  cells_end i {j} h v = done_as v (λ k l c d hk hl p. to k l c d hk hl p.0) (λ k l c d hk hl p. from k l c d p.1 p.3)
    where
      to : (k l c d : ℕ) → k < n → l < n → OfField i k l c d → Passed (OfCell i) i j k l c d
      to k l c d hk hl (inl s) = (l, s.1, omega arith, inl (s.0, refl))
      to k l c d hk hl (inr s) = (k, s.1, omega arith, inr (refl, s.0))

      from : (k l c d : ℕ) {j : ℕ} → i ≤ j → OfCell i j k l c d → OfField i k l c d
      from k l c d h (inl s) = inl (s.0, omega (arith, s.1))
      from k l c d h (inr s) = inr (s.1, omega (arith, s.0))

  -- all fields make up the round
  pub fields_end : {i m : ℕ} (out : List ℕ) → n ≤ i → Sized n t → length out ≡ length t → Fit out → m < 2 ^ 32
      → Done n (rel n t) (Passed OfField 0 i) (rel n t) (rel n out) m → RoundDone n t out m
  fields_end {i} {m} out h w e f s v = record {
    holds = words_of n (round n (rel n t)) out (e ∙ w.long) (λ k l c hk hl hc. row-pack n out f k l c hc ∙ pack_same 32 _ _ (λ d hd. done-round whole k l c d hk hl));
    fields = done_moved s whole;
  }
    where
      to : (k l c d : ℕ) → k < n → l < n → (k < l) ⊎ (l ≤ k) → Passed OfField 0 i k l c d
      to k l c d hk hl (inl u) = (k, zero-le, omega arith, inl (refl, omega arith))
      to k l c d hk hl (inr u) = (l, zero-le, omega arith, inr (refl, u))

      whole : Done n (rel n t) Everywhere (rel n t) (rel n out) m
      whole = done_as v (λ k l c d hk hl p. to k l c d hk hl (lt_or_ge k l)) (λ k l c d hk hl p. tt)

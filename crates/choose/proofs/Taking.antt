-- What the walk keeps: the fields passed have the lowest reading that was left, the others still have their fixed choices.
use mathlib.Core.Path.{◌≡◌, sym, ap, ◌∙◌, subst}
use mathlib.Core.Logic.{inl, inr}
use mathlib.Core.Bool.{Bool, not, ◌||◌}
use mathlib.Core.List.{List}
use Prim.Native.Nat.{ℕ, ◌+◌, ◌^◌, ◌≤◌, ◌<◌}
use native.Mathlib.Nat.{le_refl}
use native.Mathlib.Numerals.{add-one}
use native.Mathlib.Omega.{arith}
use lib.Dec.{T}
use lib.ListN.{length, set, length-set}
use lib.Seq.{get_or-set_same, get_or-set_other}
use Rattle.theory.specs.Limits.{readings_most}
use Rattle.theory.specs.Bound.{first}
use Rattle.theory.specs.BoundLaws.{and_i, and_l, and_r, or_by, or_use, T_ext, lt_or_ge, upto, all_i, all_e, any_i, any_e, first_found, first-le, first_is, first_least, first_same}
use Rattle.theory.proofs.RelationLaws.{pair_kept, pair_small}
use Rattle.theory.specs.Choice.{by_number, free, Fixed, left, Walked}
use Rattle.theory.proofs.ChoiceLaws.{Left, left_e, left_i, left_same}
use Rattle.theory.proofs.Theorems.{walk_finds_a_reading, walk_ends_first}
use Rattle.words.specs.Word.{bit, pack}
use Rattle.words.specs.WordLaws.{bit-pack}
use Rattle.table.specs.Layout.{size_of}
use Rattle.settle.specs.Settle.{rel_of}
use Rattle.choose.specs.Choosing.{choice_of, Ready, Agreed, FirstOf}
use Rattle.choose.specs.Taken.{Readings, own, fitting}
use Rattle.choose.proofs.Fitting.{ne_free}

-- what is left for a field, and what goes with all that is taken, over lists

abbrev left_of : List ℕ → List ℕ → List ℕ → List ℕ → ℕ → ℕ → Bool
left_of sizes t fixed x = left (length sizes) by_number (rel_of sizes t) (choice_of fixed) (choice_of x)

abbrev LeftOf : List ℕ → List ℕ → List ℕ → List ℕ → ℕ → ℕ → Type 0
LeftOf sizes t fixed x = Left (length sizes) by_number (rel_of sizes t) (choice_of fixed) (choice_of x)

abbrev fitting_of : List ℕ → List ℕ → List ℕ → ℕ → ℕ → Bool
fitting_of sizes t x = fitting (length sizes) (rel_of sizes t) (choice_of x)

-- a reading's number is a byte
pub lowest_byte : {v : ℕ} (w : ℕ) → v ≡ first 32 (bit w) → v < 2 ^ 8
lowest_byte w e = omega (arith, e, first-le 32 (bit w))

-- the walk is at field m, and the answer holds x
pub record Walking (sizes t fixed x : List ℕ) (m : ℕ) : Type 0 where
  pub upto : m ≤ length sizes
  pub long : length x ≡ length sizes
  pub done : Walked (length sizes) by_number (size_of sizes) (rel_of sizes t) (choice_of fixed) (choice_of x) m
  pub ahead : (i : ℕ) → m ≤ i → choice_of x i ≡ choice_of fixed i

module _ (sizes t fixed : List ℕ) (room : ℕ) (ready : Ready sizes t fixed room) (ok : Agreed sizes t fixed) where
  -- a field that was passed has a reading, which was left
  passed : {x : List ℕ} {m : ℕ} → Walking sizes t fixed x m → (g : ℕ) → g < m → (choice_of x g < size_of sizes g) × LeftOf sizes t fixed x g (choice_of x g)
  passed {x} {m} k g h =
      let b = walk_finds_a_reading ready.good.formed ready.settled ready.filled ready.whole (choice_of fixed) ok (choice_of x) g (omega (arith, k.upto)) (λ p l. k.done p (omega arith)) in
      let f = first_found (size_of sizes g) (left_of sizes t fixed x g) b.0 b.1 b.2 in
      (omega (arith, k.done g h, f.0, b.1), left_e _ _ _ _ _ _ _ (rw (k.done g h) f.1))

  -- so what is taken is readings and free fields
  pub walking_readings : {x : List ℕ} {m : ℕ} → Walking sizes t fixed x m → Readings (length sizes) (choice_of x)
  walking_readings {x} {m} k g h s = elim (lt_or_ge g m) [
    | inl l ↦ omega (arith, (passed k g l).0, ready.good.formed.small g h)
    | inr l ↦ let e = k.ahead g l in omega (arith, e, ready.bytes g h (subst (λ (v : ℕ). T (not (free v))) e s), ready.good.formed.small g h)
  ]

  -- what goes with all that is taken is what is left
  fits : {x : List ℕ} {m : ℕ} → Walking sizes t fixed x m → m < length sizes → (b : ℕ) → fitting_of sizes t x m b ≡ left_of sizes t fixed x m b
  unfolding fitting own
  fits {x} {m} k h b = T_ext (fitting_of sizes t x m b) _ (λ s. left_i _ _ _ _ _ _ _ (over s)) (λ s. back (left_e _ _ _ _ _ _ _ s))
    where
      over : T (fitting_of sizes t x m b) → LeftOf sizes t fixed x m b
      over s =
          let a = any_e readings_most (λ a. rel_of sizes t m m a b) (and_l (own (rel_of sizes t) m b) _ s) in
          record {
            keeps = pair_kept ready.good.formed m a.0 b h a.2;
            own = λ q. sym (ready.good.formed.same m _ b h (held m h q));
            chosen = λ q l. taken q (omega (arith, l)) (ne_free (choice_of x q) (λ e. omega (arith, (passed k q l).0, ready.good.formed.small q (omega (arith, l)))));
            held = held;
          }
        where
          taken : (g : ℕ) → g < length sizes → T (not (free (choice_of x g))) → T (rel_of sizes t g m (choice_of x g) b)
          taken g l = or_use (free (choice_of x g)) _ (all_e (length sizes) (λ g. free (choice_of x g) || rel_of sizes t g m (choice_of x g) b) (and_r (own (rel_of sizes t) m b) _ s) g l)

          held : (g : ℕ) → g < length sizes → Fixed (choice_of fixed) g → T (rel_of sizes t g m (choice_of fixed g) b)
          held g l q = elim (lt_or_ge g m) [
            | inl j ↦ same g l q ((passed k g j).1.own q)
            | inr j ↦ same g l q (k.ahead g j)
          ]
            where
              same : (g : ℕ) → g < length sizes → Fixed (choice_of fixed) g → choice_of x g ≡ choice_of fixed g → T (rel_of sizes t g m (choice_of fixed g) b)
              same g l q e = subst (λ (v : ℕ). T (rel_of sizes t g m v b)) e (taken g l (subst (λ (v : ℕ). T (not (free v))) (sym e) q))

      back : LeftOf sizes t fixed x m b → T (fitting_of sizes t x m b)
      back s =
          let small = pair_small ready.good.formed m m b b h h s.keeps in
          and_i (own (rel_of sizes t) m b) _ (any_i readings_most (λ a. rel_of sizes t m m a b) b small.0 s.keeps)
          (all_i (length sizes) (λ g. free (choice_of x g) || rel_of sizes t g m (choice_of x g) b) (λ g l. or_by (free (choice_of x g)) _ (goes g l)))
        where
          goes : (g : ℕ) → g < length sizes → T (not (free (choice_of x g))) → T (rel_of sizes t g m (choice_of x g) b)
          goes g l q = elim (lt_or_ge g m) [
            | inl j ↦ s.chosen g j
            | inr j ↦ let e = k.ahead g j in subst (λ (v : ℕ). T (rel_of sizes t g m v b)) (sym e) (s.held g l (subst (λ (v : ℕ). T (not (free v))) e q))
          ]

  -- and its lowest bit is the lowest reading that is left
  lowest-left : {x : List ℕ} {m : ℕ} → Walking sizes t fixed x m → m < length sizes → (w : ℕ) → w ≡ pack readings_most (fitting_of sizes t x m)
      → first readings_most (bit w) ≡ first (size_of sizes m) (left_of sizes t fixed x m)
  lowest-left {x} {m} k h w e =
      first_same readings_most (bit w) p (λ b l. ap (λ (v : ℕ). bit v b) e ∙ (bit-pack readings_most (fitting_of sizes t x m) b l ∙ fits k h b))
      ∙ first_is readings_most p (first (size_of sizes m) p) (omega (arith, f.0, b.1, ready.good.formed.small m h)) (λ _. f.1) (first_least (size_of sizes m) p)
    where
      p : ℕ → Bool
      p = left_of sizes t fixed x m

      b : (b : ℕ) × (b < size_of sizes m) × T (p b)
      b = walk_finds_a_reading ready.good.formed ready.settled ready.filled ready.whole (choice_of fixed) ok (choice_of x) m h k.done

      f : (first (size_of sizes m) p ≤ b.0) × T (p (first (size_of sizes m) p))
      f = first_found (size_of sizes m) p b.0 b.1 b.2

  pub walking_more : {x : List ℕ} {m : ℕ} (w v : ℕ) → Walking sizes t fixed x m → m < length sizes → w ≡ pack readings_most (fitting_of sizes t x m)
      → v ≡ first readings_most (bit w) → Walking sizes t fixed (set x m v) (m + 1)
  walking_more {x} {m} w v k h ew ev = record {
    upto = omega arith;
    long = length-set x m v ∙ k.long;
    done = rw add-one (upto (λ p. choice_of (set x m v) p ≡ first (size_of sizes p) (left_of sizes t fixed (set x m v) p))
        (get_or-set_same x m v 0 (omega (arith, k.long)) ∙ (ev ∙ (lowest-left k h w ew ∙ again m (le_refl m))))
        (λ p l. keep p (omega arith) ∙ (k.done p l ∙ again p (omega arith))));
    ahead = λ i l. keep i (omega arith) ∙ k.ahead i (omega arith);
  }
    where
      keep : (i : ℕ) → (i ≡ m → ⊥) → choice_of (set x m v) i ≡ choice_of x i
      keep i d = get_or-set_other x m i v 0 d

      again : (p : ℕ) → p ≤ m → first (size_of sizes p) (left_of sizes t fixed x p) ≡ first (size_of sizes p) (left_of sizes t fixed (set x m v) p)
      again p l = first_same (size_of sizes p) _ _ (λ b j. left_same _ _ _ _ (choice_of x) (choice_of (set x m v)) p b (λ q i. sym (keep q (omega arith))))

  pub walking_end : {x : List ℕ} {m : ℕ} → Walking sizes t fixed x m → length sizes ≤ m → FirstOf sizes t fixed x
  walking_end {x} {m} k h =
      let e : m ≡ length sizes = omega (arith, k.upto) in
      walk_ends_first ready.good.formed ready.settled ready.filled ready.whole (choice_of fixed) ok (choice_of x) (rw e at k.done)

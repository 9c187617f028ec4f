-- A word that gathers the faults of rows: it is 0 exactly where no row so far has one.
use mathlib.Core.Path.{◌≡◌, refl, sym, ap, ap₂, subst, ◌∙◌}
use mathlib.Core.Bool.{Bool, false, not, ◌&&◌, ◌||◌}
use mathlib.Core.List.{List}
use Prim.Native.Nat.{ℕ, ◌+◌, ◌-◌, ◌^◌, ◌≤◌, ◌<◌}
use native.Mathlib.Numerals.{add-one}
use native.Mathlib.Omega.{arith}
use lib.Dec.{T, eqb, ltb}
use lib.Bits.{bit_and, bit_or}
use lib.ListN.{get_or}
use Rattle.std.specs.Prelude.{None}
use Rattle.theory.specs.Limits.{readings_most}
use Rattle.theory.specs.Bound.{any}
use Rattle.theory.specs.BoundLaws.{any_i}
use Rattle.words.specs.Word.{bit, pack}
use Rattle.words.specs.WordLaws.{pack-lt}
use Rattle.words.specs.MachineLaws.{or_some}
use Rattle.words.proofs.Masks.{outside-any}
use Rattle.table.specs.Cells.{stray_in}
use Rattle.table.specs.Layout.{some_first}
use Rattle.table.proofs.Search.{none_where}
use Rattle.table.proofs.Faults.{stray_at}

pub record Gathered (p : ℕ → Bool) (w a : ℕ) : Type 0 where
  pub upto : a ≤ readings_most
  pub said : not (eqb w 0) ≡ any a p

pub gathered_none : (p : ℕ → Bool) → Gathered p 0 0
unfolding any
gathered_none p = record { upto = omega arith; said = refl }

pub gathered_more : {p : ℕ → Bool} {w a : ℕ} (x : ℕ) → Gathered p w a → a < readings_most → not (eqb x 0) ≡ p a → Gathered p (bit_or w x) (a + 1)
unfolding any
gathered_more {p} {w} {a} x g h e = record {
  upto = omega arith;
  said = or_some w x ∙ ap₂ (λ (u v : Bool). u || v) g.said e ∙ sym (ap (λ (n : ℕ). any n p) (add-one a));
}

pub gathered_all : {p : ℕ → Bool} {w a : ℕ} → Gathered p w a → readings_most ≤ a → not (eqb w 0) ≡ any readings_most p
gathered_all {p} {w} {a} g h = let e : a ≡ readings_most = omega (arith, g.upto) in g.said ∙ ap (λ (n : ℕ). any n p) e

-- the stray bits of row a
pub stray_bits : (size mask : ℕ) (cell : List ℕ) (a : ℕ) {m : ℕ} → get_or cell a 0 < 2 ^ 32 → m ≡ pack readings_most (λ b. ltb a size && bit mask b) →
    not (eqb (bit_and (get_or cell a 0) ((2 ^ 32 - 1) - m)) 0) ≡ stray_in size mask cell a
stray_bits size mask cell a {m} f e =
    stray_at size mask cell a e (outside-any 32 (get_or cell a 0) m f (subst (λ (x : ℕ). x < 2 ^ 32) (sym e) (pack-lt 32 (λ b. ltb a size && bit mask b))))

-- where there is none, there is no first
pub none_any : (k : ℕ) (p : ℕ → Bool) {r : Bool} → r ≡ any k p → r ≡ false → None ≡ some_first k p
none_any k p {r} e f = none_where k p (λ i l t. subst T (sym e ∙ f) (any_i k p i l t))

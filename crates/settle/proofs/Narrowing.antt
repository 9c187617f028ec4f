-- What the loop of `round_row` keeps: w has the bits of the row that lie in the compositions through every field below k.
use mathlib.Core.Path.{◌≡◌, sym, ap, ap₂, ◌∙◌}
use mathlib.Core.Bool.{◌&&◌, and-true, and_assoc}
use mathlib.Core.List.{List}
use Prim.Native.Nat.{ℕ, ◌+◌, ◌^◌, ◌≤◌, ◌<◌}
use native.Mathlib.Numerals.{add-one}
use native.Mathlib.Omega.{arith}
use lib.ListN.{get_or}
use Rattle.theory.specs.Limits.{readings_most}
use Rattle.theory.specs.Bound.{all, any}
use Rattle.theory.specs.BoundLaws.{and_i, T_ext, all_i, any_same}
use Rattle.theory.specs.Relation.{composed, round}
use Rattle.theory.proofs.RelationLaws.{round_in, round-composed}
use Rattle.words.specs.Word.{bit, pack}
use Rattle.words.specs.WordLaws.{bit-pack, pack-lt, pack_of, zero_no}
use Rattle.table.specs.Layout.{cell_of, row, rel}
use Rattle.table.specs.LayoutLaws.{rel-bit, cell_bit}

pub record Kept (n : ℕ) (t : List ℕ) (i j a k w : ℕ) : Type 0 where
  pub upto : k ≤ n
  pub small : w < 2 ^ 32
  pub bits : (b : ℕ) → b < readings_most → bit w b ≡ (rel n t i j a b && all k (λ m. composed (rel n t) i m j a b))

module _ (n : ℕ) (t : List ℕ) (i j a : ℕ) where
  pub kept-start : (w : ℕ) → a < readings_most → w < 2 ^ 32 → w ≡ row n t i j a → Kept n t i j a 0 w
  unfolding all
  kept-start w ha h e = record {
    upto = omega arith;
    small = h;
    bits = λ b l. ap (λ (x : ℕ). bit x b) e ∙ (sym (rel-bit n t i j a b ha l) ∙ sym (and-true (rel n t i j a b)));
  }

  pub kept_more : (k w word r : ℕ) (cell : List ℕ) → a < readings_most → Kept n t i j a k w → k < n → word ≡ row n t i k a → cell ≡ cell_of n t k j
      → r ≡ pack 32 (λ b. bit w b && any 32 (λ c. bit word c && bit (get_or cell c 0) b)) → Kept n t i j a (k + 1) r
  unfolding all composed
  kept_more k w word r cell ha g h ew ec e = record {
    upto = omega arith;
    small = rw e (pack-lt 32 (λ b. bit w b && any 32 (λ c. bit word c && bit (get_or cell c 0) b)));
    bits = λ b l.
        rw add-one
        (ap (λ (x : ℕ). bit x b) e
        ∙ (bit-pack 32 (λ d. bit w d && any 32 (λ c. bit word c && bit (get_or cell c 0) d)) b l
        ∙ (ap₂ ◌&&◌ (g.bits b l)
        (any_same 32 _ _ (λ c m. ap₂ ◌&&◌ (ap (λ (x : ℕ). bit x c) ew ∙ sym (rel-bit n t i k a c ha m)) (ap (λ (x : List ℕ). bit (get_or x c 0) b) ec ∙ cell_bit n t k j c b m l)))
        ∙ and_assoc (rel n t i j a b) _ _)));
  }

  pub kept_end : (k w : ℕ) → Kept n t i j a k w → n ≤ k → w ≡ pack 32 (round n (rel n t) i j a)
  unfolding round
  kept_end k w g h =
      let e : k ≡ n = omega (arith, g.upto) in
      pack_of 32 w (round n (rel n t) i j a) g.small (λ b l. g.bits b l ∙ ap (λ (x : ℕ). rel n t i j a b && all x (λ m. composed (rel n t) i m j a b)) e)

  -- no bit is left, so none is left at the end
  pub kept_none : (k w : ℕ) → Kept n t i j a k w → w ≡ 0 → w ≡ pack 32 (round n (rel n t) i j a)
  kept_none k w g e = pack_of 32 w (round n (rel n t) i j a) g.small (λ b l. T_ext (bit w b) (round n (rel n t) i j a b)
      (λ s. absurd (zero_no b (rw e at s)))
      (λ s. rw (g.bits b l) (and_i (rel n t i j a b) _ (round_in n (rel n t) i j a b s) (all_i k _ (λ m q. round-composed n (rel n t) i j a b s m (omega (arith, g.upto)))))))

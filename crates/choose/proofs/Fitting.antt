-- The words of the walk, bit by bit: what a field keeps, what goes with one choice, and what goes with all that is taken.
use mathlib.Core.Path.{◌≡◌, sym, ap, ◌∙◌}
use mathlib.Core.Bool.{Bool, true, false, not, ◌&&◌, ◌||◌, and-true, and_assoc}
use mathlib.Core.List.{List}
use Prim.Native.Nat.{ℕ, ◌+◌, ◌^◌, ◌≤◌, ◌<◌}
use native.Mathlib.Numerals.{add-one}
use native.Mathlib.Omega.{arith}
use lib.Dec.{T, ltb}
use lib.ListN.{get_or}
use borrow.Author.Tests.{lt-ltb, ne_eqb}
use Rattle.theory.specs.Limits.{readings_most}
use Rattle.theory.specs.Bound.{all, any}
use Rattle.theory.specs.BoundLaws.{any_same}
use Rattle.theory.specs.Choice.{free}
use Rattle.words.specs.Word.{bit, pack}
use Rattle.words.specs.WordLaws.{bit-pack, pack_of, pack_same}
use Rattle.table.specs.Layout.{cell_of, row, rel}
use Rattle.table.specs.LayoutLaws.{rel-bit, cell_bit}
use Rattle.choose.specs.Choosing.{choice_of}
use Rattle.choose.specs.Taken.{own, fitting}

-- every reading led through the diagonal cell
pub own_is : (n : ℕ) (t : List ℕ) (f full r : ℕ) (cell : List ℕ) → full ≡ pack 32 (λ b. ltb b 32) → cell ≡ cell_of n t f f
    → r ≡ pack 32 (λ b. bit full b && any 32 (λ a. bit full a && bit (get_or cell a 0) b)) → r ≡ pack readings_most (own (rel n t) f)
unfolding own
own_is n t f full r cell ef ec e =
    e ∙ pack_same 32 _ (own (rel n t) f) (λ b l. rw (on b l) (any_same 32 _ (λ a. rel n t f f a b) (λ a m. rw (on a m) (ap (λ (x : List ℕ). bit (get_or x a 0) b) ec ∙ cell_bit n t f f a b m l))))
  where
    on : (b : ℕ) → b < 32 → bit full b ≡ true
    on b l = ap (λ (x : ℕ). bit x b) ef ∙ (bit-pack 32 (λ d. ltb d 32) b l ∙ lt-ltb b 32 l)

pub ne_free : (v : ℕ) → (v ≡ 255 → ⊥) → T (not (free v))
ne_free v d = rw (ne_eqb v 255 d) tt

-- a free choice takes nothing away
pub with_free : (n : ℕ) (t : List ℕ) (w g f v : ℕ) → w < 2 ^ 32 → v ≡ 255 → w ≡ pack readings_most (λ b. bit w b && (free v || rel n t g f v b))
with_free n t w g f v h e = pack_of 32 w _ h (λ b l. rw (ap free e) (sym (and-true (bit w b))))

pub with_reading : (n : ℕ) (t : List ℕ) (w g f v word r : ℕ) → free v ≡ false → v < readings_most → word ≡ row n t g f v
    → r ≡ pack 32 (λ b. bit w b && bit word b) → r ≡ pack readings_most (λ b. bit w b && (free v || rel n t g f v b))
with_reading n t w g f v word r d h ew e =
    e ∙ pack_same 32 _ _ (λ b l. ap (λ (x : Bool). bit w b && x) (ap (λ (x : ℕ). bit x b) ew ∙ (sym (rel-bit n t g f v b h l) ∙ ap (λ (x : Bool). x || rel n t g f v b) (sym d))))

-- w has the readings of field f that go with what is taken for the fields below g
pub record Fitted (n : ℕ) (t taken : List ℕ) (f g w : ℕ) : Type 0 where
  pub upto : g ≤ n
  pub is : w ≡ pack readings_most (fitting g (rel n t) (choice_of taken) f)

module _ (n : ℕ) (t taken : List ℕ) (f : ℕ) where
  pub fitted_start : (w : ℕ) → w ≡ pack readings_most (own (rel n t) f) → Fitted n t taken f 0 w
  unfolding fitting all
  fitted_start w e = record { upto = omega arith; is = e ∙ pack_same 32 _ _ (λ b l. sym (and-true (own (rel n t) f b))) }

  pub fitted_more : (g w r : ℕ) → Fitted n t taken f g w → g < n
      → r ≡ pack readings_most (λ b. bit w b && (free (choice_of taken g) || rel n t g f (choice_of taken g) b)) → Fitted n t taken f (g + 1) r
  unfolding fitting all
  fitted_more g w r k h e = record {
    upto = omega arith;
    is = rw add-one (e ∙ pack_same 32 _ _ (λ b l. ap (λ (x : Bool). x && (free (choice_of taken g) || rel n t g f (choice_of taken g) b))
        (ap (λ (x : ℕ). bit x b) k.is ∙ bit-pack 32 (fitting g (rel n t) (choice_of taken) f) b l) ∙ and_assoc (own (rel n t) f b) _ _));
  }

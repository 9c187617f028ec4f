-- A row of a round: the bits that it loses, and the two fields that then lose a pair.
use mathlib.Core.Path.{◌≡◌, sym, ap, ap₂, ◌∙◌}
use mathlib.Core.Logic.{◌⊎◌, inl, inr}
use mathlib.Core.Bool.{Bool, not, ◌&&◌, ◌||◌}
use mathlib.Core.List.{List}
use Prim.Native.Nat.{ℕ, ◌-◌, ◌^◌, ◌≤◌, ◌<◌}
use native.Mathlib.Omega.{arith}
use lib.Bits.{bit_and, and_lt}
use lib.Pow.{ones_sub-lt}
use lib.Dec.{T, eqb, eqb→eq, eqb_refl}
use Rattle.theory.specs.Limits.{readings_most}
use Rattle.theory.specs.Bound.{first}
use Rattle.theory.specs.BoundLaws.{and_i, not_i, or_l, or_r, or_e, first_holds}
use Rattle.theory.specs.Relation.{Rel, round}
use Rattle.words.specs.Word.{bit, pack}
use Rattle.words.specs.WordLaws.{bit_none, bit-lt, bit-pack, pack-lt, pack_of, pack_same, zero_no}
use Rattle.words.specs.MachineLaws.{bit-and, bit_not}
use Rattle.words.specs.EndLaws.{first_one}
use Rattle.table.specs.Layout.{row, rel}
use Rattle.table.specs.LayoutLaws.{rel-bit, rel-narrow}
use Rattle.settle.specs.Round.{lost, moves, Quiet, Turned, OfSome, OfRow, OfCell, Without, LostOf, Done}
use Rattle.settle.specs.RoundLaws.{lost_in, lost-turned, moves_i, In, without_as, done_none}

-- a word with no bit, with bit i set, and then bit j
pub two_bits : (i j v w : ℕ) → v ≡ pack 32 (λ f. bit 0 f || eqb f i) → w ≡ pack 32 (λ f. bit v f || eqb f j) → w ≡ pack 32 (λ f. eqb f i || eqb f j)
two_bits i j v w ev ew =
    ew ∙ pack_same 32 _ _ (λ f hf. ap (λ (x : Bool). x || eqb f j)
    (ap (λ (x : ℕ). bit x f) ev ∙ (bit-pack 32 (λ g. bit 0 g || eqb g i) f hf ∙ ap (λ (x : Bool). x || eqb f i) (bit_none f))))

-- a row less what a round leaves of it
pub row_less_round : (n : ℕ) (t : List ℕ) (i j a v r : ℕ) → a < readings_most → v < 2 ^ 32 → v ≡ row n t i j a
    → r ≡ pack 32 (round n (rel n t) i j a) → bit_and v ((2 ^ 32 - 1) - r) ≡ pack 32 (lost n (rel n t) i j a)
unfolding lost
row_less_round n t i j a v r ha h ev er = pack_of 32 (bit_and v ((2 ^ 32 - 1) - r)) (lost n (rel n t) i j a) (and_lt 32 v _ h (ones_sub-lt 32 r)) (λ b hb.
    bit-and v ((2 ^ 32 - 1) - r) b
    ∙ ap₂ ◌&&◌
    (ap (λ (x : ℕ). bit x b) ev ∙ sym (rel-bit n t i j a b ha hb))
    (bit_not 32 r b (rw er (pack-lt 32 (round n (rel n t) i j a))) hb ∙ ap not (ap (λ (x : ℕ). bit x b) er ∙ bit-pack 32 (round n (rel n t) i j a) b hb)))

-- w has the bits that the row loses
module _ (n : ℕ) (t : List ℕ) (i j a w : ℕ) (turn : Turned n (rel n t)) (hi : i < n) (hj : j < n) (g : w ≡ pack 32 (lost n (rel n t) i j a)) where
  lost-bit : (b : ℕ) → T (lost n (rel n t) i j a b) → T (bit w b)
  lost-bit b s = rw (g, bit-pack 32 (lost n (rel n t) i j a) b (rel-narrow n t i j a b (lost_in n (rel n t) i j a b s)).1) s

  bit-lost : (b : ℕ) → T (bit w b) → T (lost n (rel n t) i j a b)
  bit-lost b s =
      let u = rw g at s in
      rw (bit-pack 32 (lost n (rel n t) i j a) b (bit-lt 32 (pack 32 (lost n (rel n t) i j a)) b (pack-lt 32 (lost n (rel n t) i j a)) u)) at u

  part : In n (LostOf n (rel n t) (OfRow i j a)) (OfSome i j a (λ b. T (bit w b)))
  part k l c d hk hl p = go p.0 p.1
    where
      go : OfRow i j a k l c d → T (lost n (rel n t) k l c d) → OfSome i j a (λ b. T (bit w b)) k l c d
      go (inl e) s = inl (e.0, e.1, e.2, lost-bit d (rw (e.0, e.1, e.2) at s))
      go (inr e) s = inr (e.0, e.1, e.2, lost-bit c (rw (e.0, e.1, e.2) at (lost-turned n (rel n t) turn k l c d hk hl s)))

  back : In n (OfSome i j a (λ b. T (bit w b))) (LostOf n (rel n t) (OfRow i j a))
  back k l c d hk hl p = go p
    where
      go : OfSome i j a (λ b. T (bit w b)) k l c d → LostOf n (rel n t) (OfRow i j a) k l c d
      go (inl e) = (inl (e.0, e.1, e.2), rw (e.0, e.1, e.2) (bit-lost d e.3))
      go (inr e) = (inr (e.0, e.1, e.2), lost-turned n (rel n t) turn l k d c hl hk (rw (e.0, e.1, e.2) (bit-lost c e.3)))

-- a row that loses nothing
pub row_none : {w : ℕ} → w ≡ 0 → (n : ℕ) (t : List ℕ) (i j a : ℕ) (A : Rel) → w ≡ pack 32 (lost n (rel n t) i j a) → Turned n (rel n t) → i < n → j < n → Done n (rel n t) (OfRow i j a) A A 0
row_none {w} e n t i j a A g turn hi hj = done_none (λ k l c d hk hl p. none k l c d (part n t i j a w turn hi hj g k l c d hk hl p))
  where
    none : (k l c d : ℕ) → OfSome i j a (λ b. T (bit w b)) k l c d → ⊥
    none k l c d (inl s) = zero_no d (rw e at s.3)
    none k l c d (inr s) = zero_no c (rw e at s.3)

-- a row whose lost bits are struck
pub row_done : {w : ℕ} → 0 < w → (n : ℕ) (t : List ℕ) (i j a : ℕ) (A B : Rel) (m : ℕ) → w ≡ pack 32 (lost n (rel n t) i j a) → Turned n (rel n t) → i < n → j < n → n ≤ 32
    → Without n (OfSome i j a (λ b. T (bit w b))) A B → m ≡ pack 32 (λ f. eqb f i || eqb f j) → Done n (rel n t) (OfRow i j a) A B m
row_done {w} hw n t i j a A B m g turn hi hj hn v e = record {
  without = without_as v (part n t i j a w turn hi hj g) (back n t i j a w turn hi hj g);
  marked = λ k l c d hk hl p. rw e (rw (bit-pack 32 (λ f. eqb f i || eqb f j) k (omega arith)) (mark k l c d p.0));
  only = λ f s.
      let u = rw e at s in
      let hf = bit-lt 32 (pack 32 (λ f. eqb f i || eqb f j)) f (pack-lt 32 (λ f. eqb f i || eqb f j)) u in
      one f (or_e (eqb f i) (eqb f j) (rw (bit-pack 32 (λ f. eqb f i || eqb f j) f hf) at u));
}
  where
    mark : (k l c d : ℕ) → OfRow i j a k l c d → T (eqb k i || eqb k j)
    mark k l c d (inl q) = or_l (eqb k i) _ (rw q.0 (eqb_refl i))
    mark k l c d (inr q) = or_r (eqb k i) _ (rw q.0 (eqb_refl j))

    b : ℕ
    b = first 32 (bit w)

    hb : b < 32
    hb = first_one 32 w hw (rw g (pack-lt 32 (lost n (rel n t) i j a)))

    gone : T (lost n (rel n t) i j a b)
    gone = bit-lost n t i j a w turn hi hj g b (first_holds 32 (bit w) hb)

    ha : a < 32
    ha = (rel-narrow n t i j a b (lost_in n (rel n t) i j a b gone)).0

    one : (f : ℕ) → T (eqb f i) ⊎ T (eqb f j) → (f < n) × T (moves n (rel n t) f)
    one f (inl s) = rw (eqb→eq f i s) (hi, moves_i n (rel n t) i j a b hj ha hb gone)
    one f (inr s) = rw (eqb→eq f j s) (hj, moves_i n (rel n t) j i b a hi hb ha (lost-turned n (rel n t) turn i j a b hi hj gone))

-- a cell of two fields that are no bits of moved loses nothing
pub cell_quiet : (n : ℕ) (R : Rel) (i j moved m : ℕ) (A : Rel) → n ≤ 32 → i < n → j < n → Quiet n R moved → m ≡ pack 32 (λ f. eqb f i || eqb f j) → bit_and moved m ≡ 0 → Done n R (OfCell i j) A A 0
cell_quiet n R i j moved m A hn hi hj quiet e z = done_none (λ k l c d hk hl p. none k l c d p.0 p.1)
  where
    out : (f : ℕ) → f < n → T (eqb f i || eqb f j) → T (not (bit moved f))
    out f hf s = not_i (bit moved f) (λ u.
        let v : T (bit m f) = rw (e, bit-pack 32 (λ g. eqb g i || eqb g j) f (omega arith)) s in
        let w : T (bit (bit_and moved m) f) = rw (bit-and moved m f) (and_i (bit moved f) _ u v) in
        zero_no f (rw z at w))

    ri : T (not (bit moved i))
    ri = out i hi (or_l (eqb i i) _ (eqb_refl i))

    rj : T (not (bit moved j))
    rj = out j hj (or_r (eqb j i) _ (eqb_refl j))

    none : (k l c d : ℕ) → OfCell i j k l c d → T (lost n R k l c d) → ⊥
    none k l c d (inl q) s = quiet i j c d hi hj ri rj (rw (q.0, q.1) at s)
    none k l c d (inr q) s = quiet j i c d hj hi rj ri (rw (q.0, q.1) at s)

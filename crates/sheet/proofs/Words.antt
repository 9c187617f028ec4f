-- Rows as the machine makes them.
use mathlib.Core.Path.{◌≡◌, refl, sym, ap, ap₂, ◌∙◌}
use mathlib.Core.Bool.{Bool, true, false, not, ◌&&◌, ◌||◌, and-true}
use mathlib.Core.Logic.{inl, inr}
use mathlib.Core.List.{List}
use Prim.Native.Nat.{ℕ, ◌-◌, ◌^◌, ◌≤◌, ◌<◌}
use lib.Dec.{leb, ltb, eqb, eqb→eq, eqb_refl}
use lib.Bits.{bit_and, and_lt}
use lib.Pow.{pow_pos, ones_sub-lt}
use borrow.Author.Tests.{lt-ltb, le-ltb, le-leb, lt-leb}
use Rattle.theory.specs.Limits.{readings_most}
use Rattle.theory.specs.BoundLaws.{T_ext, lt_or_ge}
use Rattle.words.specs.Word.{bit, pack}
use Rattle.words.specs.WordLaws.{bit-pack, pack-lt, pack_of, pack_same, bit_none}
use Rattle.words.specs.MachineLaws.{bit-and, bit_not}
use Rattle.table.specs.Layout.{tabulate}
use Rattle.table.specs.LayoutLaws.{length-tabulate, get_or-tabulate, tabulate_of}
use Rattle.sheet.specs.Writing.{full_row, own_row, other_row, between}

eqb-turn : (a b : ℕ) → eqb a b ≡ eqb b a
eqb-turn a b = T_ext (eqb a b) (eqb b a) (λ t. rw (eqb→eq a b t) (eqb_refl b)) (λ t. rw (eqb→eq b a t) (eqb_refl a))

not-below : (b k : ℕ) → not (ltb b k) ≡ leb k b
not-below b k = elim (lt_or_ge b k) [ inl l ↦ rw (lt-ltb b k l, lt-leb k b l) | inr g ↦ rw (le-ltb b k g, le-leb k b g) ]

tabulate_same : (k : ℕ) {f g : ℕ → ℕ} → ((p : ℕ) → f p ≡ g p) → tabulate k f ≡ tabulate k g
tabulate_same k {f} {g} h = tabulate_of k g (tabulate k f) (length-tabulate k f) (λ p l. get_or-tabulate k f p l ∙ h p)

-- the bits from one place up to another, by two masks
pub between_masks : (w x y from to : ℕ) → w < 2 ^ 32 → x ≡ pack 32 (λ b. ltb b to) → y ≡ pack 32 (λ b. ltb b from) → bit_and (bit_and w x) ((2 ^ 32 - 1) - y) ≡ between w from to
unfolding between
between_masks w x y from to h ex ey =
    pack_of 32 (bit_and (bit_and w x) ((2 ^ 32 - 1) - y)) _
    (and_lt 32 (bit_and w x) ((2 ^ 32 - 1) - y) (and_lt 32 w x h (rw ex (pack-lt 32 _))) (ones_sub-lt 32 y))
    (λ b l.
    bit-and (bit_and w x) ((2 ^ 32 - 1) - y) b
    ∙ ap₂ ◌&&◌
    (bit-and w x b ∙ ap (λ (v : ℕ). bit w b && bit v b) ex ∙ ap (λ (p : Bool). bit w b && p) (bit-pack 32 (λ c. ltb c to) b l))
    (bit_not 32 y b (rw ey (pack-lt 32 _)) l ∙ ap (λ (v : ℕ). not (bit v b)) ey ∙ ap not (bit-pack 32 (λ c. ltb c from) b l) ∙ not-below b from)
    ∙ go (bit w b) (ltb b to) (leb from b))
  where
    go : (p q r : Bool) → (p && q && r) ≡ (p && (r && q))
    go true true true = refl
    go true true false = refl
    go true false true = refl
    go true false false = refl
    go false q r = refl

-- rows of everything

pub own_none : (rows mask a : ℕ) → rows ≤ a → 0 ≡ own_row rows mask a
unfolding own_row
own_none rows mask a h = pack_of 32 0 _ (pow_pos 32) (λ b l. bit_none b ∙ sym (ap (λ (p : Bool). p && (bit mask b && eqb a b)) (le-ltb a rows h)))

pub own_one : (rows mask a v x : ℕ) → a < rows → v ≡ pack 32 (λ c. bit 0 c || eqb c a) → x ≡ pack 32 (λ b. bit mask b && bit v b) → x ≡ own_row rows mask a
unfolding own_row
own_one rows mask a v x h ev ex =
    ex
    ∙ pack_same 32 _ _
    (λ b l.
    ap (λ (p : Bool). bit mask b && p)
    (ap (λ (y : ℕ). bit y b) ev ∙ bit-pack 32 (λ c. bit 0 c || eqb c a) b l ∙ ap (λ (p : Bool). p || eqb b a) (bit_none b) ∙ eqb-turn b a)
    ∙ sym (simp (lt-ltb a rows h)))

module _ (rows columns mask : ℕ) (e : mask ≡ pack 32 (λ b. ltb b columns)) (a : ℕ) where
  own-full : own_row rows mask a ≡ full_row rows columns true a
  unfolding own_row full_row
  own-full = pack_same 32 _ _ (λ b l. ap (λ (p : Bool). ltb a rows && (p && eqb a b)) (ap (λ (y : ℕ). bit y b) e ∙ bit-pack 32 (λ c. ltb c columns) b l))

  other-full : other_row rows mask a ≡ full_row rows columns false a
  unfolding other_row full_row
  other-full = elim (lt_or_ge a rows) [
    | inl l ↦ rw (lt-ltb a rows l) (e ∙ pack_same 32 _ _ (λ b k. sym (and-true (ltb b columns))))
    | inr g ↦ rw (le-ltb a rows g) (pack_of 32 0 _ (pow_pos 32) (λ b l. bit_none b))
  ]

-- a cell of everything

pub cell_own : (rows columns : ℕ) {mask : ℕ} {s : List ℕ} → mask ≡ pack 32 (λ b. ltb b columns) → s ≡ tabulate readings_most (own_row rows mask) → s ≡ tabulate readings_most (full_row rows columns true)
cell_own rows columns {mask} e f = f ∙ tabulate_same readings_most (λ a. own-full rows columns mask e a)

pub cell_other : (rows columns : ℕ) {mask : ℕ} {s : List ℕ} → mask ≡ pack 32 (λ b. ltb b columns) → s ≡ tabulate readings_most (other_row rows mask) → s ≡ tabulate readings_most (full_row rows columns false)
cell_other rows columns {mask} e f = f ∙ tabulate_same readings_most (λ a. other-full rows columns mask e a)

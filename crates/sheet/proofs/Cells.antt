-- A cell lent on by itself comes back changed, and the rest of the table stays.
use mathlib.Core.Path.{◌≡◌, ap, ◌∙◌}
use mathlib.Core.Logic.{◌⊎◌, inl, inr}
use mathlib.Core.Bool.{Bool}
use mathlib.Core.List.{List}
use Prim.Native.Nat.{ℕ, ◌+◌, ◌-◌, ◌*◌, ◌≤◌, ◌<◌}
use native.Mathlib.Omega.{arith}
use lib.Dec.{eqb}
use lib.ListN.{length, get_or, take, drop}
use lib.Seq.{get_or-take, get_or-drop}
use borrow.Rule.Slice.PartMut.{mid_of, put_mid, mid_len}
use Rattle.theory.specs.Limits.{readings_most}
use Rattle.theory.specs.BoundLaws.{lt_or_ge}
use Rattle.words.specs.Word.{pack}
use Rattle.table.specs.Layout.{row, Sized, tabulate, words, size_of}
use Rattle.table.specs.LayoutLaws.{length-tabulate, get_or-tabulate, words_of}
use Rattle.table.specs.PartLaws.{put-long, row_there, row-elsewhere}
use Rattle.table.specs.Post.{Placed}
use Rattle.sheet.specs.Opening.{everything}
use Rattle.sheet.specs.Writing.{full_row, Earlier, OpenTo, narrowed_row, narrowed, days_at, CellNarrowed}

-- the part of a field's days
pub part-days : (days : List ℕ) (i size : ℕ) → take (i * readings_most + size - i * readings_most) (drop (i * readings_most) days) ≡ days_at days i size
unfolding days_at
part-days days i size = ap (λ (k : ℕ). take k (drop (i * readings_most) days)) {x = i * readings_most + size - i * readings_most} {y = size} (omega arith)

-- a cell narrowed

module _ (n : ℕ) (t : List ℕ) (i j : ℕ) {at : ℕ} (first second : List ℕ) (lo hi : ℕ) {s : List ℕ} (z : Sized n t) (hi' : i < n) (hj : j < n) (p : Placed n i j at) (e : s ≡ narrowed first second lo hi (mid_of at (at + readings_most - at) t)) where
  cell-end : at + readings_most ≤ length t
  cell-end = omega (arith, p.within, z.long)

  mid : length (mid_of at (at + readings_most - at) t) ≡ readings_most
  mid = mid_len at (at + readings_most) t cell-end ∙ omega arith

  long : length s ≡ at + readings_most - at
  unfolding narrowed
  long = ap length e ∙ length-tabulate _ _ ∙ mid_len at (at + readings_most) t cell-end

  in_cell : (a : ℕ) → a < readings_most → get_or s a 0 ≡ narrowed_row first second lo hi a (get_or t (at + a) 0)
  unfolding narrowed
  in_cell a h =
      ap (λ (l : List ℕ). get_or l a 0) e
      ∙ get_or-tabulate (length (mid_of at (at + readings_most - at) t)) _ a (rw mid h)
      ∙ ap (narrowed_row first second lo hi a) (get_or-take (at + readings_most - at) (drop at t) a 0 (omega arith) ∙ get_or-drop at t a 0)

  pub cell_narrowed : CellNarrowed n t i j first second lo hi (put_mid at (at + readings_most - at) t s)
  unfolding row
  cell_narrowed = record {
    long = put-long at (at + readings_most) t s (omega arith) cell-end long;
    there = λ a h. row_there n t i j at s z.long hj p long a h ∙ in_cell a h ∙ ap (λ (x : ℕ). narrowed_row first second lo hi a (get_or t (x + a) 0)) p.start;
    elsewhere = λ k l a hk hl ha d. row-elsewhere n t i j at s z.long hj p long k l a hl ha d;
  }

-- a table opened cell by cell

module _ {sizes t : List ℕ} {i j at : ℕ} (o : OpenTo sizes t i j) (hj : j < length sizes) (p : Placed (length sizes) i j at) {rows columns : ℕ} {same : Bool} (er : rows ≡ get_or sizes i 0) (ec : columns ≡ get_or sizes j 0) (es : same ≡ eqb i j) {s : List ℕ} (f : s ≡ tabulate readings_most (full_row rows columns same)) where
  long-open : length s ≡ at + readings_most - at
  long-open = ap length f ∙ length-tabulate _ _ ∙ omega arith

  here-open : (a : ℕ) → a < readings_most → row (length sizes) (put_mid at (at + readings_most - at) t s) i j a ≡ pack readings_most (everything sizes i j a)
  unfolding full_row everything size_of
  here-open a g =
      row_there (length sizes) t i j at s o.long hj p long-open a g
      ∙ ap (λ (l : List ℕ). get_or l a 0) f
      ∙ get_or-tabulate readings_most (full_row rows columns same) a g
      ∙ (rw (er, ec, es))

  earlier-open : (k l a : ℕ) → k < length sizes → l < length sizes → a < readings_most → Earlier k l i j → ((k ≡ i) × (l ≡ j) → ⊥) → row (length sizes) (put_mid at (at + readings_most - at) t s) k l a ≡ pack readings_most (everything sizes k l a)
  earlier-open k l a hk hl ha b d = row-elsewhere (length sizes) t i j at s o.long hj p long-open k l a hl ha d ∙ o.opened k l a hk hl ha b

  pub open_more : OpenTo sizes (put_mid at (at + readings_most - at) t s) i (j + 1)
  open_more = record {
    long = put-long at (at + readings_most) t s (omega arith) (omega (arith, o.long, p.within)) long-open ∙ o.long;
    upto = omega arith;
    opened = λ k l a hk hl ha b. go k l a hk hl ha b (lt_or_ge l j);
  }
    where
      go : (k l a : ℕ) → k < length sizes → l < length sizes → a < readings_most → Earlier k l i (j + 1) → (l < j) ⊎ (j ≤ l) → row (length sizes) (put_mid at (at + readings_most - at) t s) k l a ≡ pack readings_most (everything sizes k l a)
      go k l a hk hl ha (inl h) w = earlier-open k l a hk hl ha (inl h) (λ d. omega (arith, d.0))
      go k l a hk hl ha (inr h) (inl g) = earlier-open k l a hk hl ha (inr (h.0, g)) (λ d. omega (arith, d.1))
      go k l a hk hl ha (inr h) (inr g) = let e : l ≡ j = omega (arith, h.1) in rw (h.0, e) (here-open a ha)

pub open_all : {sizes t : List ℕ} {i : ℕ} → OpenTo sizes t i 0 → length sizes ≤ i → t ≡ words (length sizes) (everything sizes)
open_all {sizes} {t} {i} o h = words_of (length sizes) (everything sizes) t o.long (λ k l a hk hl ha. o.opened k l a hk hl ha (inl (omega arith)))

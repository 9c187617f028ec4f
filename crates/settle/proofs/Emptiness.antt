-- A settled table that holds no pair in cell (0, 0) holds none anywhere; a cell holds none when its words are 0.
use mathlib.Core.Path.{◌≡◌, sym, ap, ◌∙◌}
use mathlib.Core.Logic.{inl, inr}
use mathlib.Core.Bool.{Bool, true, false, not}
use mathlib.Core.List.{List}
use Prim.Native.Nat.{ℕ, ◌+◌, ◌<◌, zero-le}
use native.Mathlib.Nat.{pos_of_ne-zero}
use native.Mathlib.Omega.{arith}
use lib.Dec.{T}
use lib.ListN.{get_or, length}
use Rattle.std.specs.Bool.{MatchBool}
use Rattle.std.specs.List.{AllWithin, HoldsAt}
use Rattle.theory.specs.Bound.{first}
use Rattle.theory.specs.BoundLaws.{T_ext, not_i, not_e, known, first_holds}
use Rattle.theory.specs.Relation.{Rel, Settled}
use Rattle.theory.specs.Reading.{holds, empty}
use Rattle.theory.proofs.ReadingLaws.{holds_i, holds_e, filled_i, settled-filled}
use Rattle.words.specs.Word.{bit}
use Rattle.words.specs.WordLaws.{zero_no}
use Rattle.words.specs.EndLaws.{first_one}
use Rattle.table.specs.Layout.{cell_start, row, rel}
use Rattle.table.specs.LayoutLaws.{Fit, cell_bit, cell_row}
use Rattle.table.specs.Post.{CellWords}

-- a cell of which each word is 0, or some word is not
pub cell_told : {n : ℕ} {t : List ℕ} {i j : ℕ} {s : List ℕ} → CellWords n t i j s → Fit t
    → (r : Bool) → MatchBool r (AllWithin (λ w. w ≡ 0) s 0 (length s)) ((k : ℕ) × (k < length s) × HoldsAt (λ w. w ≡ 0 → ⊥) s k) → r ≡ not (holds (rel n t) i j)
cell_told {n} {t} {i} {j} {s} c fit true g = T_ext true (not (holds (rel n t) i j)) (λ _. not_i (holds (rel n t) i j) no) (λ _. tt)
  where
    no : T (holds (rel n t) i j) → ⊥
    no u =
        let (a, b, ha, hb, v) = holds_e (rel n t) i j u in
        zero_no b (rw (sym (ap (λ (x : List ℕ). get_or x a 0) c.words) ∙ g a 0 zero-le (omega (arith, c.long))) at (rw (sym (cell_bit n t i j a b ha hb)) at v))
cell_told {n} {t} {i} {j} {s} c fit false g =
    T_ext false (not (holds (rel n t) i j)) absurd
    (λ u. not_e (holds (rel n t) i j) u (holds_i (rel n t) i j g.0 b ha hb (rw (← cell_bit n t i j g.0 b ha hb, ← c.words) (first_holds 32 (bit (get_or s g.0 0)) hb))))
  where
    b : ℕ
    b = first 32 (bit (get_or s g.0 0))

    ha : g.0 < 32
    ha = omega (arith, c.long, g.1)

    hb : b < 32
    hb = first_one 32 (get_or s g.0 0) (pos_of_ne-zero (g.2 0)) (rw (c.words, cell_row n t i j g.0 ha) (unfold row in fit (cell_start n i j + g.0)))

-- cell (0, 0) stands for all
pub empty-first : (n : ℕ) (R : Rel) → 0 < n → Settled n R → not (holds R 0 0) ≡ empty n R
empty-first n R h s = T_ext (not (holds R 0 0)) (empty n R)
    (λ t. elim (known (empty n R)) [ inl e ↦ e | inr d ↦ absurd (not_e (holds R 0 0) t (settled-filled n R s d 0 0 h h)) ])
    (λ t. not_i (holds R 0 0) (λ u. not_e (empty n R) (filled_i n R 0 0 h h u) t))

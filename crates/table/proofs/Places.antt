-- Where a cell lies: the arithmetic of a table's places.
use mathlib.Core.Path.{◌≡◌, refl, ap, ◌∙◌}
use mathlib.Core.List.{List}
use Prim.Native.Nat.{ℕ, ◌+◌, ◌-◌, ◌*◌, ◌≤◌, ◌<◌}
use native.Mathlib.Nat.{mul-le-mul}
use native.Mathlib.Omega.{arith}
use lib.Arith.{digits_lt}
use lib.ListN.{length, get_or, take, drop}
use Rattle.theory.specs.Limits.{fields_most, readings_most}
use Rattle.table.specs.Layout.{cell_start, Sized, cell_of, row}
use Rattle.table.specs.LayoutLaws.{cell_long}
use Rattle.table.specs.Post.{Placed, CellWords}

pub square : {n : ℕ} → n ≤ fields_most → n * n ≤ 256
square h = mul-le-mul h h

pub placed : (n i j : ℕ) → n ≤ fields_most → i < n → j < n → Placed n i j (cell_start n i j)
placed n i j few hi hj =
    let s = square few in
    let d : i * n + j < n * n = digits_lt hi hj in
    record { start = refl; within = omega arith; small = omega arith }

pub row_is : (n : ℕ) (t : List ℕ) (i j a at : ℕ) → at ≡ cell_start n i j → get_or t (at + a) 0 ≡ row n t i j a
unfolding row
row_is n t i j a at e = ap (λ (x : ℕ). get_or t (x + a) 0) e

-- `&t[at..at + 32]`
pub cell_is : {n : ℕ} {t : List ℕ} {i j at : ℕ} → Sized n t → Placed n i j at → CellWords n t i j (take ((at + readings_most) - at) (drop at t))
unfolding cell_of
cell_is {n} {t} {i} {j} {at} z p = record { words = words; long = ap length words ∙ cell_long n t i j (omega (arith, p.start, p.within, z.long)) }
  where
    words : take ((at + readings_most) - at) (drop at t) ≡ cell_of n t i j
    words = let w : (at + 32) - at ≡ 32 = omega arith in rw (w, p.start)

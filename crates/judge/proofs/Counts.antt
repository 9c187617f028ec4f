-- Ones counted row by row are the readings kept, since a diagonal row has at most its own bit.
use mathlib.Core.Path.{◌≡◌, refl, sym, ap, subst, ◌∙◌}
use mathlib.Core.Bool.{Bool, true, false}
use mathlib.Core.List.{List}
use Prim.Native.Nat.{ℕ, zero, suc, ◌+◌, ◌^◌, ◌≤◌, ◌<◌}
use native.Mathlib.Nat.{le_antisymm}
use native.Mathlib.Numerals.{add-one}
use native.Mathlib.Omega.{arith}
use lib.Dec.{T}
use lib.ListN.{length, get_or, take}
use Rattle.std.specs.List.{sum_by}
use Rattle.std.proofs.lemmas.List.Sums.{sum_by_more}
use Rattle.std.proofs.lemmas.List.{take_all}
use Rattle.theory.specs.Limits.{readings_most}
use Rattle.theory.specs.Bound.{sum, val, count}
use Rattle.theory.specs.BoundLaws.{sum_same, sum_most, count_same, count_most, count_one, count_none, count_some}
use Rattle.theory.specs.Reading.{kept_count}
use Rattle.words.specs.Word.{bit}
use Rattle.table.specs.Layout.{rel}
use Rattle.table.specs.LayoutLaws.{cell_bit}
use Rattle.table.specs.Post.{CellWords}
use Rattle.table.specs.Shape.{GoodTable}

-- the ones of the words before place n, one by one
ones_to : (xs : List ℕ) (n : ℕ) → n ≤ length xs → sum_by (λ w. count 32 (bit w)) (take n xs) ≡ sum n (λ a. count 32 (bit (get_or xs a 0)))
unfolding sum
ones_to xs zero h = refl
ones_to xs (suc n) h =
    let e = ones_to xs n (omega arith) in
    let m = sum_by_more (λ w. count 32 (bit w)) xs n 0 (omega arith) in
    rw add-one at m ∙ ap (λ (k : ℕ). k + count 32 (bit (get_or xs n 0))) e

-- the ones of a cell's words, row by row
pub ones-rows : {n : ℕ} (cell : List ℕ) → length cell ≡ n → sum_by (λ w. count 32 (bit w)) cell ≡ sum n (λ a. count 32 (bit (get_or cell a 0)))
ones-rows {n} cell e =
    let t : take n cell ≡ cell = take_all n cell (omega arith) in
    ap (sum_by (λ w. count 32 (bit w))) (sym t) ∙ ones_to cell n (omega arith)

-- and they are not many
pub ones-small : (cell : List ℕ) → length cell ≡ readings_most → sum_by (λ w. count 32 (bit w)) cell < 2 ^ 32
ones-small cell e = omega (arith, ones-rows cell e, sum_most 32 32 (λ a. count 32 (bit (get_or cell a 0))) (λ a h. count_most 32 (bit (get_or cell a 0))))

-- a test that holds of k alone is counted by whether it holds of k
count_only : (n : ℕ) (p : ℕ → Bool) (k : ℕ) → k < n → ((i : ℕ) → i < n → T (p i) → i ≡ k) → count n p ≡ val (p k)
count_only n p k h f = go (p k) refl
  where
    go : (b : Bool) → p k ≡ b → count n p ≡ val b
    go true e = le_antisymm (count_one n p k f) (count_some n p k h (rw e tt))
    go false e = count_none n p (λ i l t. subst T (ap p (f i l t) ∙ e) t)

-- the ones of the cell (i, i) of a good table are the readings that field i keeps
pub ones-kept : (sizes t : List ℕ) (i : ℕ) {s : List ℕ} {k : ℕ} → GoodTable sizes t → i < length sizes → CellWords (length sizes) t i i s
    → k ≡ sum readings_most (λ a. count 32 (bit (get_or s a 0))) → k ≡ kept_count (rel (length sizes) t) i
unfolding count
ones-kept sizes t i {s} {k} g hi w e =
    e ∙ sum_same 32 (λ a. count 32 (bit (get_or s a 0))) (λ a. val (rel (length sizes) t i i a a))
    (λ a ha. count_same 32 (bit (get_or s a 0)) (rel (length sizes) t i i a) (λ b hb. ap (λ (x : List ℕ). bit (get_or x a 0) b) w.words ∙ cell_bit (length sizes) t i i a b ha hb)
    ∙ count_only 32 (rel (length sizes) t i i a) a ha (λ b hb x. sym (g.formed.same i a b hi x)))

-- The theorems of tables, each beside the sentence of 01 that it carries.
use Rattle.std.specs.Prelude.{◌≡◌, ◌↔◌, ◌⊎◌, List, [], ℕ, ◌<◌, length, Result}
use Rattle.std.proofs.Common.{sym, ◌∙◌}
use Rattle.theory.specs.Limits.{readings_most}
use Rattle.refusal.specs.Said.{Said, says}
use Rattle.refusal.specs.declared.Refusal.{Refusal}
use Rattle.table.specs.declared.layout.Row.{Row}
use Rattle.table.specs.Layout.{row_number, rel, words}
use Rattle.table.specs.LayoutLaws.{Fit, number-order, words-rel}
use Rattle.table.specs.Post.{Placed, CellWords, RowAt}
use Rattle.table.specs.CheckLaws.{passed}
use Rattle.table.specs.Shape.{after_sizes, after_shape, GoodSizes, GoodTable}
use Rattle.table.specs.ShapeLaws.{check-sizes, check_shape}
use Rattle.table.specs.Answers.{said_shaped}
use Rattle.table.specs.AnswerLaws.{shaped_determined}
use Rattle.table.specs.Strike.{Struck}

-- "a number is given exactly when its check is the first to fail": 1 to 6 pass exactly the sizes and tables that are good

pub sizes_pass_iff_good : (sizes : List ℕ) → (says 0 [] ≡ after_sizes sizes (says 0 [])) ↔ GoodSizes sizes
sizes_pass_iff_good sizes = (passed (check-sizes sizes), λ g. sym ((check-sizes sizes).passes g (says 0 [])))

pub shape_passes_iff_good : (sizes t : List ℕ) → (says 0 [] ≡ after_shape sizes t (says 0 [])) ↔ GoodTable sizes t
shape_passes_iff_good sizes t = (passed (check_shape sizes t), λ g. sym ((check_shape sizes t).passes g (says 0 [])))

-- what comes after 1 to 6 has the word on a good table
pub after_good_shape : (sizes t : List ℕ) → GoodTable sizes t → (rest : Said) → after_shape sizes t rest ≡ rest
after_good_shape sizes t = (check_shape sizes t).passes

-- "'Table order' is cell by cell in this layout, row by row within a cell"
pub table_order_is_by_i_then_j_then_a : (n i j a i' j' a' : ℕ) → j < n → a < readings_most → j' < n → a' < readings_most
    → (row_number n i j a < row_number n i' j' a') ↔ ((i < i') ⊎ ((i ≡ i') × ((j < j') ⊎ ((j ≡ j') × (a < a')))))
table_order_is_by_i_then_j_then_a = number-order

-- a good table holds no bit outside the relation that it stands for
pub good_table_is_its_words : (sizes t : List ℕ) → GoodTable sizes t → Fit t → words (length sizes) (rel (length sizes) t) ≡ t
good_table_is_its_words sizes t g f = words-rel (length sizes) t g.long f

-- "that two results satisfying the statement coincide"

pub sized_is_one : (sizes : List ℕ) (x y : Result Unit Refusal) → said_shaped x ≡ after_sizes sizes (says 0 []) → said_shaped y ≡ after_sizes sizes (says 0 []) → x ≡ y
sized_is_one sizes x y p q = shaped_determined x y (p ∙ sym q)

pub shape_is_one : (sizes t : List ℕ) (x y : Result Unit Refusal) → said_shaped x ≡ after_shape sizes t (says 0 []) → said_shaped y ≡ after_shape sizes t (says 0 []) → x ≡ y
shape_is_one sizes t x y p q = shaped_determined x y (p ∙ sym q)

pub cell_start_is_one : (n i j r s : ℕ) → Placed n i j r → Placed n i j s → r ≡ s
cell_start_is_one n i j r s p q = p.start ∙ sym q.start

pub cell_is_one : (n : ℕ) (t : List ℕ) (i j : ℕ) (u v : List ℕ) → CellWords n t i j u → CellWords n t i j v → u ≡ v
cell_is_one n t i j u v p q = p.words ∙ sym q.words

pub row_at_is_one : (n k : ℕ) (r s : Row) → RowAt n k r → RowAt n k s → r ≡ s
row_at_is_one n k r s p q = p.is ∙ sym q.is

pub strike_is_one : (n : ℕ) (t : List ℕ) (i j a b : ℕ) (u v : List ℕ) → Struck n t i j a b u → Struck n t i j a b v → u ≡ v
strike_is_one n t i j a b u v p q = p.words ∙ sym q.words

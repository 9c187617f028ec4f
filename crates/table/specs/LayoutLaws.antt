-- Words and the relation they stand for undo each other; rows and their numbers correspond one to one.
use Rattle.std.specs.Prelude.{◌≡◌, refl, ◌↔◌, ◌⊎◌, ◌&&◌, List, ℕ, zero, suc, ◌+◌, ◌*◌, ◌/◌, ◌%◌, ◌^◌, ◌≤◌, ◌<◌, T, ltb, length, get_or, drop}
use Rattle.std.proofs.Math.Path.{sym}
use Rattle.std.proofs.Common.{ap, ◌∙◌, subst, inl, inr, le_antisymm, zero-mul, mul-le-mul_right, eq-zero-or-pos, not-suc-le-zero, div-lt_iff_lt-mul, mod-lt, div-add-mod', add-mul, arith, ltb→lt, pow_pos, length-drop, length-take-le, get_or-take, get_or-drop, ext_get_or, lt-ltb}
use Rattle.std.proofs.Math.Arith.{digits_lt, digits_div, digits_mod}
use Rattle.std.proofs.Math.ListN.{get_or-eq_default}
use Rattle.theory.specs.Limits.{readings_most}
use Rattle.theory.specs.BoundLaws.{and_l, and_r, T_ext, lt_or_ge}
use Rattle.theory.specs.Relation.{Rel, Agree}
use Rattle.words.specs.Word.{bit, pack}
use Rattle.words.specs.WordLaws.{bit-pack, pack-lt, pack_of, pack_same}
use Rattle.table.specs.declared.layout.Row.{Row}
use Rattle.table.specs.Layout.{table_length, cell_start, RowIn, cell_of, row, rel, table_rows, table_row, search_row, row_number, tabulate, word_of, words}

-- lists

pub length-tabulate : (k : ℕ) (f : ℕ → ℕ) → length (tabulate k f) ≡ k
unfolding tabulate
length-tabulate zero f = refl
length-tabulate (suc k) f = ap suc (length-tabulate k (λ p. f (suc p)))

pub get_or-tabulate : (k : ℕ) (f : ℕ → ℕ) (p : ℕ) → p < k → get_or (tabulate k f) p 0 ≡ f p
unfolding tabulate
get_or-tabulate zero f p h = absurd (not-suc-le-zero h)
get_or-tabulate (suc k) f zero h = refl
get_or-tabulate (suc k) f (suc p) h = get_or-tabulate k (λ q. f (suc q)) p (omega arith)

-- a list is the one that has its elements
pub tabulate_of : (k : ℕ) (f : ℕ → ℕ) (l : List ℕ) → length l ≡ k → ((p : ℕ) → p < k → get_or l p 0 ≡ f p) → l ≡ tabulate k f
tabulate_of k f l e h = ext_get_or 0 l (tabulate k f) (e ∙ sym (length-tabulate k f)) (λ p lt. h p (rw e at lt) ∙ sym (get_or-tabulate k f p (rw e at lt)))

-- rows and their numbers

pub row_in : (n p : ℕ) → p < table_rows n → RowIn n (table_row n p)
unfolding table_row
row_in n p h = go (eq-zero-or-pos n)
  where
    go : (n ≡ 0) ⊎ (0 < n) → RowIn n (table_row n p)
    go (inl e) = absurd (not-suc-le-zero (subst (λ (x : ℕ). p < x * readings_most) (zero-mul n) (subst (λ (x : ℕ). p < x * n * readings_most) e h)))
    go (inr z) = record { first = (div-lt_iff_lt-mul z).1 (omega arith); second = mod-lt (p / 32) z; reading = omega arith }

pub number_in : (n i j a : ℕ) → i < n → j < n → a < readings_most → row_number n i j a < table_rows n
number_in n i j a hi hj ha = digits_lt (digits_lt hi hj) ha

pub row_of_number : (n i j a : ℕ) → j < n → a < readings_most → table_row n (row_number n i j a) ≡ record { i = i; j = j; a = a }
unfolding table_row
row_of_number n i j a hj ha =
    let cell : row_number n i j a / 32 ≡ i * n + j = digits_div (i * n + j) ha in
    λ x. record {
      i = (ap (λ (y : ℕ). y / n) cell ∙ digits_div i hj) x;
      j = (ap (λ (y : ℕ). y % n) cell ∙ digits_mod i hj) x;
      a = digits_mod (i * n + j) ha x;
    }

-- rows of one number are one row
pub number_same : (n i j a i' j' a' : ℕ) → j < n → a < readings_most → j' < n → a' < readings_most → row_number n i j a ≡ row_number n i' j' a' → (i ≡ i') × (j ≡ j') × (a ≡ a')
number_same n i j a i' j' a' hj ha hj' ha' e =
    let r = sym (row_of_number n i j a hj ha) ∙ ap (table_row n) e ∙ row_of_number n i' j' a' hj' ha' in
    (ap (λ (x : Row). x.i) r, ap (λ (x : Row). x.j) r, ap (λ (x : Row). x.a) r)

pub number_of_row : (n p : ℕ) → row_number n (table_row n p).i (table_row n p).j (table_row n p).a ≡ p
unfolding table_row
number_of_row n p = ap (λ (x : ℕ). x * 32 + p % 32) (div-add-mod' (p / 32) n) ∙ div-add-mod' p 32

-- a table that has a row has a field
pub some_field : (n p : ℕ) → p < table_rows n → 0 < n
some_field n p h = omega (arith, (row_in n p h).first)

-- the rows of a cell follow one another
pub row_along : (n p a : ℕ) → p % readings_most ≡ 0 → a < readings_most → table_row n (p + a) ≡ record { i = (table_row n p).i; j = (table_row n p).j; a = a }
unfolding table_row
row_along n p a e h =
    let cell : (p + a) / 32 ≡ p / 32 = omega arith in
    let last : (p + a) % 32 ≡ a = omega arith in
    λ x. record { i = cell x / n; j = cell x % n; a = last x }

-- table order goes by i, then j, then a
pub number_by_field : (n i j a i' j' a' : ℕ) → j < n → a < readings_most → i < i' → row_number n i j a < row_number n i' j' a'
number_by_field n i j a i' j' a' hj ha h =
    let s : i * n + n ≤ i' * n = subst (λ (x : ℕ). x ≤ i' * n) (add-mul i 1 n ∙ ap (λ (x : ℕ). i * n + x) (omega arith)) (mul-le-mul_right n (omega arith)) in
    omega arith

pub number_by_second : (n i j a j' a' : ℕ) → a < readings_most → j < j' → row_number n i j a < row_number n i j' a'
number_by_second n i j a j' a' ha h = omega arith

-- so a row has the lower number exactly when it comes first by i, then j, then a
pub number-order : (n i j a i' j' a' : ℕ) → j < n → a < readings_most → j' < n → a' < readings_most
    → (row_number n i j a < row_number n i' j' a') ↔ ((i < i') ⊎ ((i ≡ i') × ((j < j') ⊎ ((j ≡ j') × (a < a')))))
number-order n i j a i' j' a' hj ha hj' ha' = (λ h. to h (lt_or_ge i i') (lt_or_ge i' i) (lt_or_ge j j') (lt_or_ge j' j), from)
  where
    to : row_number n i j a < row_number n i' j' a' → (i < i') ⊎ (i' ≤ i) → (i' < i) ⊎ (i ≤ i') → (j < j') ⊎ (j' ≤ j) → (j' < j) ⊎ (j ≤ j') → (i < i') ⊎ ((i ≡ i') × ((j < j') ⊎ ((j ≡ j') × (a < a'))))
    to h (inl l) _ _ _ = inl l
    to h (inr g) (inl l) _ _ = absurd (omega (arith, number_by_field n i' j' a' i j a hj' ha' l))
    to h (inr g) (inr g') (inl l) _ = inr (le_antisymm g' g, inl l)
    to h (inr g) (inr g') (inr k) (inl l) =
        let e : i' * n ≡ i * n = ap (λ (x : ℕ). x * n) (le_antisymm g g') in
        absurd (omega (arith, e, number_by_second n i j' a' j a ha' l))
    to h (inr g) (inr g') (inr k) (inr k') =
        let e : i' * n ≡ i * n = ap (λ (x : ℕ). x * n) (le_antisymm g g') in
        inr (le_antisymm g' g, inr (le_antisymm k' k, omega (arith, e)))

    from : (i < i') ⊎ ((i ≡ i') × ((j < j') ⊎ ((j ≡ j') × (a < a')))) → row_number n i j a < row_number n i' j' a'
    from (inl l) = number_by_field n i j a i' j' a' hj ha l
    from (inr (e, inl l)) = let q : i * n ≡ i' * n = ap (λ (x : ℕ). x * n) e in omega (arith, q)
    from (inr (e, inr d)) = let q : i * n ≡ i' * n = ap (λ (x : ℕ). x * n) e in omega (arith, q)

-- the search for a broken row goes in table order
pub search_is_table : (n p : ℕ) → search_row n p ≡ table_row n p
unfolding search_row table_row
search_is_table n p = refl

-- words and relation

pub cell_long : (n : ℕ) (t : List ℕ) (i j : ℕ) → cell_start n i j + readings_most ≤ length t → length (cell_of n t i j) ≡ readings_most
unfolding cell_of
cell_long n t i j h = length-take-le 32 (drop (cell_start n i j) t) (omega (arith, length-drop (cell_start n i j) t))

-- word a of cell (i, j) is its row a
pub cell_row : (n : ℕ) (t : List ℕ) (i j a : ℕ) → a < readings_most → get_or (cell_of n t i j) a 0 ≡ row n t i j a
unfolding cell_of row
cell_row n t i j a h = get_or-take 32 (drop (cell_start n i j) t) a 0 h ∙ get_or-drop (cell_start n i j) t a 0

-- bit b of row a
pub rel-bit : (n : ℕ) (t : List ℕ) (i j a b : ℕ) → a < readings_most → b < readings_most → rel n t i j a b ≡ bit (row n t i j a) b
unfolding rel
rel-bit n t i j a b ha hb = rw (lt-ltb a 32 ha, lt-ltb b 32 hb)

pub cell_bit : (n : ℕ) (t : List ℕ) (i j a b : ℕ) → a < readings_most → b < readings_most → bit (get_or (cell_of n t i j) a 0) b ≡ rel n t i j a b
cell_bit n t i j a b ha hb = ap (λ (w : ℕ). bit w b) (cell_row n t i j a ha) ∙ sym (rel-bit n t i j a b ha hb)

-- R holds of readings below 32 only
abbrev pub Narrow : ℕ → Rel → Type 0
Narrow n R = (i j a b : ℕ) → i < n → j < n → T (R i j a b) → (a < readings_most) × (b < readings_most)

pub rel-narrow : (n : ℕ) (t : List ℕ) (i j a b : ℕ) → T (rel n t i j a b) → (a < readings_most) × (b < readings_most)
unfolding rel
rel-narrow n t i j a b h =
    let s : T (ltb b 32 && bit (row n t i j a) b) = and_r (ltb a 32) (ltb b 32 && bit (row n t i j a) b) h in
    (ltb→lt a 32 (and_l (ltb a 32) (ltb b 32 && bit (row n t i j a) b) h), ltb→lt b 32 (and_l (ltb b 32) (bit (row n t i j a) b) s))

-- every word has 32 bits
abbrev pub Fit : List ℕ → Type 0
Fit t = (p : ℕ) → get_or t p 0 < 2 ^ 32

-- a row is the word of its bits
pub row-pack : (n : ℕ) (t : List ℕ) → Fit t → (i j a : ℕ) → a < readings_most → row n t i j a ≡ pack readings_most (rel n t i j a)
row-pack n t f i j a h = pack_of 32 (row n t i j a) (rel n t i j a) (unfold row in f (cell_start n i j + a)) (λ b l. sym (rel-bit n t i j a b h l))

pub length-words : (n : ℕ) (R : Rel) → length (words n R) ≡ table_length n
unfolding words
length-words n R = length-tabulate (table_length n) (λ p. word_of R (table_row n p))

pub words_at : (n : ℕ) (R : Rel) (p : ℕ) → p < table_length n → get_or (words n R) p 0 ≡ word_of R (table_row n p)
unfolding words
words_at n R p h = get_or-tabulate (table_length n) (λ q. word_of R (table_row n q)) p h

pub words_fit_lem : (n : ℕ) (R : Rel) → Fit (words n R)
words_fit_lem n R p = elim (lt_or_ge p (table_length n)) [
  | inl l ↦ rw (words_at n R p l) (pack-lt 32 (R (table_row n p).i (table_row n p).j (table_row n p).a))
  | inr g ↦ rw (get_or-eq_default (words n R) 0 {n = p} (rw length-words g)) (pow_pos 32)
]

pub row_words : (n : ℕ) (R : Rel) (i j a : ℕ) → i < n → j < n → a < readings_most → row n (words n R) i j a ≡ pack readings_most (R i j a)
unfolding row
row_words n R i j a hi hj ha =
    words_at n R (row_number n i j a) (number_in n i j a hi hj ha) ∙ ap (word_of R) (row_of_number n i j a hj ha)

-- the words of R stand for R
pub rel-words : (n : ℕ) (R : Rel) → Narrow n R → Agree n (rel n (words n R)) R
rel-words n R f i j a b hi hj =
    T_ext (rel n (words n R) i j a b) (R i j a b)
    (λ t. let l = rel-narrow n (words n R) i j a b t in rw (read l) at t)
    (λ t. let l = f i j a b hi hj t in rw (read l) t)
  where
    read : (a < readings_most) × (b < readings_most) → rel n (words n R) i j a b ≡ R i j a b
    read l = rel-bit n (words n R) i j a b l.0 l.1 ∙ ap (λ (w : ℕ). bit w b) (row_words n R i j a hi hj l.0) ∙ bit-pack 32 (R i j a) b l.1

-- a list of a table's length is the words of R where its rows are R's
pub words_of : (n : ℕ) (R : Rel) (t : List ℕ) → length t ≡ table_length n → ((i j a : ℕ) → i < n → j < n → a < readings_most → row n t i j a ≡ pack readings_most (R i j a)) → t ≡ words n R
unfolding words row
words_of n R t e h = tabulate_of (table_length n) (λ p. word_of R (table_row n p)) t e (λ p l. let r = row_in n p l in ap (λ (x : ℕ). get_or t x 0) (sym (number_of_row n p)) ∙ h (table_row n p).i (table_row n p).j (table_row n p).a r.first r.second r.reading)

-- a table is the words of what it stands for
pub words-rel : (n : ℕ) (t : List ℕ) → length t ≡ table_length n → Fit t → words n (rel n t) ≡ t
words-rel n t e f = sym (words_of n (rel n t) t e (λ i j a hi hj. row-pack n t f i j a))

-- relations that allow the same have the same words
pub words_same : (n : ℕ) (R S : Rel) → Agree n R S → words n R ≡ words n S
words_same n R S e = words_of n S (words n R) (length-words n R) (λ i j a hi hj ha. row_words n R i j a hi hj ha ∙ pack_same 32 (R i j a) (S i j a) (λ b l. e i j a b hi hj))

-- tables that stand for the same are the same
pub table_same : (n : ℕ) (t u : List ℕ) → length t ≡ table_length n → length u ≡ table_length n → Fit t → Fit u → Agree n (rel n t) (rel n u) → t ≡ u
table_same n t u e f ft fu s = sym (words-rel n t e ft) ∙ words_same n (rel n t) (rel n u) s ∙ words-rel n u f fu

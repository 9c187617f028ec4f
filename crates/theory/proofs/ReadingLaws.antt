-- Full readings outlive every sound reduction; a settled relation holds a pair in every cell or none anywhere; pairs are counted.
use Rattle.std.specs.Prelude.{◌≡◌, refl, ◌↔◌, not, ◌&&◌, ℕ, zero, suc, ◌+◌, ◌-◌, ◌*◌, ◌≤◌, ◌<◌, T, eqb}
use Rattle.std.proofs.Common.{mul-le-mul, arith, eqb→eq}
use Rattle.std.proofs.Math.Dec.{eqb_refl}
use Rattle.theory.specs.Limits.{fields_most, readings_most, rounds_most}
use Rattle.theory.specs.Bound.{all, any, sum, count}
use Rattle.theory.specs.BoundLaws.{and_i, and_l, and_r, not_i, not_e, not-not, all_i, all_e, all-not, any_i, any_e, sum-le, sum_lt, sum_last, sum_most, count-le, count-lt, count_most, count_one}
use Rattle.theory.specs.Relation.{Rel, WellFormed, Within, Settled, Sound}
use Rattle.theory.proofs.RelationLaws.{pair_small, pair_kept, composed_i, composed_e}
use Rattle.theory.specs.Reading.{Full, kept, holds, empty, pairs, pairs_most}

-- full readings

pub full-inside : {n : ℕ} {size : ℕ → ℕ} {R : Rel} → WellFormed n size R → (x : ℕ → ℕ) → Full n R x → (i : ℕ) → i < n → x i < size i
full-inside w x f i hi = (w.inside i i (x i) (x i) hi hi (f i i hi hi)).0

-- the pairs of one reading of every field
pairs_of : (ℕ → ℕ) → Rel
pairs_of x i j a b = eqb a (x i) && eqb b (x j)

pairs_of_i : (x : ℕ → ℕ) (i j : ℕ) → T (pairs_of x i j (x i) (x j))
unfolding pairs_of
pairs_of_i x i j = and_i (eqb (x i) (x i)) _ (eqb_refl (x i)) (eqb_refl (x j))

pairs_of_e : (x : ℕ → ℕ) (i j a b : ℕ) → T (pairs_of x i j a b) → (a ≡ x i) × (b ≡ x j)
unfolding pairs_of
pairs_of_e x i j a b t = (eqb→eq a (x i) (and_l (eqb a (x i)) _ t), eqb→eq b (x j) (and_r (eqb a (x i)) _ t))

-- the pairs of a full reading are settled, so no sound reduction loses them
pub sound_full : {n : ℕ} {size : ℕ → ℕ} {R Q : Rel} → WellFormed n size R → Sound n R Q → (x : ℕ → ℕ) → Full n R x ↔ Full n Q x
sound_full {n} {size} {R} {Q} w s x = (λ f i j hi hj. s.keeps (pairs_of x) (settled f) (within f) i j (x i) (x j) hi hj (pairs_of_i x i j), λ f i j hi hj. s.within i j (x i) (x j) hi hj (f i j hi hj))
  where
    settled : Full n R x → Settled n (pairs_of x)
    settled f i k j a b hi hk hj t =
        let e = pairs_of_e x i j a b t in
        rw (e.0, e.1) (composed_i (pairs_of x) i k j (x i) (x j) (x k) (pair_small w k k (x k) (x k) hk hk (f k k hk hk)).0 (pairs_of_i x i k) (pairs_of_i x k j))

    within : Full n R x → Within n (pairs_of x) R
    within f i j a b hi hj t = let e = pairs_of_e x i j a b t in rw (e.0, e.1) (f i j hi hj)

-- holds and empty

pub holds_i : (R : Rel) (i j a b : ℕ) → a < readings_most → b < readings_most → T (R i j a b) → T (holds R i j)
unfolding holds
holds_i R i j a b ha hb t = any_i readings_most _ a ha (any_i readings_most (R i j a) b hb t)

pub holds_e : (R : Rel) (i j : ℕ) → T (holds R i j) → (a : ℕ) × (b : ℕ) × (a < readings_most) × (b < readings_most) × T (R i j a b)
unfolding holds
holds_e R i j t =
    let v = any_e readings_most (λ a. any readings_most (R i j a)) t in
    let w = any_e readings_most (R i j v.0) v.2 in
    (v.0, w.0, v.1, w.1, w.2)

pub empty_i : (n : ℕ) (R : Rel) → ((i j a b : ℕ) → i < n → j < n → T (R i j a b) → ⊥) → T (empty n R)
unfolding empty
empty_i n R f = all_i n _ (λ i hi. all_i n _ (λ j hj. not_i (holds R i j) (λ t. let h = holds_e R i j t in f i j h.0 h.1 hi hj h.4)))

pub empty_e : {n : ℕ} {size : ℕ → ℕ} {R : Rel} → WellFormed n size R → T (empty n R) → (i j a b : ℕ) → i < n → j < n → T (R i j a b) → ⊥
unfolding empty
empty_e {n} {size} {R} w e i j a b hi hj t =
    let s = pair_small w i j a b hi hj t in
    not_e (holds R i j) (all_e n (λ k. not (holds R i k)) (all_e n _ e i hi) j hj) (holds_i R i j a b s.0 s.1 t)

-- a table that is not empty has a pair somewhere
pub filled_e : (n : ℕ) (R : Rel) → T (not (empty n R)) → (i : ℕ) × (j : ℕ) × (i < n) × (j < n) × T (holds R i j)
unfolding empty
filled_e n R d =
    let v = all-not n (λ i. all n (λ j. not (holds R i j))) d in
    let w = all-not n (λ j. not (holds R v.0 j)) v.2 in
    (v.0, w.0, v.1, w.1, not-not (holds R v.0 w.0) w.2)

pub filled_i : (n : ℕ) (R : Rel) (i j : ℕ) → i < n → j < n → T (holds R i j) → T (not (empty n R))
unfolding empty
filled_i n R i j hi hj t = not_i (all n _) (λ e. not_e (holds R i j) (all_e n (λ k. not (holds R i k)) (all_e n _ e i hi) j hj) t)

-- a settled table with a pair in one cell has one in every cell
pub settled-holds : (n : ℕ) (R : Rel) → Settled n R → (i j : ℕ) → i < n → j < n → T (holds R i j) → (k l : ℕ) → k < n → l < n → T (holds R k l)
settled-holds n R s i j hi hj t k l hk hl =
    let h = holds_e R i j t in
    let c = composed_e R i k j h.0 h.1 (s i k j h.0 h.1 hi hk hj h.4) in
    let d = composed_e R k l j c.0 h.1 (s k l j c.0 h.1 hk hl hj c.3) in
    holds_i R k l c.0 d.0 c.1 d.1 d.2

pub settled-filled : (n : ℕ) (R : Rel) → Settled n R → T (not (empty n R)) → (k l : ℕ) → k < n → l < n → T (holds R k l)
settled-filled n R s d = let f = filled_e n R d in settled-holds n R s f.0 f.1 f.2 f.3 f.4

-- and every field keeps a reading
pub settled-kept : {n : ℕ} {size : ℕ → ℕ} {R : Rel} → WellFormed n size R → Settled n R → T (not (empty n R)) → (i : ℕ) → i < n → (a : ℕ) × T (kept R i a)
settled-kept {n} {size} {R} w s d i hi = let h = holds_e R i i (settled-filled n R s d i i hi hi) in (h.1, pair_kept w i h.0 h.1 hi h.4)

-- the number of pairs

pub pairs-le : (n : ℕ) (R S : Rel) → Within n S R → pairs n S ≤ pairs n R
unfolding pairs
pairs-le n R S w = sum-le n _ _ (λ j hj. sum-le (suc j) _ _ (λ i hi. sum-le readings_most _ _ (λ a ha. count-le readings_most (S i j a) (R i j a) (λ b hb. w i j a b (omega arith) hj))))

-- a pair less on or above the diagonal
pub pairs_lt : (n : ℕ) (R S : Rel) → Within n S R → (i j a b : ℕ) → i ≤ j → j < n → a < readings_most → b < readings_most → T (R i j a b) → T (not (S i j a b)) → pairs n S < pairs n R
unfolding pairs
pairs_lt n R S w i j a b h hj ha hb t d =
    sum_lt n _ _ (λ j' hj'. sum-le (suc j') _ _ (λ i' hi'. cell i' j' (omega arith) hj')) j hj
    (sum_lt (suc j) _ _ (λ i' hi'. cell i' j (omega arith) hj) i (omega arith)
    (sum_lt readings_most _ _ (λ a' ha'. row i j a' (omega arith) hj) a ha
    (count-lt readings_most (S i j a) (R i j a) (λ b' hb'. w i j a b' (omega arith) hj) b hb d t)))
  where
    row : (k l c : ℕ) → k < n → l < n → count readings_most (S k l c) ≤ count readings_most (R k l c)
    row k l c hk hl = count-le readings_most (S k l c) (R k l c) (λ b' hb'. w k l c b' hk hl)

    cell : (k l : ℕ) → k < n → l < n → sum readings_most (λ c. count readings_most (S k l c)) ≤ sum readings_most (λ c. count readings_most (R k l c))
    cell k l hk hl = sum-le readings_most _ _ (λ c hc. row k l c hk hl)

-- one more field has a cell with each before it
cells_more : (n : ℕ) → suc n * (suc n - 1) ≡ n * (n - 1) + 2 * n
cells_more zero = refl
cells_more (suc m) = let e : suc (suc m) - 1 ≡ suc m = omega arith in let d : suc m - 1 ≡ m = omega arith in rw (e, d) (omega arith)

-- a column of cells grows by 32 times 32 a field
column_most : (n : ℕ) (f : ℕ → ℕ) → ((j : ℕ) → j < n → f j ≤ j * 1024 + 32) → sum n f ≤ pairs_most n
unfolding sum
column_most zero f h = omega arith
column_most (suc n) f h = omega (arith, column_most n f (λ j l. h j (omega arith)), h n (omega arith), cells_more n)

-- a diagonal cell has one pair a row at most, any other 32
pub pairs_most_lem : {n : ℕ} {size : ℕ → ℕ} {R : Rel} → WellFormed n size R → pairs n R ≤ pairs_most n
unfolding pairs
pairs_most_lem {n} {size} {R} w = column_most n (λ j. sum (suc j) (cell j)) column
  where
    cell : ℕ → ℕ → ℕ
    cell j i = sum readings_most (λ a. count readings_most (R i j a))

    column : (j : ℕ) → j < n → sum (suc j) (cell j) ≤ j * 1024 + 32
    column j hj = omega (
      arith,
      sum_last j (cell j),
      sum_most j 1024 (cell j) (λ i hi. sum_most readings_most 32 (λ a. count readings_most (R i j a)) (λ a ha. count_most readings_most (R i j a))),
      sum_most readings_most 1 (λ a. count readings_most (R j j a)) (λ a ha. count_one readings_most (R j j a) a (λ b hb t. omega (arith, w.same j a b hj t))),
    )

pub pairs_most_limit : (n : ℕ) → n ≤ fields_most → pairs_most n ≤ rounds_most
pairs_most_limit n h = let l : n - 1 ≤ fields_most - 1 = omega arith in omega (arith, mul-le-mul h l)

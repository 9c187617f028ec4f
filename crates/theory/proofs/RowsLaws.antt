-- Rows lie inside what stands, and what the test of a whole row means. Only the first two laws look into `stands`.
use Rattle.std.specs.Prelude.{◌≡◌, refl, Bool, not, ◌&&◌, ◌||◌, ℕ, ◌<◌, T}
use Rattle.std.proofs.Common.{lt→ltb}
use Rattle.theory.specs.Limits.{readings_most}
use Rattle.theory.specs.Bound.{all}
use Rattle.theory.specs.BoundLaws.{and_i, and_l, and_r, imp_by, imp_use, all_i, all_e}
use Rattle.theory.specs.Relation.{Rel, WellFormed, Agree, Settled}
use Rattle.theory.proofs.RelationLaws.{pair_small}
use Rattle.theory.specs.Rows.{stands, Whole, whole, WholeRows}

-- in a settled table every reading that goes with some other stands
pub stands-inside : {n : ℕ} {size : ℕ → ℕ} {R : Rel} → WellFormed n size R → Settled n R → (i j a b : ℕ) → i < n → j < n → T (R i j a b) → T (stands size R j b)
unfolding stands
stands-inside {size = size} w s i j a b hi hj t = lt→ltb b (size j) (w.inside i j a b hi hj t).1

-- what stands is the same in relations that allow the same
pub stands_agree : (n : ℕ) (R S : Rel) → Agree n R S → (size : ℕ → ℕ) (j b : ℕ) → j < n → stands size R j b ≡ stands size S j b
unfolding stands
stands_agree n R S e size j b hj = refl

-- the test of one row

pub whole_i : (stand p : ℕ → Bool) → Whole stand p → T (whole stand p)
unfolding whole
whole_i stand p f = all_i readings_most _ (λ b2 l. all_i b2 _ (λ b k. all_i b _ (λ b1 h. imp_by (p b1 && (p b2 && stand b)) _ (λ t.
    let u = and_r (p b1) (p b2 && stand b) t in
    let one : T (p b1) = and_l (p b1) (p b2 && stand b) t in
    let between : T (p b) = f b1 b b2 h k one (and_l (p b2) (stand b) u) (and_r (p b2) (stand b) u) in
    search (one, between)))))

pub whole_e : (stand p : ℕ → Bool) → ((b : ℕ) → T (p b) → b < readings_most) → T (whole stand p) → Whole stand p
unfolding whole
whole_e stand p small t b1 b b2 h k s1 s2 st =
    imp_use (p b1 && (p b2 && stand b)) (p b)
    (all_e b (λ c1. not (p c1 && (p b2 && stand b)) || p b) (all_e b2 (λ c. all c (λ c1. not (p c1 && (p b2 && stand c)) || p c)) (all_e readings_most _ t b2 (small b2 s2)) b k) b1 h)
    (and_i (p b1) _ s1 (and_i (p b2) (stand b) s2 st))

-- the rows of a well_formed table are whole where the test says so of the rows below 32

pub whole_rows_i : (n : ℕ) (size : ℕ → ℕ) (R : Rel) → WholeRows n size R → (i j a : ℕ) → i < n → j < n → T (whole (stands size R j) (R i j a))
whole_rows_i n size R f i j a hi hj = whole_i (stands size R j) (R i j a) (f i j a hi hj)

pub whole_rows_e : {n : ℕ} {size : ℕ → ℕ} {R : Rel} → WellFormed n size R → ((i j a : ℕ) → i < n → j < n → a < readings_most → T (whole (stands size R j) (R i j a))) → WholeRows n size R
whole_rows_e {n} {size} {R} w f i j a hi hj b1 b b2 h k s1 = whole_e (stands size R j) (R i j a) (λ c t. (pair_small w i j a c hi hj t).1) (f i j a hi hj (pair_small w i j a b1 hi hj s1).0) b1 b b2 h k s1

-- Cases C2 and C4 of 01, computed from the definitions.
use Rattle.std.specs.Prelude.{◌≡◌, refl, ◌≢◌, Bool, true, false, cond, not, ◌&&◌, ◌||◌, ℕ, ◌+◌, ◌≤◌, ◌<◌, T, eqb, ltb, leb}
use Rattle.std.proofs.Common.{sym, le_refl, eqb→eq, ltb→lt, lt→ltb, lit<}
use native.Mathlib.Omega.{arith}
use Rattle.std.proofs.Math.Dec.{eqb_refl}
use Rattle.theory.specs.Limits.{readings_most}
use Rattle.theory.specs.Bound.{all, any, sum, count}
use Rattle.theory.specs.BoundLaws.{and_i, and_l, and_r, not_e, imp_use, T_ext, all_e, all4_e}
use Rattle.theory.specs.Relation.{Rel, WellFormed, composed, Settled, round, rounds}
use Rattle.theory.specs.Reading.{Full, kept, kept_count, empty}
use Rattle.theory.proofs.ReadingLaws.{holds_i, filled_i}
use Rattle.theory.specs.Rows.{stands, whole}
use Rattle.theory.specs.Settling.{steps}
use Rattle.theory.proofs.RelationLaws.{settled_unchanged, unchanged_settled, rounds_wf}
use Rattle.theory.proofs.Theorems.{settled_iff_enough, steps_are_least}

-- R among k readings a field
below : ℕ → Rel → Rel
below k R i j a b = ltb a k && (ltb b k && R i j a b)

-- R allows a reading of a field with no other of it, and what it allows the mirror image too
formed : ℕ → ℕ → Rel → Bool
formed n k R = all n (λ i. all n (λ j. all k (λ a. all k (λ b. not (R i j a b) || (R j i b a && (not (eqb i j) || eqb a b))))))

-- every pair is in every composition
linked : ℕ → ℕ → Rel → Bool
linked n k R = all n (λ m. all n (λ i. all n (λ j. all k (λ a. all k (λ b. not (R i j a b) || composed R i m j a b)))))

below_e : (k : ℕ) (R : Rel) (i j a b : ℕ) → T (below k R i j a b) → (a < k) × (b < k) × T (R i j a b)
unfolding below
below_e k R i j a b t =
    let u = and_r (ltb a k) _ t in
    (ltb→lt a k (and_l (ltb a k) _ t), ltb→lt b k (and_l (ltb b k) (R i j a b) u), and_r (ltb b k) (R i j a b) u)

below_i : (k : ℕ) (R : Rel) (i j a b : ℕ) → a < k → b < k → T (R i j a b) → T (below k R i j a b)
unfolding below
below_i k R i j a b ha hb t = and_i (ltb a k) _ (lt→ltb a k ha) (and_i (ltb b k) (R i j a b) (lt→ltb b k hb) t)

below-formed : (n k : ℕ) (R : Rel) → k ≤ readings_most → T (formed n k R) → WellFormed n (λ f. k) (below k R)
unfolding formed
below-formed n k R small t = record {
  small = λ i hi. small;
  inside = λ i j a b hi hj s. let e = below_e k R i j a b s in (e.0, e.1);
  same = λ i a b hi s.
      let e = below_e k R i i a b s in
      eqb→eq a b (imp_use (eqb i i) (eqb a b) (and_r (R i i b a) _ (pair i i a b hi hi e.0 e.1 e.2)) (eqb_refl i));
  turn = λ i j a b hi hj. T_ext (below k R i j a b) (below k R j i b a) (back i j a b hi hj) (back j i b a hj hi);
}
  where
    pair : (i j a b : ℕ) → i < n → j < n → a < k → b < k → T (R i j a b) → T (R j i b a && (not (eqb i j) || eqb a b))
    pair i j a b hi hj ha hb = imp_use (R i j a b) _ (all4_e n n k k (λ p q c d. not (R p q c d) || (R q p d c && (not (eqb p q) || eqb c d))) t i j a b hi hj ha hb)

    back : (i j a b : ℕ) → i < n → j < n → T (below k R i j a b) → T (below k R j i b a)
    back i j a b hi hj s = let e = below_e k R i j a b s in below_i k R j i b a e.1 e.0 (and_l (R j i b a) _ (pair i j a b hi hj e.0 e.1 e.2))

linked_settled : {n k : ℕ} {R : Rel} → WellFormed n (λ f. k) R → T (linked n k R) → Settled n R
unfolding linked
linked_settled {n} {k} {R} w t i m j a b hi hm hj s =
    let l = w.inside i j a b hi hj s in
    imp_use (R i j a b) (composed R i m j a b) (all4_e n n k k (λ p q c d. not (R p q c d) || composed R p m q c d) (all_e n (λ g. all n (λ p. all n (λ q. all k (λ c. all k (λ d. not (R p q c d) || composed R p g q c d))))) t m hm) i j a b hi hj l.0 l.1) s

-- C2: 02/05/2024 and 01/05/2025, the second 350 to 366 days after the first

day : ℕ → ℕ → ℕ
day f a = cond (eqb f 0) (cond (eqb a 0) 8801 8888) (cond (eqb a 0) 9136 9252)

after : ℕ → ℕ → Bool
after d e = leb (d + 350) e && leb e (d + 366)

c2 : Rel
c2 = below 2 (λ i j a b. cond (eqb i j) (eqb a b) (cond (ltb i j) (after (day i a) (day j b)) (after (day j b) (day i a))))

c2-formed : WellFormed 2 (λ f. 2) c2
unfolding c2 formed all after day
c2-formed = below-formed 2 2 _ (omega arith) tt

c2_changes : Settled 2 c2 → ⊥
unfolding c2 below composed any after day
c2_changes s = s 0 1 0 0 0 (omega arith) (omega arith) (omega arith) tt

c2-settles : Settled 2 (rounds 2 1 c2)
c2-settles = linked_settled (rounds_wf 1 c2-formed) (unfold linked rounds round c2 below composed all any after day in tt)

-- one round
c2-rounds : steps 2 c2 ≡ 1
c2-rounds = sym ((settled_iff_enough c2-formed 1 1).0 (record {
  enough = le_refl 1;
  ends = settled_unchanged 2 (rounds 2 1 c2) c2-settles;
  moves = λ q h e. c2_changes (unfold rounds in let z : q ≡ 0 = omega arith in unchanged_settled 2 c2 (rw z at e));
})).0

-- and one reading a field, the second
c2-kept : (kept_count (rounds 2 1 c2) 0 ≡ 1) × (kept_count (rounds 2 1 c2) 1 ≡ 1) × T (kept (rounds 2 1 c2) 0 1 && kept (rounds 2 1 c2) 1 1)
unfolding rounds round c2 below composed all any count sum after day
c2-kept = (refl, refl, tt)

-- C4: four fields of three readings, each two different

differ : Rel
differ i j a b = cond (eqb i j) (eqb a b) (not (eqb a b))

c4 : Rel
c4 = below 3 differ

c4-formed : WellFormed 4 (λ f. 3) c4
unfolding c4 formed all differ
c4-formed = below-formed 4 3 differ (omega arith) tt

c4-settled : Settled 4 c4
c4-settled = linked_settled c4-formed (unfold linked c4 below composed all any differ in tt)

-- settled without a round
c4-rounds : steps 4 c4 ≡ 0
c4-rounds = omega (arith, steps_are_least 4 c4 0 (unfold rounds in settled_unchanged 4 c4 c4-settled))

c4-not-empty : T (not (empty 4 c4))
unfolding c4 below differ
c4-not-empty = filled_i 4 c4 0 0 (omega arith) (omega arith) (holds_i c4 0 0 0 0 (omega arith) (omega arith) tt)

-- yet it has no full reading: four readings below three, each two different
c4_no_full_reading : (x : ℕ → ℕ) → Full 4 c4 x → ⊥
unfolding c4 differ
c4_no_full_reading x f = omega (
  arith,
  small 0 (lit< tt),
  small 1 (lit< tt),
  small 2 (lit< tt),
  small 3 (lit< tt),
  apart 0 1 (lit< tt) (lit< tt) tt,
  apart 0 2 (lit< tt) (lit< tt) tt,
  apart 0 3 (lit< tt) (lit< tt) tt,
  apart 1 2 (lit< tt) (lit< tt) tt,
  apart 1 3 (lit< tt) (lit< tt) tt,
  apart 2 3 (lit< tt) (lit< tt) tt,
)
  where
    small : (i : ℕ) → i < 4 → x i < 3
    small i h = (c4-formed.inside i i (x i) (x i) h h (f i i h h)).0

    apart : (i j : ℕ) → i < 4 → j < 4 → T (not (eqb i j)) → x i ≢ x j
    apart i j hi hj d e = go (eqb i j) d (below_e 3 differ i j (x i) (x j) (f i j hi hj)).2
      where
        go : (b : Bool) → T (not b) → T (cond b (eqb (x i) (x j)) (not (eqb (x i) (x j)))) → ⊥
        go true s t = s
        go false s t = not_e (eqb (x i) (x j)) t (rw e (eqb_refl (x j)))

-- its rows are whole up to row 0 of cell (0, 1), and row 1 is broken
c4-first-broken-row : T (all 3 (λ a. whole (stands (λ f. 3) c4 0) (c4 0 0 a)) && (whole (stands (λ f. 3) c4 1) (c4 0 1 0) && not (whole (stands (λ f. 3) c4 1) (c4 0 1 1))))
unfolding c4 below all whole stands differ
c4-first-broken-row = tt

-- The checks 1 to 6 refuse exactly the tables that are not well formed.
use Rattle.std.specs.Prelude.{◌≡◌, refl, ◌⊎◌, Bool, true, false, cond, ◌&&◌, List, [], ◌∷◌, ℕ, ◌≤◌, ◌<◌, eqb, leb, length}
use Rattle.std.proofs.Common.{sym, inl, inr, true≢false, le_refl, leb→le, le→leb, lt→ltb, lit≤}
use Rattle.std.proofs.Math.Path.{subst}
use Rattle.std.proofs.Math.Bool.{not, xor}
use Rattle.std.proofs.lemmas.Bool.{false≢true}
use Rattle.std.proofs.Math.Dec.{T, ltb, eqb→eq, eqb_refl, ltb→lt}
use Rattle.theory.specs.Limits.{fields_most, readings_most}
use Rattle.theory.specs.Bound.{any}
use Rattle.theory.specs.BoundLaws.{and_i, and_l, and_r, not_e, known, T_ext, any_i, any_e}
use Rattle.theory.specs.Relation.{Rel, WellFormed}
use Rattle.refusal.specs.Said.{says}
use Rattle.table.specs.Layout.{Sized, table_length, table_rows, table_row, row_number, at, rel, size_of}
use Rattle.table.specs.LayoutLaws.{Narrow, rel-narrow, row_in, number_in, row_of_number}
use Rattle.table.specs.Checks.{Check}
use Rattle.table.specs.CheckLaws.{both, check_of, check_test, check-first}
use Rattle.table.specs.Shape.{bad_size, stray_row, diagonal_row, mirror_row, row_place, at_first_row, after_sizes, after_length, after_rows, after_shape, GoodSizes, GoodTable}

-- a test finds no row of a table of n fields
abbrev pub Clear : ℕ → (ℕ → ℕ → ℕ → Bool) → Type 0
Clear n test = (i j a : ℕ) → i < n → j < n → a < readings_most → T (test i j a) → ⊥

-- the first row in table order is refused, so where nothing is refused the test finds no row
pub check-rows : (k n : ℕ) (test : ℕ → ℕ → ℕ → Bool) → 1 ≤ k → Check (Clear n test) (at_first_row k n test)
check-rows k n test h =
    check_of (λ f i j a hi hj ha t. f (row_number n i j a) (number_in n i j a hi hj ha) (rw (row_of_number n i j a hj ha) t))
    (λ f p l. let r = row_in n p l in f (table_row n p).i (table_row n p).j (table_row n p).a r.first r.second r.reading)
    (check-first (table_rows n) (λ p. at test (table_row n p)) (λ p. says k (row_place (table_row n p))) (λ p. h))

-- sizes

pub check-sizes : (sizes : List ℕ) → Check (GoodSizes sizes) (after_sizes sizes)
unfolding after_sizes bad_size
check-sizes sizes =
    check_of good bad
    (both {A = λ rest. cond (leb 1 (length sizes) && leb (length sizes) fields_most) rest (says 1 [])}
    (check_test (leb 1 (length sizes) && leb (length sizes) fields_most) (says 1 []) (le_refl 1))
    (λ t. check-first (length sizes) (bad_size sizes) (λ f. says 2 (f ∷ [])) (λ f. lit≤ tt)))
  where
    good : T (leb 1 (length sizes) && leb (length sizes) fields_most) × ((f : ℕ) → f < length sizes → T (bad_size sizes f) → ⊥) → GoodSizes sizes
    good h = record {
      some = leb→le 1 (length sizes) (and_l (leb 1 (length sizes)) (leb (length sizes) fields_most) h.0);
      few = leb→le (length sizes) fields_most (and_r (leb 1 (length sizes)) (leb (length sizes) fields_most) h.0);
      each = λ f l. fine f (known (leb 1 (size_of sizes f) && leb (size_of sizes f) readings_most)) (h.1 f l);
    }
      where
        fine : (f : ℕ) → T (leb 1 (size_of sizes f) && leb (size_of sizes f) readings_most) ⊎ T (bad_size sizes f) → (T (bad_size sizes f) → ⊥) → (1 ≤ size_of sizes f) × (size_of sizes f ≤ readings_most)
        fine f (inl t) n = (leb→le 1 (size_of sizes f) (and_l (leb 1 (size_of sizes f)) (leb (size_of sizes f) readings_most) t), leb→le (size_of sizes f) readings_most (and_r (leb 1 (size_of sizes f)) (leb (size_of sizes f) readings_most) t))
        fine f (inr t) n = absurd (n t)

    bad : GoodSizes sizes → T (leb 1 (length sizes) && leb (length sizes) fields_most) × ((f : ℕ) → f < length sizes → T (bad_size sizes f) → ⊥)
    bad g = (
      and_i (leb 1 (length sizes)) (leb (length sizes) fields_most) (le→leb 1 (length sizes) g.some) (le→leb (length sizes) fields_most g.few),
      λ f l t. not_e (leb 1 (size_of sizes f) && leb (size_of sizes f) readings_most) t (and_i (leb 1 (size_of sizes f)) (leb (size_of sizes f) readings_most) (le→leb 1 (size_of sizes f) (g.each f l).0) (le→leb (size_of sizes f) readings_most (g.each f l).1)),
    )

pub check-length : (n : ℕ) (t : List ℕ) → Check (length t ≡ table_length n) (after_length n t)
unfolding after_length
check-length n t = check_of (eqb→eq (length t) (table_length n)) (λ e. rw e (eqb_refl (table_length n))) (check_test (eqb (length t) (table_length n)) (says 3 []) (lit≤ tt))

-- rows

pub xor_same : (x y : Bool) → x ≡ y → T (xor x y) → ⊥
unfolding xor
xor_same true true e t = t
xor_same true false e t = true≢false e
xor_same false true e t = false≢true e
xor_same false false e t = t

pub xor_none : (x y : Bool) → (T (xor x y) → ⊥) → x ≡ y
unfolding xor
xor_none true true f = refl
xor_none true false f = absurd (f tt)
xor_none false true f = absurd (f tt)
xor_none false false f = refl

module _ (n : ℕ) (size : ℕ → ℕ) (R : Rel) where
  pub no_stray : WellFormed n size R → Clear n (stray_row size R)
  unfolding stray_row
  no_stray w i j a hi hj ha t =
      let f = any_e 32 (λ b. R i j a b && not (ltb a (size i) && ltb b (size j))) t in
      let p = w.inside i j a f.0 hi hj (and_l (R i j a f.0) (not (ltb a (size i) && ltb f.0 (size j))) f.2) in
      not_e (ltb a (size i) && ltb f.0 (size j)) (and_r (R i j a f.0) (not (ltb a (size i) && ltb f.0 (size j))) f.2)
      (and_i (ltb a (size i)) (ltb f.0 (size j)) (lt→ltb a (size i) p.0) (lt→ltb f.0 (size j) p.1))

  pub no_diagonal : WellFormed n size R → Clear n (diagonal_row R)
  unfolding diagonal_row
  no_diagonal w i j a hi hj ha t =
      let f = any_e 32 (λ b. R i j a b && not (eqb a b)) (and_r (eqb i j) (any 32 (λ b. R i j a b && not (eqb a b))) t) in
      let e : i ≡ j = eqb→eq i j (and_l (eqb i j) (any 32 (λ b. R i j a b && not (eqb a b))) t) in
      let s : T (R i i a f.0) = subst (λ (x : ℕ). T (R i x a f.0)) (sym e) (and_l (R i j a f.0) (not (eqb a f.0)) f.2) in
      not_e (eqb a f.0) (and_r (R i j a f.0) (not (eqb a f.0)) f.2) (subst (λ (x : ℕ). T (eqb a x)) (w.same i a f.0 hi s) (eqb_refl a))

  pub no_mirror : WellFormed n size R → Clear n (mirror_row R)
  unfolding mirror_row
  no_mirror w i j a hi hj ha t =
      let f = any_e 32 (λ b. xor (R i j a b) (R j i b a)) t in xor_same (R i j a f.0) (R j i f.0 a) (w.turn i j a f.0 hi hj) f.2

  -- what the three tests leave is well formed
  pub well_formed : ((i : ℕ) → i < n → size i ≤ readings_most) → Narrow n R → Clear n (stray_row size R) × Clear n (diagonal_row R) × Clear n (mirror_row R) → WellFormed n size R
  unfolding stray_row diagonal_row mirror_row
  well_formed small narrow h = record {
    small = small;
    inside = λ i j a b hi hj t. inside i j a b hi hj t (narrow i j a b hi hj t) (known (ltb a (size i) && ltb b (size j)));
    same = λ i a b hi t. same i a b hi t (narrow i i a b hi hi t) (known (eqb a b));
    turn = λ i j a b hi hj. T_ext (R i j a b) (R j i b a) (λ t. turned i j a b hi hj t (narrow i j a b hi hj t)) (λ t. turned j i b a hj hi t (narrow j i b a hj hi t));
  }
    where
      inside : (i j a b : ℕ) → i < n → j < n → T (R i j a b) → (a < 32) × (b < 32) → T (ltb a (size i) && ltb b (size j)) ⊎ T (not (ltb a (size i) && ltb b (size j))) → (a < size i) × (b < size j)
      inside i j a b hi hj t l (inl s) = (ltb→lt a (size i) (and_l (ltb a (size i)) (ltb b (size j)) s), ltb→lt b (size j) (and_r (ltb a (size i)) (ltb b (size j)) s))
      inside i j a b hi hj t l (inr s) = absurd (h.0 i j a hi hj l.0 (any_i 32 (λ c. R i j a c && not (ltb a (size i) && ltb c (size j))) b l.1 (and_i (R i j a b) (not (ltb a (size i) && ltb b (size j))) t s)))

      same : (i a b : ℕ) → i < n → T (R i i a b) → (a < 32) × (b < 32) → T (eqb a b) ⊎ T (not (eqb a b)) → a ≡ b
      same i a b hi t l (inl s) = eqb→eq a b s
      same i a b hi t l (inr s) = absurd (h.1 i i a hi hi l.0 (and_i (eqb i i) (any 32 (λ c. R i i a c && not (eqb a c))) (eqb_refl i) (any_i 32 (λ c. R i i a c && not (eqb a c)) b l.1 (and_i (R i i a b) (not (eqb a b)) t s))))

      turned : (i j a b : ℕ) → i < n → j < n → T (R i j a b) → (a < 32) × (b < 32) → T (R j i b a)
      turned i j a b hi hj t l = rw (← xor_none (R i j a b) (R j i b a) (λ s. h.2 i j a hi hj l.0 (any_i 32 (λ c. xor (R i j a c) (R j i c a)) b l.1 s))) t

pub check-formed : (n : ℕ) (size : ℕ → ℕ) (R : Rel) → ((i : ℕ) → i < n → size i ≤ readings_most) → Narrow n R → Check (WellFormed n size R) (after_rows n size R)
unfolding after_rows
check-formed n size R small narrow =
    check_of (λ h. well_formed n size R small narrow (h.0, h.1.0, h.1.1)) (λ w. (no_stray n size R w, (no_diagonal n size R w, no_mirror n size R w)))
    (both {A = at_first_row 4 n (stray_row size R)} (check-rows 4 n (stray_row size R) (lit≤ tt))
    (λ _. both {A = at_first_row 5 n (diagonal_row R)} (check-rows 5 n (diagonal_row R) (lit≤ tt)) (λ _. check-rows 6 n (mirror_row R) (lit≤ tt))))

-- 1 to 6 refuse exactly what is not a good table
pub check_shape : (sizes t : List ℕ) → Check (GoodTable sizes t) (after_shape sizes t)
check_shape sizes t =
    check_of (λ h. record { good = h.0; long = h.1.0; formed = h.1.1 }) (λ g. (g.good, (g.long, g.formed)))
    (both {A = after_sizes sizes} (check-sizes sizes)
    (λ g. both {A = after_length (length sizes) t} (check-length (length sizes) t)
    (λ _. check-formed (length sizes) (size_of sizes) (rel (length sizes) t) (λ i l. (g.each i l).1) (λ i j a b hi hj. rel-narrow (length sizes) t i j a b))))

pub good-sized : {sizes t : List ℕ} → GoodTable sizes t → Sized (length sizes) t
good-sized g = record { few = g.good.few; long = g.long }

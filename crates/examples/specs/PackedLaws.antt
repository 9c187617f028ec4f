-- A relation and its number stand for the same, so what is computed of the number holds of the relation.
use Rattle.std.specs.Prelude.{◌≡◌, refl, ◌≢◌, ◌⊎◌, ◌&&◌, ◌||◌, eqb, ltb}
use Rattle.std.proofs.Math.Path.{sym}
use Rattle.std.proofs.Common.{ap, ◌∙◌, inl, inr, arith, ltb→lt, lt-ltb, eq-eqb, ne_eqb}
use Rattle.std.proofs.Math.Bool.{Bool, not}
use Prim.Native.Nat.{ℕ, zero, suc, ◌+◌, ◌*◌, ◌/◌, ◌%◌, ◌≤◌, ◌<◌}
use Rattle.std.proofs.Math.Nat.{le_refl}
use Rattle.std.proofs.Math.Arith.{digits_lt, digits_div, digits_mod}
use Rattle.std.proofs.Math.Dec.{T, eqb→eq, eqb_refl}
use Rattle.theory.specs.Limits.{readings_most}
use Rattle.theory.specs.Bound.{all}
use Rattle.theory.specs.BoundLaws.{and_i, and_l, and_r, imp_by, imp_use, not_e, known, T_ext, all_i, all_e, any_i, any_e}
use Rattle.theory.specs.Relation.{Rel, WellFormed, Agree, round, rounds}
use Rattle.theory.proofs.RelationLaws.{round_in, rounds_wf, settled_unchanged, unchanged_settled}
use Rattle.theory.proofs.AgreeLaws.{agree_sym, agree_trans, agree_round, agree_stable}
use Rattle.theory.specs.Reading.{Full}
use Rattle.theory.proofs.ReadingLaws.{full-inside}
use Rattle.theory.specs.Rows.{stands, Whole, whole}
use Rattle.theory.proofs.RowsLaws.{stands_agree, whole_i, whole_e}
use Rattle.theory.specs.Settling.{stable, steps}
use Rattle.theory.proofs.SettlingLaws.{stable_i, stable_e}
use Rattle.theory.specs.Choice.{put}
use Rattle.theory.proofs.Theorems.{settled_iff_enough}
use Rattle.words.specs.WordLaws.{bit-pack}
use Rattle.examples.specs.Packed.{packed, unpacked, after, takes, whole_in, broken_in, full, some_full}

-- R holds of readings below k only
abbrev pub Inside : ℕ → ℕ → Rel → Type 0
Inside n k R = (i j a b : ℕ) → i < n → j < n → T (R i j a b) → (a < k) × (b < k)

pub unpacked-inside : (n k w : ℕ) → Inside n k (unpacked n k w)
unfolding unpacked
unpacked-inside n k w i j a b hi hj t =
    let u = and_r (ltb a k) _ t in
    (ltb→lt a k (and_l (ltb a k) _ t), ltb→lt b k (and_l (ltb b k) _ u))

pub unpacked-packed : (n k : ℕ) (R : Rel) → Inside n k R → Agree n (unpacked n k (packed n k R)) R
unfolding unpacked packed
unpacked-packed n k R inside i j a b hi hj =
    T_ext (unpacked n k (packed n k R) i j a b) (R i j a b)
    (λ t. rw (read (unpacked-inside n k (packed n k R) i j a b hi hj t)) at t)
    (λ t. rw (read (inside i j a b hi hj t)) t)
  where
    row : ℕ
    row = (i * n + j) * k + a

    read : (a < k) × (b < k) → unpacked n k (packed n k R) i j a b ≡ R i j a b
    read l =
        let to_row : (row * k + b) / k ≡ row = digits_div row l.1 in
        let to_cell : (row * k + b) / k / k ≡ i * n + j = ap (λ (q : ℕ). q / k) to_row ∙ digits_div (i * n + j) l.0 in
        let ei : (row * k + b) / k / k / n ≡ i = ap (λ (q : ℕ). q / n) to_cell ∙ digits_div i hj in
        let ej : (row * k + b) / k / k % n ≡ j = ap (λ (q : ℕ). q % n) to_cell ∙ digits_mod i hj in
        let ea : (row * k + b) / k % k ≡ a = ap (λ (q : ℕ). q % k) to_row ∙ digits_mod (i * n + j) l.0 in
        let eb : (row * k + b) % k ≡ b = digits_mod row l.1 in
        rw (lt-ltb a k l.0, lt-ltb b k l.1) (bit-pack (n * n * k * k) _ (row * k + b) (digits_lt (digits_lt (digits_lt hi hj) l.0) l.1) ∙ (λ x. R (ei x) (ej x) (ea x) (eb x)))

-- rounds, from a number w that stands for R

module _ {n : ℕ} {size : ℕ → ℕ} {R : Rel} (f : WellFormed n size R) (k w : ℕ) (e : Agree n (unpacked n k w) R) where
  pub after-rounds : (q : ℕ) → Agree n (unpacked n k (after n k q w)) (rounds n q R)
  unfolding after rounds
  after-rounds zero = e
  after-rounds (suc q) =
      let S = unpacked n k (after n k q w) in
      agree_trans n (unpacked n k (packed n k (round n S))) (round n S) (round n (rounds n q R))
      (unpacked-packed n k (round n S) (λ i j a b hi hj t. unpacked-inside n k (after n k q w) i j a b hi hj (round_in n S i j a b t)))
      (agree_round n S (rounds n q R) (after-rounds q))

  stable-after : (q : ℕ) → stable n (unpacked n k (after n k q w)) ≡ stable n (rounds n q R)
  stable-after q = agree_stable n (unpacked n k (after n k q w)) (rounds n q R) (after-rounds q)

  pub takes-steps : (r : ℕ) → T (takes n k r w) → steps n R ≡ r
  unfolding takes
  takes-steps r t = sym ((settled_iff_enough f r r).0 (record {
    enough = le_refl r;
    ends = settled_unchanged n (rounds n r R) (stable_e (rounds_wf r f) (rw (stable-after r) at (and_r (all r moves) _ t)));
    moves = λ q h s. not_e (stable n (rounds n q R)) (rw (stable-after q) at (all_e r moves (and_l (all r moves) _ t) q h)) (stable_i n (rounds n q R) (unchanged_settled n (rounds n q R) s));
  })).0
    where
      moves : ℕ → Bool
      moves q = not (stable n (unpacked n k (after n k q w)))

-- rows

module _ (k : ℕ) (stand p : ℕ → Bool) where
  whole-in-i : Whole stand p → T (whole_in k stand p)
  unfolding whole_in
  whole-in-i f = all_i k _ (λ b2 l. all_i b2 _ (λ b h. all_i b _ (λ b1 m. imp_by (p b1 && (p b2 && stand b)) (p b) (λ t.
      let u = and_r (p b1) (p b2 && stand b) t in
      f b1 b b2 m h (and_l (p b1) (p b2 && stand b) t) (and_l (p b2) (stand b) u) (and_r (p b2) (stand b) u)))))

  whole-in-e : ((b : ℕ) → T (p b) → b < k) → T (whole_in k stand p) → Whole stand p
  unfolding whole_in
  whole-in-e small t b1 b b2 h m s1 s2 st =
      imp_use (p b1 && (p b2 && stand b)) (p b)
      (all_e b (λ c1. not (p c1 && (p b2 && stand b)) || p b) (all_e b2 (λ c. all c (λ c1. not (p c1 && (p b2 && stand c)) || p c)) (all_e k _ t b2 (small b2 s2)) b m) b1 h)
      (and_i (p b1) _ s1 (and_i (p b2) (stand b) s2 st))

row_agree : (n : ℕ) (R S : Rel) → Agree n R S → (size : ℕ → ℕ) (i j a : ℕ) → i < n → j < n → Whole (stands size R j) (R i j a) → Whole (stands size S j) (S i j a)
row_agree n R S e size i j a hi hj f b1 b b2 l m s t st = rw (e i j a b hi hj) at (f b1 b b2 l m (rw (e i j a b1 hi hj) s) (rw (e i j a b2 hi hj) t) (rw (stands_agree n R S e size j b hj) st))

-- a row of R is broken where the test says so of M, which stands for R
pub broken_same : (n k : ℕ) (size : ℕ → ℕ) (M R : Rel) → Agree n M R → Inside n k M → Inside n readings_most R
    → (i j a : ℕ) → i < n → j < n → broken_in k size M i j a ≡ not (whole (stands size R j) (R i j a))
unfolding broken_in
broken_same n k size M R e inM in_r i j a hi hj = ap not (T_ext (whole_in k (stands size M j) (M i j a)) (whole (stands size R j) (R i j a))
    (λ t. whole_i (stands size R j) (R i j a) (row_agree n M R e size i j a hi hj (whole-in-e k (stands size M j) (M i j a) (λ b s. (inM i j a b hi hj s).1) t)))
    (λ t. whole-in-i k (stands size M j) (M i j a) (row_agree n R M (agree_sym n M R e) size i j a hi hj (whole_e (stands size R j) (R i j a) (λ b s. (in_r i j a b hi hj s).1) t))))

-- full readings

put_here : (f v : ℕ) (x : ℕ → ℕ) → put f v x f ≡ v
unfolding put
put_here f v x = rw (eq-eqb f f refl)

put_else : (f v : ℕ) (x : ℕ → ℕ) (g : ℕ) → g ≢ f → put f v x g ≡ x g
unfolding put
put_else f v x g d = rw (ne_eqb g f d)

module _ {n : ℕ} {size : ℕ → ℕ} {R : Rel} (w : WellFormed n size R) where
  -- what is found is full
  pub some_full_e : (m : ℕ) (x : ℕ → ℕ) → T (some_full n size R m x) → (y : ℕ → ℕ) × Full n R y
  unfolding some_full full
  some_full_e zero x t = (x, λ i j hi hj. all_e n (λ q. R i q (x i) (x q)) (all_e n (λ p. all n (λ q. R p q (x p) (x q))) t i hi) j hj)
  some_full_e (suc m) x t = let a = any_e (size m) (λ v. some_full n size R m (put m v x)) t in some_full_e m (put m a.0 x) a.2

  -- and a full reading is found
  some-full-from : (m : ℕ) → m ≤ n → (x y : ℕ → ℕ) → Full n R y → ((f : ℕ) → m ≤ f → f < n → x f ≡ y f) → T (some_full n size R m x)
  unfolding some_full full
  some-full-from zero l x y g e = all_i n _ (λ i hi. all_i n _ (λ j hj. rw (e i (omega arith) hi, e j (omega arith) hj) (g i j hi hj)))
  some-full-from (suc m) l x y g e = any_i (size m) _ (y m) (full-inside w y g m l) (some-full-from m (omega arith) (put m (y m) x) y g (λ f h hf. pick f h hf (known (eqb f m))))
    where
      pick : (f : ℕ) → m ≤ f → f < n → T (eqb f m) ⊎ T (not (eqb f m)) → put m (y m) x f ≡ y f
      pick f h hf (inl t) = let q : f ≡ m = eqb→eq f m t in rw q (put_here m (y m) x)
      pick f h hf (inr d) = let other : f ≢ m = λ q. not_e (eqb f m) d (rw q (eqb_refl m)) in put_else m (y m) x f other ∙ e f (omega arith) hf

  pub some_full_i : (x y : ℕ → ℕ) → Full n R y → T (some_full n size R n x)
  some_full_i x y g = some-full-from n (le_refl n) x y g (λ f l h. absurd (omega arith))

-- What the definitions of Bound.antt mean, and the laws of tests that they rest on.
use Rattle.std.specs.Prelude.{◌≡◌, ◌↔◌, ◌⊎◌, Bool, true, false, cond, not, ◌&&◌, ◌||◌, ℕ, zero, suc, ◌+◌, ◌*◌, ◌≤◌, ◌<◌, T, eqb, ltb}
use Rattle.std.proofs.Math.Path.{refl}
use Rattle.std.proofs.Common.{sym, subst, ap₂, inl, inr, eq-or-lt_of_le, le_refl, le_antisymm, arith, T_not, eqb→eq, ltb→lt, lt→ltb}
use Rattle.std.proofs.Math.Decide.{dec_lt}
use Rattle.std.proofs.Math.Dec.{not_T, eqb_refl}
use Rattle.theory.specs.Bound.{all, any, first, sum, val, count}

-- tests

pub and_i : (a b : Bool) → T a → T b → T (a && b)
and_i true b s t = t
and_i false b s t = s

pub and_l : (a b : Bool) → T (a && b) → T a
and_l true b t = tt
and_l false b t = t

pub and_r : (a b : Bool) → T (a && b) → T b
and_r true b t = t
and_r false b t = absurd t

pub or_l : (a b : Bool) → T a → T (a || b)
or_l true b t = tt
or_l false b t = absurd t

pub or_r : (a b : Bool) → T b → T (a || b)
or_r true b t = tt
or_r false b t = t

pub or_e : (a b : Bool) → T (a || b) → T a ⊎ T b
or_e true b t = inl tt
or_e false b t = inr t

-- a || b as an implication
pub or_by : (a b : Bool) → (T (not a) → T b) → T (a || b)
or_by true b f = tt
or_by false b f = f tt

pub or_use : (a b : Bool) → T (a || b) → T (not a) → T b
or_use true b t s = absurd s
or_use false b t s = t

-- not a || b as an implication
pub imp_by : (a b : Bool) → (T a → T b) → T (not a || b)
imp_by true b f = f tt
imp_by false b f = tt

pub imp_use : (a b : Bool) → T (not a || b) → T a → T b
imp_use true b t s = t
imp_use false b t s = absurd s

pub imp_not : (a b : Bool) → T (not (not a || b)) → T a × T (not b)
imp_not true b t = (tt, t)
imp_not false b t = absurd t

pub not_i : (a : Bool) → (T a → ⊥) → T (not a)
not_i = not_T

pub not_e : (a : Bool) → T (not a) → T a → ⊥
not_e = T_not

pub not-not : (a : Bool) → T (not (not a)) → T a
not-not true t = tt
not-not false t = t

pub known : (a : Bool) → T a ⊎ T (not a)
known true = inl tt
known false = inr tt

-- two tests that imply one another are equal
pub T_ext : (a b : Bool) → (T a → T b) → (T b → T a) → a ≡ b
T_ext true true f g = refl
T_ext true false f g = absurd (f tt)
T_ext false true f g = absurd (g tt)
T_ext false false f g = refl

-- numbers

pub lt_or_ge : (a b : ℕ) → (a < b) ⊎ (b ≤ a)
lt_or_ge a b = elim (dec_lt a b) [ yes h ↦ inl h | no h ↦ inr (omega arith) ]

pub below_suc : {i n : ℕ} → i < suc n → (i ≡ n) ⊎ (i < n)
below_suc {i} {n} h = eq-or-lt_of_le {n = i} {m = n} (omega arith)

-- what holds of k and of all below holds of all below suc k
pub upto : {k : ℕ} (P : ℕ → Type 0) → P k → ((e : ℕ) → e < k → P e) → (e : ℕ) → e < suc k → P e
upto P here below e h = elim (below_suc h) [ inl q ↦ subst P (sym q) here | inr l ↦ below e l ]

-- all

pub all_i : (n : ℕ) (p : ℕ → Bool) → ((i : ℕ) → i < n → T (p i)) → T (all n p)
unfolding all
all_i zero p f = tt
all_i (suc n) p f = and_i (all n p) (p n) (all_i n p (λ i h. f i (omega arith))) (f n (omega arith))

pub all_e : (n : ℕ) (p : ℕ → Bool) → T (all n p) → (i : ℕ) → i < n → T (p i)
unfolding all
all_e zero p t = λ i h. absurd (omega arith)
all_e (suc n) p t = upto (λ i. T (p i)) (and_r (all n p) (p n) t) (all_e n p (and_l (all n p) (p n) t))

pub all_same : (n : ℕ) (p q : ℕ → Bool) → ((i : ℕ) → i < n → p i ≡ q i) → all n p ≡ all n q
unfolding all
all_same zero p q e = refl
all_same (suc n) p q e = ap₂ ◌&&◌ (all_same n p q (λ i h. e i (omega arith))) (e n (omega arith))

-- any

pub any_i : (n : ℕ) (p : ℕ → Bool) (i : ℕ) → i < n → T (p i) → T (any n p)
unfolding any
any_i zero p i h t = absurd (omega arith)
any_i (suc n) p i h t = pick (below_suc h) (λ k. any_i n p i k t)
  where
    pick : (i ≡ n) ⊎ (i < n) → (i < n → T (any n p)) → T (any n p || p n)
    pick (inl e) f = or_r (any n p) (p n) (rw e at t)
    pick (inr k) f = or_l (any n p) (p n) (f k)

pub any_e : (n : ℕ) (p : ℕ → Bool) → T (any n p) → (i : ℕ) × (i < n) × T (p i)
unfolding any
any_e zero p t = absurd t
any_e (suc n) p t = pick (or_e (any n p) (p n) t) (any_e n p)
  where
    pick : T (any n p) ⊎ T (p n) → (T (any n p) → (i : ℕ) × (i < n) × T (p i)) → (i : ℕ) × (i < suc n) × T (p i)
    pick (inl s) f = let w = f s in (w.0, omega (arith, w.1), w.2)
    pick (inr s) f = (n, omega arith, s)

-- where p does not hold of all, it fails of one
pub all-not : (n : ℕ) (p : ℕ → Bool) → T (not (all n p)) → (i : ℕ) × (i < n) × T (not (p i))
all-not n p d = elim (known (any n (λ i. not (p i)))) [
  | inl t ↦ any_e n (λ i. not (p i)) t
  | inr e ↦ absurd (not_e (all n p) d (all_i n p (λ i h. not-not (p i) (not_i (not (p i)) (λ s. not_e (any n _) e (any_i n (λ j. not (p j)) i h s))))))
]

-- four bounds at once: every pair of every cell

pub all4_i : (n m k l : ℕ) (p : ℕ → ℕ → ℕ → ℕ → Bool) → ((i j a b : ℕ) → i < n → j < m → a < k → b < l → T (p i j a b)) → T (all n (λ i. all m (λ j. all k (λ a. all l (p i j a)))))
all4_i n m k l p f = all_i n _ (λ i hi. all_i m _ (λ j hj. all_i k _ (λ a ha. all_i l (p i j a) (λ b. f i j a b hi hj ha))))

pub all4_e : (n m k l : ℕ) (p : ℕ → ℕ → ℕ → ℕ → Bool) → T (all n (λ i. all m (λ j. all k (λ a. all l (p i j a))))) → (i j a b : ℕ) → i < n → j < m → a < k → b < l → T (p i j a b)
all4_e n m k l p t i j a b hi hj ha hb = all_e l (p i j a) (all_e k (λ c. all l (p i j c)) (all_e m (λ g. all k (λ c. all l (p i g c))) (all_e n (λ h. all m (λ g. all k (λ c. all l (p h g c)))) t i hi) j hj) a ha) b hb

pub all4_not : (n m k l : ℕ) (p : ℕ → ℕ → ℕ → ℕ → Bool) → T (not (all n (λ i. all m (λ j. all k (λ a. all l (p i j a)))))) → (i : ℕ) × (j : ℕ) × (a : ℕ) × (b : ℕ) × (i < n) × (j < m) × T (not (p i j a b))
all4_not n m k l p t =
    let i = all-not n (λ h. all m (λ g. all k (λ c. all l (p h g c)))) t in
    let j = all-not m (λ g. all k (λ c. all l (p i.0 g c))) i.2 in
    let a = all-not k (λ c. all l (p i.0 j.0 c)) j.2 in
    let b = all-not l (p i.0 j.0 a.0) a.2 in
    (i.0, j.0, a.0, b.0, i.1, j.1, b.2)

pub any_same : (n : ℕ) (p q : ℕ → Bool) → ((i : ℕ) → i < n → p i ≡ q i) → any n p ≡ any n q
unfolding any
any_same zero p q e = refl
any_same (suc n) p q e = ap₂ ◌||◌ (any_same n p q (λ i h. e i (omega arith))) (e n (omega arith))

-- first

pub first-le : (n : ℕ) (p : ℕ → Bool) → first n p ≤ n
unfolding first
first-le zero p = le_refl 0
first-le (suc n) p = go (p 0) (first n (λ i. p (suc i))) (first-le n (λ i. p (suc i)))
  where
    go : (b : Bool) (k : ℕ) → k ≤ n → cond b 0 (suc k) ≤ suc n
    go true k h = omega arith
    go false k h = omega arith

pub first_holds : (n : ℕ) (p : ℕ → Bool) → first n p < n → T (p (first n p))
unfolding first
first_holds zero p h = absurd (omega arith)
first_holds (suc n) p h = go (p 0) (first n (λ i. p (suc i))) (λ t. t) (first_holds n (λ i. p (suc i))) h
  where
    go : (b : Bool) (k : ℕ) → (T b → T (p 0)) → (k < n → T (p (suc k))) → cond b 0 (suc k) < suc n → T (p (cond b 0 (suc k)))
    go true k f g l = f tt
    go false k f g l = g (omega arith)

pub first_least : (n : ℕ) (p : ℕ → Bool) (i : ℕ) → i < first n p → T (p i) → ⊥
unfolding first
first_least zero p i h t = omega arith
first_least (suc n) p zero h t = go (p 0) t h
  where
    go : (b : Bool) → T b → 0 < cond b 0 (suc (first n (λ i. p (suc i)))) → ⊥
    go true s l = omega arith
    go false s l = s
first_least (suc n) p (suc i) h t = first_least n (λ j. p (suc j)) i (go (p 0) h) t
  where
    go : (b : Bool) → suc i < cond b 0 (suc (first n (λ j. p (suc j)))) → i < first n (λ j. p (suc j))
    go true l = absurd (omega arith)
    go false l = omega arith

-- where p holds of some i below n, first finds one, and none lies before it
pub first_found : (n : ℕ) (p : ℕ → Bool) (i : ℕ) → i < n → T (p i) → (first n p ≤ i) × T (p (first n p))
first_found n p i h t = elim (lt_or_ge i (first n p)) [ inl l ↦ absurd (first_least n p i l t) | inr g ↦ (g, first_holds n p (omega arith)) ]

-- first is the one number that is at most n, below which p fails, and of which p holds if it is below n
pub first_is : (n : ℕ) (p : ℕ → Bool) (k : ℕ) → k ≤ n → (k < n → T (p k)) → ((i : ℕ) → i < k → T (p i) → ⊥) → first n p ≡ k
first_is n p k le holds none = elim (lt_or_ge (first n p) k) [
  | inl l ↦ absurd (none (first n p) l (first_holds n p (omega arith)))
  | inr g ↦ elim (lt_or_ge k (first n p)) [
    | inl l ↦ absurd (first_least n p k l (holds (omega (arith, first-le n p))))
    | inr g' ↦ le_antisymm g' g
  ]
]

-- first is n where p holds of none below n, and nowhere else
pub first_none : (n : ℕ) (p : ℕ → Bool) → (first n p ≡ n) ↔ ((i : ℕ) → i < n → T (p i) → ⊥)
first_none n p = (λ e i h. first_least n p i (omega arith), first_is n p n (le_refl n) (λ h. absurd (omega arith)))

pub first_same : (n : ℕ) (p q : ℕ → Bool) → ((i : ℕ) → i < n → p i ≡ q i) → first n p ≡ first n q
first_same n p q e = first_is n p (first n q) (first-le n q) (λ h. rw (e (first n q) h) (first_holds n q h)) (λ i h t. first_least n q i h (rw (e i (omega (arith, first-le n q))) at t))

-- sum

pub sum_same : (n : ℕ) (f g : ℕ → ℕ) → ((i : ℕ) → i < n → f i ≡ g i) → sum n f ≡ sum n g
unfolding sum
sum_same zero f g e = refl
sum_same (suc n) f g e = ap₂ ◌+◌ (sum_same n f g (λ i h. e i (omega arith))) (e n (omega arith))

pub sum-le : (n : ℕ) (f g : ℕ → ℕ) → ((i : ℕ) → i < n → f i ≤ g i) → sum n f ≤ sum n g
unfolding sum
sum-le zero f g h = le_refl 0
sum-le (suc n) f g h = omega (arith, sum-le n f g (λ i l. h i (omega arith)), h n (omega arith))

pub sum_lt : (n : ℕ) (f g : ℕ → ℕ) → ((i : ℕ) → i < n → f i ≤ g i) → (i : ℕ) → i < n → f i < g i → sum n f < sum n g
unfolding sum
sum_lt zero f g h i l s = absurd (omega arith)
sum_lt (suc n) f g h i l s = pick (below_suc l) (λ k. sum_lt n f g (λ j m. h j (omega arith)) i k s) (sum-le n f g (λ j m. h j (omega arith)))
  where
    pick : (i ≡ n) ⊎ (i < n) → (i < n → sum n f < sum n g) → sum n f ≤ sum n g → sum n f + f n < sum n g + g n
    pick (inl e) u w = let k : f n < g n = rw e at s in omega arith
    pick (inr k) u w = omega (arith, u k, h n (omega arith))

-- the last term apart
pub sum_last : (n : ℕ) (f : ℕ → ℕ) → sum (suc n) f ≡ sum n f + f n
unfolding sum
sum_last n f = refl

-- the first term apart
pub sum-front : (n : ℕ) (f : ℕ → ℕ) → sum (suc n) f ≡ f 0 + sum n (λ i. f (suc i))
unfolding sum
sum-front zero f = omega arith
sum-front (suc n) f = omega (arith, sum-front n f)

-- n terms of at most m each
pub sum_most : (n m : ℕ) (f : ℕ → ℕ) → ((i : ℕ) → i < n → f i ≤ m) → sum n f ≤ n * m
unfolding sum
sum_most zero m f h = omega arith
sum_most (suc n) m f h = omega (arith, sum_most n m f (λ i l. h i (omega arith)), h n (omega arith))

pub sum-nothing : (n : ℕ) → sum n (λ i. 0) ≡ 0
unfolding sum
sum-nothing zero = refl
sum-nothing (suc n) = omega (arith, sum-nothing n)

pub sum_plus : (n : ℕ) (f g : ℕ → ℕ) → sum n (λ i. f i + g i) ≡ sum n f + sum n g
unfolding sum
sum_plus zero f g = refl
sum_plus (suc n) f g = omega (arith, sum_plus n f g)

pub sum_swap : (n m : ℕ) (f : ℕ → ℕ → ℕ) → sum n (λ i. sum m (f i)) ≡ sum m (λ j. sum n (λ i. f i j))
unfolding sum
sum_swap zero m f = sym (sum-nothing m)
sum_swap (suc n) m f = rw (sum_swap n m f) (sym (sum_plus m (λ j. sum n (λ i. f i j)) (f n)))

-- val and count

pub val-le : (a b : Bool) → (T a → T b) → val a ≤ val b
val-le true true f = le_refl 1
val-le true false f = absurd (f tt)
val-le false b f = omega arith

pub val-lt : (a b : Bool) → T (not a) → T b → val a < val b
val-lt true b s t = absurd s
val-lt false true s t = omega arith
val-lt false false s t = absurd t

pub val_most : (a : Bool) → val a ≤ 1
val_most true = le_refl 1
val_most false = omega arith

pub val_no : (a : Bool) → T (not a) → val a ≡ 0
val_no true t = absurd t
val_no false t = refl

pub count_same : (n : ℕ) (p q : ℕ → Bool) → ((i : ℕ) → i < n → p i ≡ q i) → count n p ≡ count n q
unfolding count
count_same n p q e = sum_same n _ _ (λ i h. rw (e i h))

pub count-le : (n : ℕ) (p q : ℕ → Bool) → ((i : ℕ) → i < n → T (p i) → T (q i)) → count n p ≤ count n q
unfolding count
count-le n p q f = sum-le n _ _ (λ i h. val-le (p i) (q i) (f i h))

pub count-lt : (n : ℕ) (p q : ℕ → Bool) → ((i : ℕ) → i < n → T (p i) → T (q i)) → (i : ℕ) → i < n → T (not (p i)) → T (q i) → count n p < count n q
unfolding count
count-lt n p q f i h s t = sum_lt n _ _ (λ j l. val-le (p j) (q j) (f j l)) i h (val-lt (p i) (q i) s t)

-- the last number apart
pub count_last : (n : ℕ) (p : ℕ → Bool) → count (suc n) p ≡ count n p + val (p n)
unfolding count sum
count_last n p = refl

-- the number 0 apart
pub count-front : (n : ℕ) (p : ℕ → Bool) → count (suc n) p ≡ val (p 0) + count n (λ i. p (suc i))
unfolding count
count-front n p = sum-front n (λ i. val (p i))

pub count_most : (n : ℕ) (p : ℕ → Bool) → count n p ≤ n
unfolding count
count_most n p = omega (arith, sum_most n 1 (λ i. val (p i)) (λ i h. val_most (p i)))

-- none is counted where p holds of none
pub count_none : (n : ℕ) (p : ℕ → Bool) → ((i : ℕ) → i < n → T (p i) → ⊥) → count n p ≡ 0
count_none zero p f = unfold count sum in refl
count_none (suc n) p f = omega (arith, count_last n p, count_none n p (λ i h. f i (omega arith)), val_no (p n) (not_i (p n) (f n (omega arith))))

-- at most one is counted where p holds of one number only
pub count_one : (n : ℕ) (p : ℕ → Bool) (k : ℕ) → ((i : ℕ) → i < n → T (p i) → i ≡ k) → count n p ≤ 1
count_one zero p k f = omega (arith, count_most 0 p)
count_one (suc n) p k f = elim (known (p n)) [
  | inl t ↦ omega (arith, count_last n p, val_most (p n), count_none n p (λ i h s. omega (arith, f n (omega arith) t, f i (omega arith) s)))
  | inr d ↦ omega (arith, count_last n p, val_no (p n) d, count_one n p k (λ i h. f i (omega arith)))
]

-- one is counted where p holds of a number, two where it holds of two

pub count_some : (n : ℕ) (p : ℕ → Bool) (i : ℕ) → i < n → T (p i) → 1 ≤ count n p
count_some n p i h t = omega (arith, count-lt n (λ j. false) p (λ j l s. absurd s) i h tt t)

pub count_two : (n : ℕ) (p : ℕ → Bool) (i j : ℕ) → i < j → j < n → T (p i) → T (p j) → 2 ≤ count n p
count_two n p i j l h s t = omega (
  arith,
  count_some n (λ k. p k && ltb k j) i (omega arith) (and_i (p i) _ s (lt→ltb i j l)),
  count-lt n (λ k. p k && ltb k j) p (λ k m. and_l (p k) (ltb k j)) j h (not_i (p j && ltb j j) (λ u. omega (arith, ltb→lt j j (and_r (p j) _ u)))) t,
)

-- a map of the numbers below n onto themselves takes no value twice
pub onto_once : (n : ℕ) (f : ℕ → ℕ) → ((p : ℕ) → p < n → f p < n) → ((k : ℕ) → k < n → (p : ℕ) × (p < n) × (f p ≡ k)) → (p q : ℕ) → p < n → q < n → f p ≡ f q → p ≡ q
unfolding count
onto_once n f within onto p q hp hq e = elim (lt_or_ge p q) [
  | inl l ↦ absurd (twice p q l hq e)
  | inr g ↦ elim (lt_or_ge q p) [ inl l ↦ absurd (twice q p l hp (sym e)) | inr g' ↦ le_antisymm g' g ]
]
  where
    twice : (i j : ℕ) → i < j → j < n → f i ≡ f j → ⊥
    twice i j l h d = omega (
      arith,
      sum_lt n (λ k. 1) (λ k. count n (λ r. eqb (f r) k)) (λ k hk. let s = onto k hk in count_some n (λ r. eqb (f r) k) s.0 s.1 (rw s.2 (eqb_refl k))) (f j) (within j h) (count_two n (λ r. eqb (f r) (f j)) i j l h (rw d (eqb_refl (f j))) (eqb_refl (f j))),
      sum_swap n n (λ k r. val (eqb (f r) k)),
      sum-le n (λ r. count n (λ k. eqb (f r) k)) (λ r. 1) (λ r hr. count_one n (λ k. eqb (f r) k) (f r) (λ k hk t. sym (eqb→eq (f r) k t))),
    )

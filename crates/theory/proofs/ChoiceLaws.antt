-- The walk along an order never lacks a reading, and what it ends with is the first full reading that keeps the fixed readings.
use Rattle.std.specs.Prelude.{◌≡◌, refl, ◌↔◌, ◌≢◌, ◌⊎◌, Bool, true, false, cond, not, ◌||◌, ℕ, zero, suc, ◌≤◌, ◌<◌, T, eqb, leb}
use Rattle.std.proofs.Common.{sym, subst, ◌∙◌, inl, inr, le_refl, eq-or-lt_of_le, arith, eqb→eq, leb→le, le→leb}
use Rattle.std.proofs.Math.Dec.{eqb_refl}
use Rattle.theory.specs.Bound.{all, any, first}
use Rattle.theory.specs.BoundLaws.{and_i, and_l, and_r, or_l, or_r, or_by, or_use, not_i, not_e, known, T_ext, lt_or_ge, upto, all_i, all_e, any_i, any_e, first-le, first_holds, first_found, first_same, first_none, onto_once}
use Rattle.theory.specs.Relation.{Rel, WellFormed, Settled}
use Rattle.theory.proofs.RelationLaws.{turned}
use Rattle.theory.specs.Reading.{Full, kept, empty}
use Rattle.theory.proofs.ReadingLaws.{full-inside}
use Rattle.theory.proofs.RowsLaws.{stands-inside}
use Rattle.theory.specs.Rows.{stands, Whole}
use Rattle.theory.proofs.Interval.{step_lemma}
use Rattle.theory.specs.Choice.{Order, free, Fixed, Keeps, Allowed, Same, Before, First, left, Walked, put, only, walk, WholeAlong, clash, clash_from, clash_to}

-- what `left` tests
pub record Left (n : ℕ) (order : ℕ → ℕ) (R : Rel) (fixed x : ℕ → ℕ) (p b : ℕ) : Type 0 where
  pub keeps : T (kept R (order p) b)
  pub own : Fixed fixed (order p) → b ≡ fixed (order p)
  pub chosen : (q : ℕ) → q < p → T (R (order q) (order p) (x (order q)) b)
  pub held : (g : ℕ) → g < n → Fixed fixed g → T (R g (order p) (fixed g) b)

pub left_e : (n : ℕ) (order : ℕ → ℕ) (R : Rel) (fixed x : ℕ → ℕ) (p b : ℕ) → T (left n order R fixed x p b) → Left n order R fixed x p b
unfolding left
left_e n order R fixed x p b t =
    let f = order p in
    let t1 = and_r (R f f b b) _ t in
    let t2 = and_r (free (fixed f) || eqb b (fixed f)) _ t1 in
    record {
      keeps = and_l (R f f b b) _ t;
      own = λ s. eqb→eq b (fixed f) (or_use (free (fixed f)) (eqb b (fixed f)) (and_l (free (fixed f) || eqb b (fixed f)) _ t1) s);
      chosen = all_e p (λ q. R (order q) f (x (order q)) b) (and_l (all p (λ q. R (order q) f (x (order q)) b)) _ t2);
      held = λ g h. or_use (free (fixed g)) (R g f (fixed g) b) (all_e n (λ k. free (fixed k) || R k f (fixed k) b) (and_r (all p (λ q. R (order q) f (x (order q)) b)) _ t2) g h);
    }

pub left_i : (n : ℕ) (order : ℕ → ℕ) (R : Rel) (fixed x : ℕ → ℕ) (p b : ℕ) → Left n order R fixed x p b → T (left n order R fixed x p b)
unfolding left
left_i n order R fixed x p b l =
    let f = order p in
    and_i (R f f b b) _ l.keeps
    (and_i (free (fixed f) || eqb b (fixed f)) _ (or_by (free (fixed f)) (eqb b (fixed f)) (λ s. subst (λ (z : ℕ). T (eqb b z)) (l.own s) (eqb_refl b)))
    (and_i (all p (λ q. R (order q) f (x (order q)) b)) _ (all_i p (λ q. R (order q) f (x (order q)) b) l.chosen)
    (all_i n (λ g. free (fixed g) || R g f (fixed g) b) (λ g h. or_by (free (fixed g)) (R g f (fixed g) b) (l.held g h)))))

-- what is left at a position rests on the choices before it only
pub left_same : (n : ℕ) (order : ℕ → ℕ) (R : Rel) (fixed x y : ℕ → ℕ) (p b : ℕ) → Same p order x y → left n order R fixed x p b ≡ left n order R fixed y p b
left_same n order R fixed x y p b e = T_ext (left n order R fixed x p b) (left n order R fixed y p b) (over x y e) (over y x (λ q h. sym (e q h)))
  where
    over : (x' y' : ℕ → ℕ) → Same p order x' y' → T (left n order R fixed x' p b) → T (left n order R fixed y' p b)
    over x' y' e' t = let l = left_e n order R fixed x' p b t in left_i n order R fixed y' p b (record {
      keeps = l.keeps;
      own = l.own;
      chosen = λ q h. rw (e' q h) at (l.chosen q h);
      held = l.held;
    })

-- a full reading that keeps the fixed readings and is the same so far is left
pub full-left : (n : ℕ) (order : ℕ → ℕ) (R : Rel) (fixed x y : ℕ → ℕ) → Order n order → Full n R y → Keeps n fixed y → (p : ℕ) → p < n → Same p order x y → Left n order R fixed x p (y (order p))
full-left n order R fixed x y o full keeps p h e = record {
  keeps = full (order p) (order p) (o.within p h) (o.within p h);
  own = keeps (order p) (o.within p h);
  chosen = λ q l. rw (e q l) (full (order q) (order p) (o.within q (omega arith)) (o.within p h));
  held = λ g l s. rw (keeps g l s) at (full g (order p) l (o.within p h));
}

-- the fields that have a reading when position p is reached: those before it, and the fixed ones

taken : (ℕ → ℕ) → ℕ → ℕ → Bool
taken order p e = any p (λ q. eqb (order q) e)

has : (ℕ → ℕ) → (ℕ → ℕ) → ℕ → ℕ → Bool
has order fixed p e = taken order p e || not (free (fixed e))

-- their readings
reading : (ℕ → ℕ) → (ℕ → ℕ) → (ℕ → ℕ) → ℕ → ℕ → ℕ
reading order fixed x p e = cond (taken order p e) (x e) (fixed e)

has_e : (order fixed x : ℕ → ℕ) (p e : ℕ) → T (has order fixed p e) → ((q : ℕ) × (q < p) × (order q ≡ e) × (reading order fixed x p e ≡ x e)) ⊎ (Fixed fixed e × (reading order fixed x p e ≡ fixed e))
unfolding has reading taken
has_e order fixed x p e t = go (taken order p e) (any_e p (λ q. eqb (order q) e)) t
  where
    go : (b : Bool) → (T b → (q : ℕ) × (q < p) × T (eqb (order q) e)) → T (b || not (free (fixed e))) → ((q : ℕ) × (q < p) × (order q ≡ e) × (cond b (x e) (fixed e) ≡ x e)) ⊎ (Fixed fixed e × (cond b (x e) (fixed e) ≡ fixed e))
    go true f s = let w = f tt in inl (w.0, w.1, eqb→eq (order w.0) e w.2, refl)
    go false f s = inr (s, refl)

has_taken : (order fixed x : ℕ → ℕ) (p q : ℕ) → q < p → T (has order fixed p (order q)) × (reading order fixed x p (order q) ≡ x (order q))
unfolding has reading taken
has_taken order fixed x p q h = go (taken order p (order q)) (any_i p (λ r. eqb (order r) (order q)) q h (eqb_refl (order q)))
  where
    go : (b : Bool) → T b → T (b || not (free (fixed (order q)))) × (cond b (x (order q)) (fixed (order q)) ≡ x (order q))
    go true s = (tt, refl)
    go false s = absurd s

has_fixed : (order fixed : ℕ → ℕ) (p e : ℕ) → Fixed fixed e → T (has order fixed p e)
unfolding has
has_fixed order fixed p e s = or_r (taken order p e) _ s

module _ (n : ℕ) (order size : ℕ → ℕ) (R : Rel) (fixed x : ℕ → ℕ) (o : Order n order) (w : WellFormed n size R) where
  -- at each of the first m positions x has a reading that is left
  abbrev Chosen : ℕ → Type 0
  Chosen m = (q : ℕ) → q < m → Left n order R fixed x q (x (order q))

  chosen-pairs : (m : ℕ) → m ≤ n → Chosen m → (p q : ℕ) → p < m → q < m → T (R (order p) (order q) (x (order p)) (x (order q)))
  chosen-pairs m l c p q hp hq = elim (lt_or_ge p q) [
    | inl h ↦ (c q hq).chosen p h
    | inr h ↦ elim (eq-or-lt_of_le h) [
      | inl e ↦ subst (λ (k : ℕ). T (R (order k) (order q) (x (order k)) (x (order q)))) e (c q hq).keeps
      | inr k ↦ turned w (order q) (order p) (x (order q)) (x (order p)) (o.within q (omega arith)) (o.within p (omega arith)) ((c p hp).chosen q k)
    ]
  ]

  -- so no full reading that keeps the fixed readings comes before what the walk has chosen
  pub walked_least : (m : ℕ) → m ≤ n → Walked n order size R fixed x m → (y : ℕ → ℕ) → Full n R y → Keeps n fixed y → Same m order x y ⊎ Before m order x y
  walked_least zero l g y full keeps = inl (λ p h. absurd (omega arith))
  walked_least (suc m) l g y full keeps = next (walked_least m (omega arith) (λ p h. g p (omega arith)) y full keeps)
    where
      least : Same m order x y → x (order m) ≤ y (order m)
      least e = rw (g m (omega arith)) (first_found (size (order m)) (left n order R fixed x m) (y (order m)) (full-inside w y full (order m) (o.within m l)) (left_i n order R fixed x m (y (order m)) (full-left n order R fixed x y o full keeps m l e))).0

      next : Same m order x y ⊎ Before m order x y → Same (suc m) order x y ⊎ Before (suc m) order x y
      next (inl e) = elim (eq-or-lt_of_le (least e)) [
        | inl q ↦ inl (upto (λ p. x (order p) ≡ y (order p)) q e)
        | inr k ↦ inr (m, omega arith, e, k)
      ]
      next (inr b) = inr (b.0, omega (arith, b.1), b.2, b.3)

  module _ (s : Settled n R) (filled : T (not (empty n R))) (ok : Allowed n R fixed) (whole : WholeAlong n order size R fixed) where
    -- after choices that were left, a reading is left
    chosen-left : (p : ℕ) → p < n → Chosen p → (b : ℕ) × (b < size (order p)) × Left n order R fixed x p b
    chosen-left p h c =
        let hf = o.within p h in
        let r = step_lemma w s filled (order p) hf (stands size R (order p)) (λ i a b hi. stands-inside w s i (order p) a b hi hf) (has order fixed p) (reading order fixed x p) pairs rows in (
          r.0,
          (w.inside (order p) (order p) r.0 r.0 hf hf r.1).0,
          record {
            keeps = r.1;
            own = λ t. sym (w.same (order p) (fixed (order p)) r.0 hf (held r.0 r.2 (order p) hf t));
            chosen = λ q l. let k = has_taken order fixed x p q l in rw k.1 at (r.2 (order q) (o.within q (omega arith)) k.0);
            held = held r.0 r.2;
          },
        )
      where
        pairs : (i j : ℕ) → i < n → j < n → T (has order fixed p i) → T (has order fixed p j) → T (R i j (reading order fixed x p i) (reading order fixed x p j))
        pairs i j hi hj ti tj = elim (has_e order fixed x p i ti) [
          | inl u ↦ elim (has_e order fixed x p j tj) [
            | inl v ↦ rw (u.3, v.3, ← u.2, ← v.2) (chosen-pairs p (omega arith) c u.0 v.0 u.1 v.1)
            | inr v ↦ rw (u.3, v.1, ← u.2) (turned w j (order u.0) (fixed j) (x (order u.0)) hj (o.within u.0 (omega (arith, u.1))) ((c u.0 u.1).held j hj v.0))
          ]
          | inr u ↦ elim (has_e order fixed x p j tj) [
            | inl v ↦ rw (u.1, v.3, ← v.2) ((c v.0 v.1).held i hi u.0)
            | inr v ↦ rw (u.1, v.1) (ok i j hi hj u.0 v.0)
          ]
        ]

        rows : (g : ℕ) → g < n → T (has order fixed p g) → Whole (stands size R (order p)) (R g (order p) (reading order fixed x p g))
        rows g hg t = elim (has_e order fixed x p g t) [
          | inl u ↦ subst (λ (k : ℕ). Whole (stands size R (order p)) (R k (order p) (reading order fixed x p g))) u.2 (whole.earlier u.0 p (reading order fixed x p g) u.1 h)
          | inr u ↦ whole.held g p (reading order fixed x p g) hg h u.0
        ]

        held : (b : ℕ) → ((g : ℕ) → g < n → T (has order fixed p g) → T (R g (order p) (reading order fixed x p g) b)) → (g : ℕ) → g < n → Fixed fixed g → T (R g (order p) (fixed g) b)
        held b f g l t = elim (has_e order fixed x p g (has_fixed order fixed p g t)) [
          | inl u ↦ let e : x g ≡ fixed g = subst (λ (k : ℕ). x k ≡ fixed k) u.2 ((c u.0 u.1).own (rw u.2 t)) in rw (u.3 ∙ e) at (f g l (has_fixed order fixed p g t))
          | inr u ↦ rw u.1 at (f g l (has_fixed order fixed p g t))
        ]

    walked-chosen : (m : ℕ) → m ≤ n → Walked n order size R fixed x m → Chosen m
    walked-chosen zero l g = λ q h. absurd (omega arith)
    walked-chosen (suc m) l g =
        let before : Chosen m = walked-chosen m (omega arith) (λ q h. g q (omega arith)) in
        let b = chosen-left m l before in
        let found = first_found (size (order m)) (left n order R fixed x m) b.0 b.1 (left_i n order R fixed x m b.0 b.2) in
        upto (λ q. Left n order R fixed x q (x (order q))) (left_e n order R fixed x m (x (order m)) (rw (g m (omega arith)) found.1)) before

    -- at every position of the walk a reading is left
    pub walked_left : (p : ℕ) → p < n → Walked n order size R fixed x p → (b : ℕ) × (b < size (order p)) × T (left n order R fixed x p b)
    walked_left p h g =
        let b = chosen-left p h (walked-chosen p (omega arith) g) in
        (b.0, b.1, left_i n order R fixed x p b.0 b.2)

    -- what the walk ends with is the first full reading that keeps the fixed readings
    pub walked_first : Walked n order size R fixed x n → First n order R fixed x
    walked_first g = record {
      full = λ i j hi hj.
          let p = o.onto i hi in
          let q = o.onto j hj in
          rw (← p.2, ← q.2) (chosen-pairs n (le_refl n) chosen p.0 q.0 p.1 q.1);
      keeps = λ i hi t.
          let p = o.onto i hi in
          subst (λ (k : ℕ). x k ≡ fixed k) p.2 ((chosen p.0 p.1).own (rw p.2 t));
      least = walked_least n (le_refl n) g;
    }
      where
        chosen : Chosen n
        chosen = walked-chosen n (le_refl n) g

-- there is one walk
pub walked_unique : (n : ℕ) (order size : ℕ → ℕ) (R : Rel) (fixed x y : ℕ → ℕ) (m : ℕ) → Walked n order size R fixed x m → Walked n order size R fixed y m → Same m order x y
walked_unique n order size R fixed x y zero g k = λ p h. absurd (omega arith)
walked_unique n order size R fixed x y (suc m) g k =
    let e : Same m order x y = walked_unique n order size R fixed x y m (λ p h. g p (omega arith)) (λ p h. k p (omega arith)) in
    upto (λ p. x (order p) ≡ y (order p))
    (g m (omega arith) ∙ (first_same (size (order m)) (left n order R fixed x m) (left n order R fixed y m) (λ b h. left_same n order R fixed x y m b e) ∙ sym (k m (omega arith))))
    e

-- and `walk` goes it

put_here : (f v : ℕ) (x : ℕ → ℕ) → put f v x f ≡ v
unfolding put
put_here f v x = go (eqb f f) (eqb_refl f)
  where
    go : (b : Bool) → T b → cond b v (x f) ≡ v
    go true t = refl
    go false t = absurd t

put_else : (f v : ℕ) (x : ℕ → ℕ) (g : ℕ) → g ≢ f → put f v x g ≡ x g
unfolding put
put_else f v x g d = go (eqb g f) (λ t. d (eqb→eq g f t))
  where
    go : (b : Bool) → (T b → ⊥) → cond b v (x g) ≡ x g
    go true t = absurd (t tt)
    go false t = refl

pub walk_walked : (n : ℕ) (order size : ℕ → ℕ) (R : Rel) (fixed : ℕ → ℕ) → Order n order → (m : ℕ) → m ≤ n → Walked n order size R fixed (walk n order size R fixed m) m
unfolding walk
walk_walked n order size R fixed o zero l = λ p h. absurd (omega arith)
walk_walked n order size R fixed o (suc m) l = upto (λ p. next (order p) ≡ first (size (order p)) (left n order R fixed next p))
    (put_here (order m) v old ∙ same m (omega arith))
    (λ p h. keep p h ∙ (walk_walked n order size R fixed o m (omega arith) p h ∙ same p (omega arith)))
  where
    old : ℕ → ℕ
    old = walk n order size R fixed m

    v : ℕ
    v = first (size (order m)) (left n order R fixed old m)

    next : ℕ → ℕ
    next = put (order m) v old

    keep : (q : ℕ) → q < m → next (order q) ≡ old (order q)
    keep q h = put_else (order m) v old (order q) (λ e. let d : q ≡ m = onto_once n order o.within o.onto q m (omega arith) l e in omega arith)

    same : (p : ℕ) → p ≤ m → first (size (order p)) (left n order R fixed old p) ≡ first (size (order p)) (left n order R fixed next p)
    same p h = first_same (size (order p)) _ _ (λ b k. left_same n order R fixed old next p b (λ q j. sym (keep q (omega arith))))

-- there is one first reading

before_once : (n : ℕ) (order x y : ℕ → ℕ) → Before n order x y → Before n order y x → ⊥
before_once n order x y (p, hp, e, l) (q, hq, d, k) = elim (lt_or_ge p q) [
  | inl h ↦ omega (arith, d p h)
  | inr h ↦ elim (eq-or-lt_of_le h) [
    | inl i ↦ let u : x (order q) < y (order q) = rw i l in omega arith
    | inr h' ↦ omega (arith, e q h')
  ]
]

pub first_unique : {n : ℕ} {order : ℕ → ℕ} {R : Rel} {fixed x y : ℕ → ℕ} → Order n order → First n order R fixed x → First n order R fixed y → (i : ℕ) → i < n → x i ≡ y i
first_unique {n} {order} {R} {fixed} {x} {y} o f g i hi =
    let p = o.onto i hi in
    subst (λ (k : ℕ). x k ≡ y k) p.2 (pick (f.least y g.full g.keeps) (g.least x f.full f.keeps) p.0 p.1)
  where
    pick : Same n order x y ⊎ Before n order x y → Same n order y x ⊎ Before n order y x → Same n order x y
    pick (inl e) d = e
    pick (inr b) (inl e) = λ q h. sym (e q h)
    pick (inr b) (inr c) = absurd (before_once n order x y b c)

-- fixed readings that do not go together

pub keeps_allowed : (n : ℕ) (R : Rel) (fixed y : ℕ → ℕ) → Full n R y → Keeps n fixed y → Allowed n R fixed
keeps_allowed n R fixed y full keeps i j hi hj si sj = rw (keeps i hi si, keeps j hj sj) at (full i j hi hj)

-- one fixed reading is allowed where it is kept

pub only_here : (i a : ℕ) → only i a i ≡ a
unfolding only
only_here i a = put_here i a (λ g. 255)

only_e : (i a g : ℕ) → Fixed (only i a) g → g ≡ i
unfolding only put
only_e i a g t = go (eqb g i) (eqb→eq g i) t
  where
    go : (b : Bool) → (T b → g ≡ i) → T (not (free (cond b a 255))) → g ≡ i
    go true f s = f tt
    go false f s = absurd s

pub only_allowed : (n : ℕ) (R : Rel) (i a : ℕ) → T (kept R i a) → Allowed n R (only i a)
only_allowed n R i a t g h hg hh sg sh = rw (only_e i a g sg, only_e i a h sh, only_here i a) t

-- what `clash` tests
pub record Clash (R : Rel) (fixed : ℕ → ℕ) (i j : ℕ) : Type 0 where
  pub ordered : i ≤ j
  pub from : Fixed fixed i
  pub to : Fixed fixed j
  pub apart : T (not (R i j (fixed i) (fixed j)))

pub clash_e : (R : Rel) (fixed : ℕ → ℕ) (i j : ℕ) → T (clash R fixed i j) → Clash R fixed i j
unfolding clash
clash_e R fixed i j t =
    let u = and_r (leb i j) _ t in
    let v = and_l (not (free (fixed i) || free (fixed j))) _ u in
    record {
      ordered = leb→le i j (and_l (leb i j) _ t);
      from = not_i (free (fixed i)) (λ s. not_e (free (fixed i) || free (fixed j)) v (or_l (free (fixed i)) _ s));
      to = not_i (free (fixed j)) (λ s. not_e (free (fixed i) || free (fixed j)) v (or_r (free (fixed i)) _ s));
      apart = and_r (not (free (fixed i) || free (fixed j))) _ u;
    }

pub clash_i : (R : Rel) (fixed : ℕ → ℕ) (i j : ℕ) → Clash R fixed i j → T (clash R fixed i j)
unfolding clash
clash_i R fixed i j c =
    and_i (leb i j) _ (le→leb i j c.ordered)
    (and_i (not (free (fixed i) || free (fixed j))) _ (not_i (free (fixed i) || free (fixed j)) (λ t. not_e (free (fixed j)) c.to (or_use (free (fixed i)) _ t c.from)))
    c.apart)

-- the pair (clash_from, clash_to) clashes where any does, and none comes before it

pub clash-le : (n : ℕ) (R : Rel) (fixed : ℕ → ℕ) → clash_from n R fixed ≤ n
unfolding clash_from
clash-le n R fixed = first-le n (λ i. any n (clash R fixed i))

pub clash-found : (n : ℕ) (R : Rel) (fixed : ℕ → ℕ) → clash_from n R fixed < n → (clash_to n R fixed < n) × Clash R fixed (clash_from n R fixed) (clash_to n R fixed)
unfolding clash_from clash_to
clash-found n R fixed h =
    let i = clash_from n R fixed in
    let j = any_e n (clash R fixed i) (first_holds n (λ k. any n (clash R fixed k)) h) in
    let f = first_found n (clash R fixed i) j.0 j.1 j.2 in
    (omega (arith, j.1, f.0), clash_e R fixed i (clash_to n R fixed) f.1)

pub clash_least : (n : ℕ) (R : Rel) (fixed : ℕ → ℕ) (i j : ℕ) → i < n → j < n → Clash R fixed i j → (clash_from n R fixed < i) ⊎ ((clash_from n R fixed ≡ i) × (clash_to n R fixed ≤ j))
unfolding clash_from clash_to
clash_least n R fixed i j hi hj c =
    let t = clash_i R fixed i j c in
    let f = first_found n (λ k. any n (clash R fixed k)) i hi (any_i n (clash R fixed i) j hj t) in
    elim (eq-or-lt_of_le f.0) [
      | inl e ↦ inr (e, (first_found n (clash R fixed (clash_from n R fixed)) j hj (rw e t)).0)
      | inr l ↦ inl l
    ]

pub no_clash : {n : ℕ} {size : ℕ → ℕ} {R : Rel} → WellFormed n size R → (fixed : ℕ → ℕ) → (clash_from n R fixed ≡ n) ↔ Allowed n R fixed
unfolding clash_from
no_clash {n} {size} {R} w fixed = (
  λ e i j hi hj si sj. elim (lt_or_ge j i) [
    | inl h ↦ turned w j i (fixed j) (fixed i) hj hi (allowed e j i (omega arith) hi sj si)
    | inr h ↦ allowed e i j h hj si sj
  ],
  λ ok. (first_none n (λ i. any n (clash R fixed i))).1 (λ i hi t.
      let j = any_e n (clash R fixed i) t in
      let c = clash_e R fixed i j.0 j.2 in
      not_e (R i j.0 (fixed i) (fixed j.0)) c.apart (ok i j.0 hi j.1 c.from c.to)),
)
  where
    allowed : clash_from n R fixed ≡ n → (i j : ℕ) → i ≤ j → j < n → Fixed fixed i → Fixed fixed j → T (R i j (fixed i) (fixed j))
    allowed e i j h hj si sj = elim (known (R i j (fixed i) (fixed j))) [
      | inl t ↦ t
      | inr d ↦ absurd ((first_none n (λ k. any n (clash R fixed k))).0 e i (omega arith) (any_i n (clash R fixed i) j hj (clash_i R fixed i j (record { ordered = h; from = si; to = sj; apart = d }))))
    ]

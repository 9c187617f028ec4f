-- What an ascending list is, by its places, and what putting a number into one does.
use Rattle.std.specs.Prelude.{◌≡◌, refl, ◌⊎◌, true, ℕ, zero, suc, ◌≤◌, ◌<◌, T, ltb, length, get_or}
use Rattle.std.proofs.Common.{inl, inr, le_refl, le_antisymm, arith, ltb→lt, lt→ltb, lt-ltb, le-ltb, eq-eqb, ne_eqb}
use mathlib.Core.List.Memᴰ
use mathlib.Core.List.{List, [], ◌∷◌, Memᴰ}
use Rattle.theory.specs.BoundLaws.{and_i, and_l, and_r, lt_or_ge}
use Rattle.calendar.specs.Ascending.{rises_from, ascending, insert}

-- by its places

pub rises-above : (k : ℕ) (l : List ℕ) → T (rises_from k l) → (i : ℕ) → i < length l → k < get_or l i 0
unfolding rises_from
rises-above k [] h i b = absurd (omega arith)
rises-above k (x ∷ l) h zero b = ltb→lt k x (and_l (ltb k x) (rises_from x l) h)
rises-above k (x ∷ l) h (suc i) b = omega (arith, ltb→lt k x (and_l (ltb k x) (rises_from x l) h), rises-above x l (and_r (ltb k x) (rises_from x l) h) i (omega arith))

pub rises-ascending : (k : ℕ) (l : List ℕ) → T (rises_from k l) → T (ascending l)
unfolding rises_from ascending
rises-ascending k [] h = tt
rises-ascending k (x ∷ l) h = and_r (ltb k x) (rises_from x l) h

pub ascending_places : (l : List ℕ) → T (ascending l) → (i j : ℕ) → i < j → j < length l → get_or l i 0 < get_or l j 0
unfolding ascending
ascending_places [] h i j b c = absurd (omega arith)
ascending_places (x ∷ l) h i zero b c = absurd (omega arith)
ascending_places (x ∷ l) h zero (suc j) b c = rises-above x l h j (omega arith)
ascending_places (x ∷ l) h (suc i) (suc j) b c = ascending_places l (rises-ascending x l h) i j (omega arith) (omega arith)

-- insert by its three cases

-- n against the first number of a list
data Against (n x : ℕ) : Type 0 where
  under : n < x → Against n x
  same : n ≡ x → Against n x
  over : x < n → Against n x

against : (n x : ℕ) → Against n x
against n x = elim (lt_or_ge n x) [ inl l ↦ under l | inr g ↦ elim (lt_or_ge x n) [ inl l ↦ over l | inr h ↦ same (le_antisymm h g) ] ]

pub insert_under : (n x : ℕ) (l : List ℕ) → n < x → insert n (x ∷ l) ≡ n ∷ x ∷ l
unfolding insert
insert_under n x l h = rw (lt-ltb n x h)

pub insert_same : (n x : ℕ) (l : List ℕ) → n ≡ x → insert n (x ∷ l) ≡ x ∷ l
unfolding insert
insert_same n x l e = rw (le-ltb n x (omega arith), eq-eqb n x e)

pub insert_over : (n x : ℕ) (l : List ℕ) → x < n → insert n (x ∷ l) ≡ x ∷ insert n l
unfolding insert
insert_over n x l h = rw (le-ltb n x (omega arith), ne_eqb n x (λ e. omega arith))

insert-rises : (k n : ℕ) (l : List ℕ) → k < n → T (rises_from k l) → T (rises_from k (insert n l))
unfolding rises_from insert
insert-rises k n [] b h = and_i (ltb k n) true (lt→ltb k n b) tt
insert-rises k n (x ∷ l) b h = go (against n x) (insert-rises x n l)
  where
    r : T (rises_from x l)
    r = and_r (ltb k x) (rises_from x l) h

    go : Against n x → (x < n → T (rises_from x l) → T (rises_from x (insert n l))) → T (rises_from k (insert n (x ∷ l)))
    go (under u) f = rw (insert_under n x l u) (and_i (ltb k n) _ (lt→ltb k n b) (and_i (ltb n x) _ (lt→ltb n x u) r))
    go (same e) f = rw (insert_same n x l e) h
    go (over v) f = rw (insert_over n x l v) (and_i (ltb k x) _ (and_l (ltb k x) (rises_from x l) h) (f v r))

-- the list stays ascending
pub insert-ascending : (n : ℕ) (l : List ℕ) → T (ascending l) → T (ascending (insert n l))
unfolding ascending insert rises_from
insert-ascending n [] h = tt
insert-ascending n (x ∷ l) h = go (against n x)
  where
    go : Against n x → T (ascending (insert n (x ∷ l)))
    go (under u) = rw (insert_under n x l u) (and_i (ltb n x) _ (lt→ltb n x u) h)
    go (same e) = rw (insert_same n x l e) h
    go (over v) = rw (insert_over n x l v) (insert-rises x n l v h)

-- it holds n, and what it held
pub insert_has : (n x : ℕ) (l : List ℕ) → Memᴰ x (insert n l) → (x ≡ n) ⊎ Memᴰ x l
unfolding insert
insert_has n x [] m = Memᴰ.cases_cons m
insert_has n x (y ∷ l) m = go (against n y) (insert_has n x l)
  where
    further : (x ≡ n) ⊎ Memᴰ x l → (x ≡ n) ⊎ Memᴰ x (y ∷ l)
    further (inl e) = inl e
    further (inr k) = inr (Memᴰ.tail k)

    first : (Memᴰ x (insert n l) → (x ≡ n) ⊎ Memᴰ x l) → (x ≡ y) ⊎ Memᴰ x (insert n l) → (x ≡ n) ⊎ Memᴰ x (y ∷ l)
    first f (inl e) = inr (Memᴰ.head e)
    first f (inr k) = further (f k)

    go : Against n y → (Memᴰ x (insert n l) → (x ≡ n) ⊎ Memᴰ x l) → (x ≡ n) ⊎ Memᴰ x (y ∷ l)
    go (under u) f = Memᴰ.cases_cons (rw (insert_under n y l u) at m)
    go (same e) f = inr (rw (insert_same n y l e) at m)
    go (over v) f = first f (Memᴰ.cases_cons (rw (insert_over n y l v) at m))

pub insert_new : (n : ℕ) (l : List ℕ) → Memᴰ n (insert n l)
unfolding insert
insert_new n [] = Memᴰ.head refl
insert_new n (y ∷ l) = go (against n y) (insert_new n l)
  where
    go : Against n y → Memᴰ n (insert n l) → Memᴰ n (insert n (y ∷ l))
    go (under u) k = rw (insert_under n y l u) (Memᴰ.head refl)
    go (same e) k = rw (insert_same n y l e) (Memᴰ.head e)
    go (over v) k = rw (insert_over n y l v) (Memᴰ.tail k)

pub insert_old : (n x : ℕ) (l : List ℕ) → Memᴰ x l → Memᴰ x (insert n l)
insert_old n x [] m = absurd (Memᴰ.not-nil m)
insert_old n x (y ∷ l) m = go (against n y) (insert_old n x l) (Memᴰ.cases_cons m)
  where
    go : Against n y → (Memᴰ x l → Memᴰ x (insert n l)) → (x ≡ y) ⊎ Memᴰ x l → Memᴰ x (insert n (y ∷ l))
    go (under u) f k = rw (insert_under n y l u) (Memᴰ.tail m)
    go (same e) f k = rw (insert_same n y l e) m
    go (over v) f (inl e) = rw (insert_over n y l v) (Memᴰ.head e)
    go (over v) f (inr k) = rw (insert_over n y l v) (Memᴰ.tail (f k))

-- it grows by one at most
pub insert-length : (n : ℕ) (l : List ℕ) → length (insert n l) ≤ suc (length l)
unfolding insert
insert-length n [] = le_refl 1
insert-length n (y ∷ l) = go (against n y) (insert-length n l)
  where
    go : Against n y → length (insert n l) ≤ suc (length l) → length (insert n (y ∷ l)) ≤ suc (suc (length l))
    go (under u) k = rw (insert_under n y l u) (le_refl _)
    go (same e) k = rw (insert_same n y l e) (omega arith)
    go (over v) k = rw (insert_over n y l v) (omega arith)

-- a number below all stands first
pub insert-first : (n : ℕ) (l : List ℕ) → T (rises_from n l) → insert n l ≡ n ∷ l
unfolding insert rises_from
insert-first n [] h = refl
insert-first n (x ∷ l) h = insert_under n x l (ltb→lt n x (and_l (ltb n x) (rises_from x l) h))

-- A number carried along an ascending list that an array of k entries holds, zeros past it: at each place the lesser of the two stays, the greater goes on.
use mathlib.Core.Path.{◌≡◌, refl, sym, ap, ◌∙◌}
use mathlib.Core.List.{List, [], ◌∷◌, ◌++◌, append_assoc}
use Prim.Native.Nat.{ℕ, suc, ◌+◌, ◌-◌, ◌≤◌, ◌<◌}
use native.Mathlib.Omega.{arith}
use lib.Dec.{T}
use lib.ListN.{length, get_or, take, drop, set, replicate, length-append, length-drop, length-set, length-replicate, take-append-drop, drop_of_length-le}
use lib.Seq.{drop-cons, take-suc, take-suc-set, drop-set-lt, append_snoc, set_split, length-take-le}
use Rattle.calendar.specs.Ascending.{rises_from, ascending, insert}
use Rattle.calendar.specs.AscendingLaws.{rises-ascending, insert_under, insert_same, insert_over, insert-first}
use Rattle.calendar.specs.DateAnswers.{padded}

-- n was put into l, p places are done: d holds the places done and the rest of l, and x is carried
pub record Carried (k : ℕ) (l : List ℕ) (n : ℕ) (d : List ℕ) (x p : ℕ) : Type 0 where
  pub upto : p ≤ length l
  pub room : length l < k
  pub size : length d ≡ k
  pub rest : drop p d ≡ drop p l ++ replicate (k - length l) 0
  pub in_order : T (ascending (drop p l))
  pub put : take p d ++ insert x (drop p l) ≡ insert n l

pub carry_start : (k : ℕ) (l : List ℕ) (n : ℕ) (d : List ℕ) → length l < k → d ≡ padded k l → T (ascending l) → Carried k l n d n 0
carry_start k l n d h e o = record {
  upto = omega arith;
  room = h;
  size = ap length e ∙ length-append l _ ∙ ap (λ (m : ℕ). length l + m) (length-replicate (k - length l) 0) ∙ omega arith;
  rest = e;
  in_order = o;
  put = refl;
}

module _ {k : ℕ} {l : List ℕ} {n : ℕ} {d : List ℕ} {x p : ℕ} (c : Carried k l n d x p) (h : p < length l) where
  -- place p of the array is place p of the list
  place : get_or d p 0 ∷ drop (suc p) d ≡ get_or l p 0 ∷ (drop (suc p) l ++ replicate (k - length l) 0)
  place = sym (drop-cons d p 0 (omega arith)) ∙ c.rest ∙ ap (λ (r : List ℕ). r ++ replicate (k - length l) 0) (drop-cons l p 0 h)

  here : get_or d p 0 ≡ get_or l p 0
  here = cc place

  past : drop (suc p) d ≡ drop (suc p) l ++ replicate (k - length l) 0
  past = cc place

  split : drop p l ≡ get_or d p 0 ∷ drop (suc p) l
  split = rw here (drop-cons l p 0 h)

  above : T (rises_from (get_or d p 0) (drop (suc p) l))
  unfolding ascending
  above = rw split at c.in_order

  -- what is carried comes first: it stays, and what stood there goes on
  pub carry_under : x < get_or d p 0 → Carried k l n (set d p x) (get_or d p 0) (suc p)
  carry_under u = record {
    upto = h;
    room = c.room;
    size = length-set d p x ∙ c.size;
    rest = drop-set-lt (suc p) d p x (omega arith) ∙ past;
    in_order = rises-ascending _ _ above;
    put =
        rw (take-suc-set d p x (omega arith), append_snoc, insert-first _ _ above, ← insert_under x (get_or d p 0) (drop (suc p) l) u, ← split)
        c.put;
  }

  -- what stands there comes first
  pub carry_over : get_or d p 0 < x → Carried k l n d x (suc p)
  carry_over v = record {
    upto = h;
    room = c.room;
    size = c.size;
    rest = past;
    in_order = rises-ascending _ _ above;
    put =
        rw (take-suc d p 0 (omega arith), append_snoc, ← insert_over x (get_or d p 0) (drop (suc p) l) v, ← split)
        c.put;
  }

  -- what is carried stands there already
  pub carry_same : x ≡ get_or d p 0 → (length l ≡ length (insert n l)) × (d ≡ padded k (insert n l))
  carry_same e =
      let done : insert n l ≡ take p d ++ drop p l = sym c.put ∙ ap (λ (r : List ℕ). take p d ++ r) (rw split (insert_same x (get_or d p 0) (drop (suc p) l) e)) in
      let long : length l ≡ length (insert n l) = omega (arith, ap length done, length-append (take p d) (drop p l), length-take-le p d (omega arith), length-drop p l) in
      (long, rw (← long, done) (sym (append_assoc (take p d) (drop p l) _ ∙ ap (λ (r : List ℕ). take p d ++ r) (sym c.rest) ∙ take-append-drop p d)))

-- past the list, what is carried comes last
pub carry_end : {k : ℕ} {l : List ℕ} {n : ℕ} {d : List ℕ} {x p : ℕ} → Carried k l n d x p → length l ≤ p → (p + 1 ≡ length (insert n l)) × (set d p x ≡ padded k (insert n l))
unfolding insert
carry_end {k} {l} {n} {d} {x} {p} c h =
    let none : drop p l ≡ [] = drop_of_length-le l h in
    let done : take p d ++ (x ∷ []) ≡ insert n l = rw none at c.put in
    let long : p + 1 ≡ length (insert n l) = omega (arith, ap length done, length-append (take p d) (x ∷ []), length-take-le p d (omega arith)) in
    let left : k - length l ≡ suc (k - (p + 1)) = omega arith in
    let zeros : get_or d p 0 ∷ drop (suc p) d ≡ 0 ∷ replicate (k - (p + 1)) 0 = sym (drop-cons d p 0 (omega arith)) ∙ (rw none at c.rest) ∙ ap (λ (m : ℕ). replicate m 0) left in
    let after : drop (suc p) d ≡ replicate (k - (p + 1)) 0 = cc in
    (long, rw (← long, ← done) (set_split d p x (omega arith) ∙ rw (after, append_snoc)))

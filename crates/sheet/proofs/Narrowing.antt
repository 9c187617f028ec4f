-- Days in order are parted by a bound at one place, and the places move up from row to row.
use mathlib.Core.Path.{◌≡◌, sym, ap, ◌∙◌}
use mathlib.Core.Logic.{◌⊎◌, inl, inr}
use mathlib.Core.Bool.{Bool, ◌&&◌}
use mathlib.Core.List.{List}
use Prim.Native.Nat.{ℕ, ◌+◌, ◌≤◌, ◌<◌}
use native.Mathlib.Nat.{eq-or-lt_of_le}
use native.Mathlib.Omega.{arith}
use lib.Dec.{T, leb, ltb, leb→le, ltb→lt, le→leb, lt→ltb}
use lib.ListN.{length, get_or, set, length-set}
use lib.Seq.{get_or-set_same, get_or-set_other}
use borrow.Author.Count.{below_more}
use borrow.Author.Tests.{lt-ltb, le-ltb}
use Rattle.theory.specs.BoundLaws.{and_i, and_l, and_r, T_ext, lt_or_ge}
use Rattle.words.specs.Word.{bit}
use Rattle.words.specs.WordLaws.{pack_same}
use Rattle.calendar.specs.Ascending.{ascending}
use Rattle.calendar.specs.AscendingLaws.{ascending_places}
use Rattle.table.specs.LayoutLaws.{tabulate_of}
use Rattle.sheet.specs.Opening.{admits}
use Rattle.sheet.specs.Writing.{Below, Parts, TwoFields, between, narrowed_row, narrowed}

-- the place that parts

-- a later day is no smaller
later : (days : List ℕ) → T (ascending days) → (a b : ℕ) → a ≤ b → b < length days → get_or days a 0 ≤ get_or days b 0
later days r a b h l = go (eq-or-lt_of_le h)
  where
    go : (a ≡ b) ⊎ (a < b) → get_or days a 0 ≤ get_or days b 0
    go (inl e) = rw e (omega arith)
    go (inr m) = omega (arith, ascending_places days r a b m l)

pub parts_here : {days : List ℕ} {k bound : ℕ} → Below days k bound → k < length days → bound ≤ get_or days k 0 + 32768 → Parts days bound k
parts_here {days} {k} {bound} i h g = record {
  within = i.within;
  below = i.below;
  above = λ b m l. omega (arith, later days i.in_order k b m l);
}

-- the rows before a are narrowed, and from and to part the days for the rows from a on
pub record Narrows (first second : List ℕ) (lo hi : ℕ) (cell₀ cell : List ℕ) (a from to : ℕ) : Type 0 where
  pub two : TwoFields first second
  pub long : length cell ≡ length cell₀
  pub done : (p : ℕ) → p < a → get_or cell p 0 ≡ narrowed_row first second lo hi p (get_or cell₀ p 0)
  pub left : (p : ℕ) → a ≤ p → get_or cell p 0 ≡ get_or cell₀ p 0
  pub low : (c : ℕ) → a ≤ c → c < length first → Below second from (get_or first c 0 + lo)
  pub high : (c : ℕ) → a ≤ c → c < length first → Below second to (get_or first c 0 + hi + 1)

-- what lies between the two places is what the interval admits
admitted : (second : List ℕ) (d lo hi from to b : ℕ) → Parts second (d + lo) from → Parts second (d + hi + 1) to → (leb from b && ltb b to) ≡ (ltb b (length second) && admits lo hi d (get_or second b 0))
unfolding admits
admitted second d lo hi from to b p q =
    T_ext (leb from b && ltb b to) (ltb b (length second) && (leb (d + lo) (e + 32768) && leb (e + 32768) (d + hi))) there back
  where
    e : ℕ
    e = get_or second b 0

    there : T (leb from b && ltb b to) → T (ltb b (length second) && (leb (d + lo) (e + 32768) && leb (e + 32768) (d + hi)))
    there t =
        let f = leb→le from b (and_l (leb from b) (ltb b to) t) in
        let g = ltb→lt b to (and_r (leb from b) (ltb b to) t) in
        and_i (ltb b (length second)) (leb (d + lo) (e + 32768) && leb (e + 32768) (d + hi)) (lt→ltb b (length second) (omega (arith, q.within)))
        (and_i (leb (d + lo) (e + 32768)) (leb (e + 32768) (d + hi)) (le→leb (d + lo) (e + 32768) (p.above b f (omega (arith, q.within)))) (le→leb (e + 32768) (d + hi) (omega (arith, q.below b g))))

    back : T (ltb b (length second) && (leb (d + lo) (e + 32768) && leb (e + 32768) (d + hi))) → T (leb from b && ltb b to)
    back t =
        let l = ltb→lt b (length second) (and_l (ltb b (length second)) (leb (d + lo) (e + 32768) && leb (e + 32768) (d + hi)) t) in
        let s = and_r (ltb b (length second)) (leb (d + lo) (e + 32768) && leb (e + 32768) (d + hi)) t in
        let u = leb→le (d + lo) (e + 32768) (and_l (leb (d + lo) (e + 32768)) (leb (e + 32768) (d + hi)) s) in
        let v = leb→le (e + 32768) (d + hi) (and_r (leb (d + lo) (e + 32768)) (leb (e + 32768) (d + hi)) s) in
        and_i (leb from b) (ltb b to)
        (elim (lt_or_ge b from) [ inl x ↦ absurd (omega (arith, p.below b x)) | inr x ↦ le→leb from b x ])
        (elim (lt_or_ge b to) [ inl x ↦ lt→ltb b to x | inr x ↦ absurd (omega (arith, q.above b x l)) ])

row-narrowed : (first second : List ℕ) (lo hi a w from to : ℕ) → a < length first → Parts second (get_or first a 0 + lo) from → Parts second (get_or first a 0 + hi + 1) to → between w from to ≡ narrowed_row first second lo hi a w
unfolding between narrowed_row
row-narrowed first second lo hi a w from to h p q =
    pack_same 32 _ _ (λ b l. ap (λ (x : Bool). bit w b && x) (admitted second (get_or first a 0) lo hi from to b p q))
    ∙ rw (lt-ltb a (length first) h)

pub narrows_more : {first second : List ℕ} {lo hi : ℕ} {cell₀ cell : List ℕ} {a from to : ℕ} → Narrows first second lo hi cell₀ cell a from to → a < length first → a < length cell → (from' to' w : ℕ) → Parts second (get_or first a 0 + lo) from' → Parts second (get_or first a 0 + hi + 1) to' → w ≡ between (get_or cell a 0) from' to' → Narrows first second lo hi cell₀ (set cell a w) (a + 1) from' to'
narrows_more {first} {second} {lo} {hi} {cell₀} {cell} {a} i h m from' to' w p q e = record {
  two = i.two;
  long = length-set cell a w ∙ i.long;
  done =
      below_more _ a
      (λ k l. get_or-set_other cell a k w 0 (λ x. omega arith) ∙ i.done k l)
      (get_or-set_same cell a w 0 m ∙ e ∙ row-narrowed first second lo hi a (get_or cell a 0) from' to' h p q ∙ ap (narrowed_row first second lo hi a) (i.left a (omega arith)));
  left = λ k l. get_or-set_other cell a k w 0 (λ x. omega arith) ∙ i.left k (omega arith);
  low = λ c l k. record {
    in_order = i.two.second_rise;
    within = p.within;
    below = λ b x. omega (arith, p.below b x, later first i.two.first_rise a c (omega arith) k);
  };
  high = λ c l k. record {
    in_order = i.two.second_rise;
    within = q.within;
    below = λ b x. omega (arith, q.below b x, later first i.two.first_rise a c (omega arith) k);
  };
}

row-left : (first second : List ℕ) (lo hi a w : ℕ) → length first ≤ a → narrowed_row first second lo hi a w ≡ w
unfolding narrowed_row
row-left first second lo hi a w h = rw (le-ltb a (length first) h)

pub narrows_all : {first second : List ℕ} {lo hi : ℕ} {cell₀ cell : List ℕ} {a from to : ℕ} → Narrows first second lo hi cell₀ cell a from to → length first ≤ a → cell ≡ narrowed first second lo hi cell₀
unfolding narrowed
narrows_all {first} {second} {lo} {hi} {cell₀} {cell} {a} i h =
    tabulate_of (length cell₀) _ cell i.long
    (λ p l. elim (lt_or_ge p a) [ inl x ↦ i.done p x | inr x ↦ i.left p x ∙ sym (row-left first second lo hi p (get_or cell₀ p 0) (omega arith)) ])

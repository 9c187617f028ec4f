-- The loops over a field's days: days written before zeros, days that climb, days that are not over the last.
use mathlib.Core.Path.{◌≡◌, refl, sym, ap, ap₂, ◌∙◌}
use mathlib.Core.Bool.{Bool, true, false}
use mathlib.Core.Logic.{◌⊎◌, inl, inr}
use mathlib.Core.List.{List, [], ◌∷◌, ◌++◌, append_assoc}
use Prim.Native.Nat.{ℕ, zero, suc, ◌+◌, ◌-◌, ◌≤◌, ◌<◌}
use native.Mathlib.Nat.{le_refl, sub-zero, zero-add, zero-sub, suc-sub-suc}
use native.Mathlib.Numerals.{add-one}
use native.Mathlib.Omega.{arith}
use lib.Dec.{T, leb, ltb, leb→le, le→leb}
use lib.ListN.{length, get_or, set, take, drop, replicate, length-replicate, replicate-append-replicate}
use Rattle.std.specs.List.{IsAllAdjacentAnswer}
use Rattle.std.proofs.lemmas.List.Edits.{paste_more, paste_all}
use Rattle.std.proofs.lemmas.Bool.Decides.{nat_tests}
use lib.Seq.{paste, take_at}
use Rattle.theory.specs.Limits.{readings_most}
use Rattle.theory.specs.Bound.{all}
use Rattle.theory.specs.BoundLaws.{and_i, T_ext, all_i, all_e, lt_or_ge}
use Rattle.calendar.specs.Calendar.{last_day}
use Rattle.calendar.specs.Ascending.{ascending, rises_from}
use Rattle.calendar.specs.AscendingLaws.{ascending_places}
use Rattle.calendar.specs.DateText.{dates_most}
use Rattle.calendar.specs.DateAnswers.{padded}
use Rattle.table.specs.Layout.{tabulate}
use Rattle.table.specs.LayoutLaws.{length-tabulate, get_or-tabulate}
use Rattle.scan.specs.Sheet.{early}

-- zeros, of which the first are written over

abbrev zeros : ℕ → List ℕ
zeros n = replicate n 0

drop-zeros : (k n : ℕ) → drop k (zeros n) ≡ zeros (n - k)
drop-zeros zero n = rw (sub-zero n)
drop-zeros (suc k) zero = rw (zero-sub (suc k))
drop-zeros (suc k) (suc n) = drop-zeros k n ∙ rw (suc-sub-suc n k)

-- numbers written over the first zeros, one a turn
pub listing_more : (n m k : ℕ) (f : ℕ → ℕ) (l : List ℕ) (v : ℕ) → m ≤ n → k < m → v ≡ f k → l ≡ paste (zeros n) 0 (tabulate m f) k → set l k v ≡ paste (zeros n) 0 (tabulate m f) (k + 1)
listing_more n m k f l v h g w e =
    ap₂ (λ (x : List ℕ) (y : ℕ). set x k y) e (w ∙ sym (get_or-tabulate m f k g))
    ∙ ap (λ (p : ℕ). set (paste (zeros n) 0 (tabulate m f) k) p (get_or (tabulate m f) k 0)) (sym (zero-add k))
    ∙ paste_more (zeros n) 0 (tabulate m f) k 0 (rw length-replicate (omega arith)) (rw length-tabulate g)

pub listed_all : (n m : ℕ) (f : ℕ → ℕ) → paste (zeros n) 0 (tabulate m f) m ≡ padded n (tabulate m f)
listed_all n m f = paste_all (zeros n) 0 (tabulate m f) m (sym (length-tabulate m f)) ∙ rw (zero-add, drop-zeros, length-tabulate)

pub take-padded : (n k : ℕ) (f : ℕ → ℕ) (l : List ℕ) → l ≡ padded n (tabulate k f) → take k l ≡ tabulate k f
take-padded n k f l e = rw e (take_at (tabulate k f) _ k (length-tabulate k f))

-- a text's days, then zeros
pub padded-wide : (d : List ℕ) → length d ≤ dates_most → padded dates_most d ++ zeros (readings_most - dates_most) ≡ padded readings_most d
padded-wide d h =
    append_assoc d (zeros (dates_most - length d)) (zeros (readings_most - dates_most))
    ∙ ap (λ (l : List ℕ). d ++ l)
    (replicate-append-replicate (dates_most - length d) (readings_most - dates_most) 0
    ∙ ap (λ (k : ℕ). zeros k) {x = dates_most - length d + (readings_most - dates_most)} {y = readings_most - length d} (omega arith))

-- days each below the next climb
climbs : (x : ℕ) (l : List ℕ) → ((k : ℕ) → suc k < length (x ∷ l) → ltb (get_or (x ∷ l) k 0) (get_or (x ∷ l) (suc k) 0) ≡ true) → T (rises_from x l)
unfolding rises_from
climbs x [] h = tt
climbs x (y ∷ l) h = and_i (ltb x y) (rises_from y l) (rw (h 0 (omega arith)) tt) (climbs y l (λ k b. h (suc k) (omega arith)))

pub ascending_by_steps : (days : List ℕ) (r : Bool) → IsAllAdjacentAnswer (λ x y b. b ≡ ltb x y) days r → r ≡ ascending days
unfolding ascending
ascending_by_steps [] true h = refl
ascending_by_steps (x ∷ l) true h = T_ext true (rises_from x l) (λ t. climbs x l (λ k b. sym (rw add-one at (h k 0 (omega arith))))) (λ t. tt)
ascending_by_steps days false h = T_ext false (ascending days) absurd (λ t. grind (arith, nat_tests, h.2 0, ascending_places days t h.0 (h.0 + 1) (omega arith) (omega (arith, h.1))))

-- of days that climb the last is the latest

before_last : (days : List ℕ) → T (ascending days) → (k : ℕ) → k < length days → (k < length days - 1) ⊎ (length days - 1 ≤ k) → get_or days k 0 ≤ get_or days (length days - 1) 0
before_last days climb k h (inl l) = let q : get_or days k 0 < get_or days (length days - 1) 0 = ascending_places days climb k (length days - 1) l (omega arith) in omega (arith, q)
before_last days climb k h (inr g) = let e : k ≡ length days - 1 = omega arith in rw e (le_refl _)

pub early_by_last : (days : List ℕ) → T (ascending days) → 0 < length days → leb (get_or days (length days - 1) 0) last_day ≡ early days
unfolding early
early_by_last days climb h =
    T_ext (leb (get_or days (length days - 1) 0) last_day) (all (length days) (λ k. leb (get_or days k 0) last_day))
    (λ t. all_i (length days) (λ k. leb (get_or days k 0) last_day)
    (λ k b.
    let q : get_or days k 0 ≤ get_or days (length days - 1) 0 = before_last days climb k b (lt_or_ge k (length days - 1)) in
    let r : get_or days (length days - 1) 0 ≤ last_day = leb→le (get_or days (length days - 1) 0) last_day t in
    le→leb (get_or days k 0) last_day (omega (arith, q, r))))
    (λ t. all_e (length days) (λ k. leb (get_or days k 0) last_day) t (length days - 1) (omega arith))

pub early_of_none : (days : List ℕ) → length days ≡ 0 → true ≡ early days
unfolding early
early_of_none days e = T_ext true (all (length days) (λ k. leb (get_or days k 0) last_day)) (λ _. all_i (length days) (λ k. leb (get_or days k 0) last_day) (λ k b. absurd (omega (arith, b, e)))) (λ _. tt)

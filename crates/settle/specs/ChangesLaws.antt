-- No row would change exactly when the table is settled; the first that would lies on or above the diagonal.
use Rattle.std.specs.Prelude.{◌≡◌, refl, ◌⊎◌, Bool, [], ◌∷◌, ℕ, ◌≤◌, ◌<◌, T, leb, ltb, cond, Option, Some, None, option_map}
use Rattle.std.proofs.Common.{sym, ap, subst, ◌∙◌, inl, inr, arith, le→leb, lit≤}
use Rattle.theory.specs.Limits.{readings_most}
use Rattle.theory.specs.Bound.{first}
use Rattle.theory.specs.BoundLaws.{and_i, and_r, lt_or_ge, any_i, any_e, first_is, first-le, first_holds, first_least}
use Rattle.theory.specs.Relation.{Rel, Settled}
use Rattle.theory.proofs.RelationLaws.{within_settled, settled_unchanged}
use Rattle.refusal.specs.Said.{Said, says, refused}
use Rattle.refusal.specs.declared.Refusal.TheVariants.{Unsettled}
use Rattle.table.specs.Layout.{table_rows, table_row, row_number, at, first_row, some_first, some_first_row}
use Rattle.table.specs.LayoutLaws.{Narrow, row_in, row_of_number, number_of_row, number_by_field}
use Rattle.table.specs.Checks.{Check}
use Rattle.table.specs.CheckLaws.{check_of, passed, refused_on}
use Rattle.table.specs.ShapeLaws.{Clear, check-rows}
use Rattle.table.specs.declared.layout.Row.{Row}
use Rattle.settle.specs.Round.{lost, changed_row, Turned}
use Rattle.settle.specs.RoundLaws.{lost_in, lost_out, not-lost, lost-turned}
use Rattle.settle.specs.Changes.{after_settled, said_changed, changed_above}

-- rows that would change

pub changed_i : (n : ℕ) (R : Rel) (i j a b : ℕ) → b < readings_most → T (lost n R i j a b) → T (changed_row n R i j a)
unfolding changed_row
changed_i n R i j a b hb t = any_i readings_most (lost n R i j a) b hb t

pub changed_e : (n : ℕ) (R : Rel) (i j a : ℕ) → T (changed_row n R i j a) → (b : ℕ) × (b < readings_most) × T (lost n R i j a b)
unfolding changed_row
changed_e n R i j a t = any_e readings_most (lost n R i j a) t

pub settled-clear : (n : ℕ) (R : Rel) → Settled n R → Clear n (changed_row n R)
settled-clear n R s i j a hi hj ha t =
    let e = changed_e n R i j a t in
    lost_out n R i j a e.0 e.2 (rw (settled_unchanged n R s i j a e.0 hi hj) (lost_in n R i j a e.0 e.2))

pub clear-settled : (n : ℕ) (R : Rel) → Narrow n R → Clear n (changed_row n R) → Settled n R
clear-settled n R w f = within_settled n R (λ i j a b hi hj t. let l = w i j a b hi hj t in not-lost n R i j a b t (λ s. f i j a hi hj l.0 (changed_i n R i j a b l.1 s)))

-- 8 refuses exactly what is not settled
pub check-settled : (n : ℕ) (R : Rel) → Narrow n R → Check (Settled n R) (after_settled n R)
check-settled n R w = check_of (clear-settled n R w) (settled-clear n R) (check-rows 8 n (changed_row n R) (lit≤ tt))

-- what the answer tells whoever asked

module _ (n : ℕ) (R : Rel) (w : Narrow n R) {x : Option Row} (e : said_changed x ≡ after_settled n R (says 0 [])) where
  -- the row is refused, whatever comes after
  pub told-row : (r : Row) → x ≡ Some r → (rest : Said) → refused (Unsettled r.i r.j r.a) ≡ after_settled n R rest
  told-row r h = refused_on (check-settled n R w) (Unsettled r.i r.j r.a) (sym (ap said_changed h) ∙ e)

  pub told-settled : x ≡ None → Settled n R
  told-settled h = passed (check-settled n R w) (sym (ap said_changed h) ∙ e)

  -- and what comes after has the word
  pub told_on : x ≡ None → (rest : Said) → rest ≡ after_settled n R rest
  told_on h rest = sym ((check-settled n R w).passes (told-settled h) rest)

-- an answer that says the same is the same

pub changed_determined : (x y : Option Row) → said_changed x ≡ said_changed y → x ≡ y
changed_determined (Some r) (Some q) p =
    let v : r.i ∷ r.j ∷ r.a ∷ [] ≡ q.i ∷ q.j ∷ q.a ∷ [] = ap (λ (s : Said). s.values) p in
    let i : r.i ≡ q.i = cc in
    let j : r.j ≡ q.j = cc in
    let a : r.a ≡ q.a = cc in
    ap Some (λ x. record { i = i x; j = j x; a = a x })
changed_determined (Some r) None p = let z : ◌≡◌ {A = ℕ} 8 0 = ap (λ (s : Said). s.state) p in absurd (omega arith)
changed_determined None (Some r) p = let z : ◌≡◌ {A = ℕ} 0 8 = ap (λ (s : Said). s.state) p in absurd (omega arith)
changed_determined None None p = refl

-- a row below the diagonal has an earlier partner
pub above-first : (n : ℕ) (R : Rel) → Turned n R → Narrow n R → first_row n (changed_above n R) ≡ first_row n (changed_row n R)
unfolding changed_above
above-first n R turn w = sym (first_is (table_rows n) (λ p. at (changed_row n R) (table_row n p)) k (first-le (table_rows n) above) hit none)
  where
    above : ℕ → Bool
    above p = at (changed_above n R) (table_row n p)

    k : ℕ
    k = first (table_rows n) above

    hit : k < table_rows n → T (at (changed_row n R) (table_row n k))
    hit l = and_r (leb (table_row n k).i (table_row n k).j) (at (changed_row n R) (table_row n k)) (first_holds (table_rows n) above l)

    none : (q : ℕ) → q < k → T (at (changed_row n R) (table_row n q)) → ⊥
    none q l t = go (lt_or_ge j i)
      where
        i : ℕ
        i = (table_row n q).i

        j : ℕ
        j = (table_row n q).j

        a : ℕ
        a = (table_row n q).a

        hq : q < table_rows n
        hq = omega (arith, first-le (table_rows n) above)

        go : (j < i) ⊎ (i ≤ j) → ⊥
        go (inr g) = first_least (table_rows n) above q l (and_i (leb i j) _ (le→leb i j g) t)
        go (inl h) =
            let r = row_in n q hq in
            let (b, hb, s) = changed_e n R i j a t in
            let m = w i j a b r.first r.second (lost_in n R i j a b s) in
            first_least (table_rows n) above (row_number n j i b)
            (omega (arith, number_of_row n q, number_by_field n j i b i j a r.first hb h))
            (subst (λ (x : Row). T (at (changed_above n R) x)) (sym (row_of_number n j i b r.first hb))
            (and_i (leb j i) _ (le→leb j i (omega arith)) (changed_i n R j i b a m.0 (lost-turned n R turn i j a b r.first r.second s))))

pub above_first : (n : ℕ) (R : Rel) → Turned n R → Narrow n R → some_first_row n (changed_above n R) ≡ some_first_row n (changed_row n R)
unfolding some_first_row some_first
above_first n R turn w = ap (λ (f : ℕ). option_map (table_row n) (cond (ltb f (table_rows n)) (Some f) None)) (above-first n R turn w)

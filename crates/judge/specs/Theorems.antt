-- The theorems of what is asked of a table, each beside the sentence of 01 that it carries.
use Rattle.std.specs.Prelude.{◌≡◌, refl, ◌↔◌, ◌⊎◌, Bool, true, false, not, List, [], ◌∷◌, T, Option, Result}
use Rattle.std.proofs.Common.{sym, subst, ◌∙◌, arith, lt-ltb, le-ltb, eq-eqb, ne_eqb}
use Rattle.std.proofs.Math.Path.{ap}
use Rattle.std.proofs.Math.Logic.{inl, inr}
use Rattle.std.proofs.Math.Bool.{cond}
use Prim.Native.Nat.{ℕ, ◌+◌, ◌*◌, ◌≤◌, ◌<◌}
use Rattle.std.proofs.Math.Arith.{digits_lt}
use Rattle.std.proofs.Math.ListN.{length}
use Rattle.theory.specs.Limits.{readings_most}
use Rattle.theory.specs.Bound.{first}
use Rattle.theory.specs.BoundLaws.{not_i, not_e, not-not, first-le, first_holds, first_least, first_none, lt_or_ge}
use Rattle.theory.specs.Relation.{Rel, WellFormed}
use Rattle.theory.proofs.RelationLaws.{pair_small}
use Rattle.theory.specs.Reading.{kept_count}
use Rattle.theory.specs.Rows.{stands, Whole, whole, WholeRows}
use Rattle.theory.proofs.RowsLaws.{whole_i, whole_e, whole_rows_e}
use Rattle.refusal.specs.Said.{Said, says}
use Rattle.refusal.specs.declared.Refusal.{Refusal}
use Rattle.table.specs.declared.layout.Row.{Row}
use Rattle.table.specs.Layout.{table_length, cell_start, cell_of, rel, search_rows, search_row, row_number, at, RowIn, size_of}
use Rattle.table.specs.LayoutLaws.{row_in, number_in, row_of_number, search_is_table, cell_long}
use Rattle.table.specs.Checks.{Refuses}
use Rattle.table.specs.Shape.{row_place, GoodTable}
use Rattle.table.specs.ShapeLaws.{check_shape}
use Rattle.judge.specs.declared.showing.Shown.{Shown}
use Rattle.judge.specs.Answers.{said_kept, said_row, said_rows, said_shown}
use Rattle.judge.specs.AnswerLaws.{some, kept-determined, row-determined, rows-determined, shown-determined}
use Rattle.judge.specs.Asked.{kept_says, broken_row, at_first_broken, rows_says, after_show, from_opening, show_says, shown_words, GoodShow}
use Rattle.judge.specs.AskedLaws.{check_field, check_show}

-- 1. "their number is reported when one field is asked about": of a good table and one of its fields, the number of readings kept

pub kept_is_the_count : (sizes t : List ℕ) (f : ℕ) → GoodTable sizes t → f < length sizes → kept_says sizes t f ≡ says 0 (kept_count (rel (length sizes) t) f ∷ [])
unfolding kept_says
kept_is_the_count sizes t f g h = (check_shape sizes t).passes g _ ∙ (check_field (length sizes) f).passes h _

-- 2. "A table is whole when all rows are; otherwise the answer names the first broken row, the search ending there."

-- the row (i, j, a) is broken, and none is that comes before it in the search
pub record FirstBroken (n : ℕ) (size : ℕ → ℕ) (R : Rel) (i j a : ℕ) : Type 0 where
  pub place : ℕ
  pub within : place < search_rows n
  pub is : search_row n place ≡ record { i = i; j = j; a = a }
  pub inside : RowIn n (record { i = i; j = j; a = a })
  pub broken : Whole (stands size R j) (R i j a) → ⊥
  pub before : (q : ℕ) → q < place → Whole (stands size R (search_row n q).j) (R (search_row n q).i (search_row n q).j (search_row n q).a)

-- what judging says of R
pub data Judged (n : ℕ) (size : ℕ → ℕ) (R : Rel) : Said → Type 0 where
  all_whole : WholeRows n size R → Judged n size R (says 0 [])
  first_broken : {i j a : ℕ} → FirstBroken n size R i j a → Judged n size R (says 0 (i ∷ j ∷ a ∷ []))

-- what the search ends with
abbrev Searched : (n : ℕ) (size : ℕ → ℕ) → Rel → Type 0
Searched n size R =
    (WholeRows n size R × (at_first_broken 0 n size R (says 0 []) ≡ says 0 []))
    ⊎ ((r : Row) × FirstBroken n size R r.i r.j r.a × (at_first_broken 0 n size R (says 0 []) ≡ says 0 (row_place r)))

module _ (n : ℕ) (size : ℕ → ℕ) (R : Rel) where
  -- row q of the search is broken
  abbrev Broken : ℕ → Bool
  Broken q = at (broken_row size R) (search_row n q)

  Here : ℕ → Type 0
  Here q = Whole (stands size R (search_row n q).j) (R (search_row n q).i (search_row n q).j (search_row n q).a)

  module _ (w : WellFormed n size R) where
    row_inside : (q : ℕ) → q < search_rows n → RowIn n (search_row n q)
    row_inside q h = subst (RowIn n) (sym (search_is_table n q)) (row_in n q h)

    broken-e : (q : ℕ) → T (Broken q) → Here q → ⊥
    unfolding broken_row Here
    broken-e q t f = not_e (whole (stands size R (search_row n q).j) (R (search_row n q).i (search_row n q).j (search_row n q).a)) t (whole_i _ _ f)

    whole-at : (q : ℕ) → q < search_rows n → (T (Broken q) → ⊥) → Here q
    unfolding broken_row Here
    whole-at q h f =
        let r = row_inside q h in
        whole_e (stands size R (search_row n q).j) (R (search_row n q).i (search_row n q).j (search_row n q).a)
        (λ b s. (pair_small w (search_row n q).i (search_row n q).j (search_row n q).a b r.first r.second s).1)
        (not-not (whole (stands size R (search_row n q).j) (R (search_row n q).i (search_row n q).j (search_row n q).a))
        (not_i (not (whole (stands size R (search_row n q).j) (R (search_row n q).i (search_row n q).j (search_row n q).a))) f))

    all_whole_lem : ((q : ℕ) → q < search_rows n → T (Broken q) → ⊥) → WholeRows n size R
    all_whole_lem f = whole_rows_e w (λ i j a hi hj ha.
        let e = search_is_table n (row_number n i j a) ∙ row_of_number n i j a hj ha in
        whole_i _ _ (subst (λ (r : Row). Whole (stands size R r.j) (R r.i r.j r.a)) e
        (unfold Here in whole-at (row_number n i j a) (number_in n i j a hi hj ha) (f (row_number n i j a) (number_in n i j a hi hj ha)))))

    none-broken : WholeRows n size R → (q : ℕ) → q < search_rows n → T (Broken q) → ⊥
    none-broken f q h t = let r = row_inside q h in broken-e q t (unfold Here in f (search_row n q).i (search_row n q).j (search_row n q).a r.first r.second)

    -- the search ends at the first broken row, or finds every row whole
    searched : Searched n size R
    unfolding Here
    searched = go (lt_or_ge (first (search_rows n) Broken) (search_rows n))
      where
        p : ℕ
        p = first (search_rows n) Broken

        go : (p < search_rows n) ⊎ (search_rows n ≤ p) → Searched n size R
        go (inl l) = inr (
          search_row n p,
          record {
            place = p;
            within = l;
            is = refl;
            inside = row_inside p l;
            broken = broken-e p (first_holds (search_rows n) Broken l);
            before = λ q h. whole-at q (omega (arith, h, l)) (first_least (search_rows n) Broken q h);
          },
          ap (λ (b : Bool). cond b (says 0 (row_place (search_row n p))) (says 0 [])) (lt-ltb p (search_rows n) l),
        )
        go (inr h) = inl (
          all_whole_lem ((first_none (search_rows n) Broken).0 (omega (arith, h, first-le (search_rows n) Broken))),
          ap (λ (b : Bool). cond b (says 0 (row_place (search_row n p))) (says 0 [])) (le-ltb p (search_rows n) h),
        )

-- the answer on a good table: nothing where the rows are whole, and else the first broken row
pub rows_are_judged : (sizes t : List ℕ) → GoodTable sizes t → Judged (length sizes) (size_of sizes) (rel (length sizes) t) (rows_says sizes t)
unfolding rows_says
rows_are_judged sizes t g = subst (Judged (length sizes) (size_of sizes) (rel (length sizes) t)) (sym ((check_shape sizes t).passes g _))
    (go (searched (length sizes) (size_of sizes) (rel (length sizes) t) g.formed))
  where
    go : Searched (length sizes) (size_of sizes) (rel (length sizes) t) → Judged (length sizes) (size_of sizes) (rel (length sizes) t)
        (at_first_broken 0 (length sizes) (size_of sizes) (rel (length sizes) t) (says 0 []))
    go (inl h) = subst (Judged (length sizes) (size_of sizes) (rel (length sizes) t)) (sym h.1) (all_whole h.0)
    go (inr h) = subst (Judged (length sizes) (size_of sizes) (rel (length sizes) t)) (sym h.2) (first_broken h.1)

pub whole_is_said_iff_whole : (sizes t : List ℕ) → GoodTable sizes t → (rows_says sizes t ≡ says 0 []) ↔ WholeRows (length sizes) (size_of sizes) (rel (length sizes) t)
unfolding rows_says
whole_is_said_iff_whole sizes t g = (λ e. to seen (sym pass ∙ e), λ w. pass ∙ from seen w)
  where
    pass : rows_says sizes t ≡ at_first_broken 0 (length sizes) (size_of sizes) (rel (length sizes) t) (says 0 [])
    pass = (check_shape sizes t).passes g _

    seen : Searched (length sizes) (size_of sizes) (rel (length sizes) t)
    seen = searched (length sizes) (size_of sizes) (rel (length sizes) t) g.formed

    to : Searched (length sizes) (size_of sizes) (rel (length sizes) t) → at_first_broken 0 (length sizes) (size_of sizes) (rel (length sizes) t) (says 0 []) ≡ says 0 []
        → WholeRows (length sizes) (size_of sizes) (rel (length sizes) t)
    to (inl h) e = h.0
    to (inr h) e = absurd (some (sym e ∙ h.2))

    from : Searched (length sizes) (size_of sizes) (rel (length sizes) t) → WholeRows (length sizes) (size_of sizes) (rel (length sizes) t)
        → at_first_broken 0 (length sizes) (size_of sizes) (rel (length sizes) t) (says 0 []) ≡ says 0 []
    from (inl h) w = h.1
    from (inr h) w = absurd (h.1.broken (w h.0.i h.0.j h.0.a h.1.inside.first h.1.inside.second))

-- 3. "It gets that cell's 32 words as they stand in the settled table, or in the opening table where the settled one holds no bit at all."

module _ (sizes opening settled : List ℕ) (i j : ℕ) where
  Words : List ℕ
  Words = cell_of (length sizes) (cond (from_opening (length sizes) settled) opening settled) i j

  long : GoodShow sizes opening settled i j → (b : Bool) → length (cell_of (length sizes) (cond b opening settled) i j) ≡ readings_most
  long g b = cell_long (length sizes) (cond b opening settled) i j (room b)
    where
      end : cell_start (length sizes) i j + readings_most ≤ table_length (length sizes)
      end = let d : i * length sizes + j < length sizes * length sizes = digits_lt g.first g.second in omega arith

      room : (b : Bool) → cell_start (length sizes) i j + readings_most ≤ length (cond b opening settled)
      room true = rw g.long end
      room false = rw g.also end

  seen : GoodShow sizes opening settled i j ⊎ Refuses (after_show sizes opening settled i j)
      → ((shown_words sizes opening settled i j ≡ Words) × (length Words ≡ readings_most) × ((show_says sizes opening settled i j).state ≡ 0))
      ⊎ ((shown_words sizes opening settled i j ≡ []) × (1 ≤ (show_says sizes opening settled i j).state))
  unfolding shown_words show_says Words
  seen (inl g) =
      let z : (show_says sizes opening settled i j).state ≡ 0 = ap (λ (s : Said). s.state) ((check_show sizes opening settled i j).passes g _) in
      inl (ap (λ (b : Bool). cond b Words []) (eq-eqb (show_says sizes opening settled i j).state 0 z), long g (from_opening (length sizes) settled), z)
  seen (inr r) =
      let e : (show_says sizes opening settled i j).state ≡ r.0.state = ap (λ (s : Said). s.state) (r.2 _) in
      inr (ap (λ (b : Bool). cond b Words []) (ne_eqb (show_says sizes opening settled i j).state 0 (λ z. omega (arith, e, z, r.1))), omega (arith, e, r.1))

  pub a_cell_is_shown : (show_says sizes opening settled i j).state ≡ 0
      → (shown_words sizes opening settled i j ≡ cell_of (length sizes) (cond (from_opening (length sizes) settled) opening settled) i j)
      × (length (shown_words sizes opening settled i j) ≡ readings_most)
  unfolding Words
  a_cell_is_shown e = elim (seen (check_show sizes opening settled i j).decides) [
    | inl h ↦ (h.0, ap length h.0 ∙ h.1)
    | inr h ↦ absurd (omega (arith, h.1))
  ]

  -- "A part of no words comes back exactly on a refusal."
  pub no_words_iff_refused : (shown_words sizes opening settled i j ≡ []) ↔ (1 ≤ (show_says sizes opening settled i j).state)
  no_words_iff_refused = (λ e. to e (seen (check_show sizes opening settled i j).decides), λ h. from h (seen (check_show sizes opening settled i j).decides))
    where
      to : shown_words sizes opening settled i j ≡ [] → ((shown_words sizes opening settled i j ≡ Words) × (length Words ≡ readings_most)
          × ((show_says sizes opening settled i j).state ≡ 0)) ⊎ ((shown_words sizes opening settled i j ≡ []) × (1 ≤ (show_says sizes opening settled i j).state))
          → 1 ≤ (show_says sizes opening settled i j).state
      to e (inl h) = absurd (omega (arith, h.1, ap length (sym e ∙ h.0)))
      to e (inr h) = h.1

      from : 1 ≤ (show_says sizes opening settled i j).state → ((shown_words sizes opening settled i j ≡ Words) × (length Words ≡ readings_most)
          × ((show_says sizes opening settled i j).state ≡ 0)) ⊎ ((shown_words sizes opening settled i j ≡ []) × (1 ≤ (show_says sizes opening settled i j).state))
          → shown_words sizes opening settled i j ≡ []
      from h (inl k) = absurd (omega (arith, k.2))
      from h (inr k) = k.0

-- 4. "that two results satisfying the statement coincide"

pub kept_is_one : (sizes t : List ℕ) (f : ℕ) (x y : Result ℕ Refusal) → said_kept x ≡ kept_says sizes t f → said_kept y ≡ kept_says sizes t f → x ≡ y
kept_is_one sizes t f x y p q = kept-determined x y (p ∙ sym q)

pub judge_is_one : (sizes t : List ℕ) (x y : Result (Option Row) Refusal) → said_rows x ≡ rows_says sizes t → said_rows y ≡ rows_says sizes t → x ≡ y
judge_is_one sizes t x y p q = rows-determined x y (p ∙ sym q)

pub first_broken_is_one : (n : ℕ) (size : ℕ → ℕ) (R : Rel) (x y : Option Row) → said_row x ≡ at_first_broken 0 n size R (says 0 []) → said_row y ≡ at_first_broken 0 n size R (says 0 []) → x ≡ y
first_broken_is_one n size R x y p q = row-determined x y (p ∙ sym q)

pub shown_from_is_one : (sizes opening settled : List ℕ) (i j : ℕ) (x y : Result Shown Refusal) → said_shown x ≡ show_says sizes opening settled i j
    → said_shown y ≡ show_says sizes opening settled i j → x ≡ y
shown_from_is_one sizes opening settled i j x y p q = shown-determined x y (p ∙ sym q)

pub show_is_one : (sizes opening settled : List ℕ) (i j : ℕ) (u v : List ℕ) → u ≡ shown_words sizes opening settled i j → v ≡ shown_words sizes opening settled i j → u ≡ v
show_is_one sizes opening settled i j u v p q = p ∙ sym q

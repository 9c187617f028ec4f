-- A test that is passed is what it tests.
use Rattle.std.specs.Prelude.{◌≡◌, refl, true, false, not, ◌&&◌, ◌||◌, List, [], ◌∷◌, ◌++◌, get_or, leb, ltb}
use Rattle.std.proofs.Math.Path.{sym, ap, ap₂}
use Rattle.std.proofs.Common.{◌∙◌, leb→le, ltb→lt, lt→ltb}
use Rattle.std.proofs.Math.Logic.{inl, inr}
use Rattle.std.proofs.Math.Bool.{Bool, cond}
use Prim.Native.Nat.{ℕ, zero, suc, min, ◌≤◌, ◌<◌}
use native.Mathlib.Omega.{arith}
use Rattle.std.proofs.Math.ListN.{length}
use Rattle.std.proofs.Math.Dec.{T, eqb, eqb→eq, eqb_refl}
use borrow.Author.Tests.{le-ltb}
use Rattle.theory.specs.Limits.{readings_most}
use Rattle.theory.specs.Bound.{all, first, val}
use Rattle.theory.specs.BoundLaws.{and_i, and_l, and_r, imp_by, imp_use, T_ext, lt_or_ge, all_e, any_same, first_same}
use Rattle.theory.specs.Relation.{Rel, WellFormed, Agree, Settled, rounds}
use Rattle.theory.proofs.RelationLaws.{pair_small, rounds_wf}
use Rattle.theory.proofs.AgreeLaws.{agree_sym, agree_trans, agree_wf, agree_settled, agree_full, agree_kept_count, agree_empty, agree_whole, agree_allowed, agree_first}
use Rattle.theory.specs.Reading.{kept, kept_count, empty}
use Rattle.theory.specs.Settling.{steps}
use Rattle.theory.proofs.SettlingLaws.{steps-settled}
use Rattle.theory.specs.Choice.{by_number, First, walk, clash, clash_from, clash_to}
use Rattle.theory.proofs.ChoiceLaws.{clash-le}
use Rattle.theory.proofs.Theorems.{first_exists}
use Rattle.refusal.specs.Said.{Said, says}
use Rattle.calendar.specs.DateText.{separator}
use Rattle.calendar.specs.DateAnswers.{date_says}
use Rattle.table.specs.Layout.{rel, words, RowIn, search_rows, search_row, size_of}
use Rattle.table.specs.LayoutLaws.{row_in, search_is_table, length-words, rel-words}
use Rattle.table.specs.CheckLaws.{passed}
use Rattle.table.specs.Shape.{row_place, after_sizes, GoodSizes, GoodTable}
use Rattle.table.specs.Theorems.{sizes_pass_iff_good, after_good_shape}
use Rattle.judge.specs.Asked.{broken_row, at_first_broken, rows_says}
use Rattle.judge.specs.Theorems.{kept_is_the_count}
use Rattle.settle.specs.ChangesLaws.{check-settled}
use Rattle.settle.specs.Settle.{GoodLent, reached}
use Rattle.settle.specs.SettleLaws.{good-says, good-table, says-settled, says-unfinished}
use Rattle.choose.specs.Choosing.{choice_of, after_empty, after_fixed, after_clash, choose_says}
use Rattle.choose.specs.ChoosingLaws.{check-lent, check_choose}
use Rattle.examples.specs.Starred.{bytes, days_in, sizes_of, gaps_of, rule, opened, table_of, Choosing, gives, refuses, Case, Example, settling, reading, Every, those, Reads, Chooses, Result, Settling, Opens, Holds}
use Rattle.examples.specs.Packed.{packed, unpacked, after, takes, some_full}
use Rattle.examples.specs.PackedLaws.{Inside, unpacked-inside, unpacked-packed, after-rounds, takes-steps, broken_same, some_full_i, some_full_e}
use Rattle.examples.specs.Trial.{same, same_list, same_said, every, most, broken_says, rows_in, choosing_says, says_in, choosing_in, keeps_in, result_in, opened_in, case_in, holds_of}

-- comparisons

same_e : (a b : Bool) → T (same a b) → a ≡ b
unfolding same
same_e true true t = refl
same_e true false t = absurd t
same_e false true t = absurd t
same_e false false t = refl

same_list_e : (l m : List ℕ) → T (same_list l m) → l ≡ m
unfolding same_list
same_list_e [] [] t = refl
same_list_e [] (y ∷ m) t = absurd t
same_list_e (x ∷ l) [] t = absurd t
same_list_e (x ∷ l) (y ∷ m) t = ap₂ ◌∷◌ (eqb→eq x y (and_l (eqb x y) _ t)) (same_list_e l m (and_r (eqb x y) _ t))

same_said_e : (x y : Said) → T (same_said x y) → x ≡ y
unfolding same_said
same_said_e x y t =
    let p : x.state ≡ y.state = eqb→eq x.state y.state (and_l (eqb x.state y.state) _ t) in
    let q : x.values ≡ y.values = same_list_e x.values y.values (and_r (eqb x.state y.state) _ t) in
    λ i. record { state = p i; values = q i }

pub every_e : {A : Type 0} (p : A → Bool) (P : A → Type 0) → ((x : A) → T (p x) → P x) → (l : List A) → T (every p l) → Every P l
unfolding every
every_e p P f [] t = tt
every_e p P f (x ∷ l) t = (f x (and_l (p x) _ t), every_e p P f l (and_r (p x) _ t))

-- tables

opened-formed : (n : ℕ) (size : ℕ → ℕ) (allows : Rel) → ((i : ℕ) → i < n → size i ≤ readings_most) → WellFormed n size (opened size allows)
unfolding opened
opened-formed n size allows small = record {
  small = small;
  inside = λ i j a b hi hj t. ((parts i j a b t).0, (parts i j a b t).1);
  same = λ i a b hi t. eqb→eq a b (imp_use (eqb i i) (eqb a b) (parts i i a b t).2 (eqb_refl i));
  turn = λ i j a b hi hj. T_ext (opened size allows i j a b) (opened size allows j i b a) (turn i j a b) (turn j i b a);
}
  where
    parts : (i j a b : ℕ) → T (opened size allows i j a b) → (a < size i) × (b < size j) × T (not (eqb i j) || eqb a b) × T (allows i j a b && allows j i b a)
    parts i j a b t =
        let u = and_r (ltb a (size i)) _ t in
        let v = and_r (ltb b (size j)) _ u in
        (ltb→lt a (size i) (and_l (ltb a (size i)) _ t), ltb→lt b (size j) (and_l (ltb b (size j)) _ u), and_l (not (eqb i j) || eqb a b) _ v, and_r (not (eqb i j) || eqb a b) _ v)

    mirrored : (i j a b : ℕ) → T (not (eqb i j) || eqb a b) → T (not (eqb j i) || eqb b a)
    mirrored i j a b t = imp_by (eqb j i) (eqb b a) (λ s.
        let q : j ≡ i = eqb→eq j i s in
        let d : a ≡ b = eqb→eq a b (imp_use (eqb i j) (eqb a b) t (rw q (eqb_refl i))) in
        rw d (eqb_refl b))

    turn : (i j a b : ℕ) → T (opened size allows i j a b) → T (opened size allows j i b a)
    turn i j a b t =
        let o = parts i j a b t in
        and_i (ltb b (size j)) _ (lt→ltb b (size j) o.1) (and_i (ltb a (size i)) _ (lt→ltb a (size i) o.0)
        (and_i (not (eqb j i) || eqb b a) _ (mirrored i j a b o.2)
        (and_i (allows j i b a) (allows i j a b) (and_r (allows i j a b) (allows j i b a) o.3) (and_l (allows i j a b) (allows j i b a) o.3))))

-- the words of a relation of these sizes
module _ (sizes : List ℕ) (good : GoodSizes sizes) (R : Rel) (f : WellFormed (length sizes) (size_of sizes) R) where
  words-stand : Agree (length sizes) R (rel (length sizes) (words (length sizes) R))
  words-stand = agree_sym (length sizes) (rel (length sizes) (words (length sizes) R)) R (rel-words (length sizes) R (pair_small f))

  words-good : GoodTable sizes (words (length sizes) R)
  words-good = record { good = good; long = length-words (length sizes) R; formed = agree_wf (length sizes) R (rel (length sizes) (words (length sizes) R)) words-stand f }

-- readings

those_same : (n : ℕ) (p q : ℕ → Bool) → ((i : ℕ) → i < n → p i ≡ q i) → those n p ≡ those n q
unfolding those
those_same zero p q e = refl
those_same (suc n) p q e = ap₂ ◌++◌ (those_same n p q (λ i h. e i (omega arith))) (ap (λ (b : Bool). cond b (n ∷ []) []) (e n (omega arith)))

reads_in : {n : ℕ} {size : ℕ → ℕ} {M R : Rel} → WellFormed n size R → Agree n M R → (b : Bool) → T (same (some_full n size M n (λ f. 0)) b) → Reads n R b
unfolding same
reads_in {n} {size} {M} {R} w e = go (some_full n size M n (λ f. 0)) refl
  where
    formed : WellFormed n size M
    formed = agree_wf n R M (agree_sym n M R e) w

    go : (c : Bool) → some_full n size M n (λ f. 0) ≡ c → (b : Bool) → T (same c b) → Reads n R b
    go true q true u = let y = some_full_e formed n (λ f. 0) (rw q u) in (y.0, agree_full n M R e y.0 y.1)
    go true q false u = absurd u
    go false q true u = absurd u
    go false q false u = λ x g. rw q at (some_full_i formed (λ f. 0) x (agree_full n R M (agree_sym n M R e) x g))

-- the first reading is one too that is the same at the n fields
first_at : {n : ℕ} {R : Rel} {fixed x y : ℕ → ℕ} → First n by_number R fixed x → ((i : ℕ) → i < n → x i ≡ y i) → First n by_number R fixed y
first_at f e = record {
  full = λ i j hi hj. rw (← e i hi, ← e j hj) (f.full i j hi hj);
  keeps = λ i hi h. sym (e i hi) ∙ f.keeps i hi h;
  least = λ z g k. elim (f.least z g k) [
    | inl s ↦ inl (λ p h. sym (e p h) ∙ s p h)
    | inr b ↦ inr (b.0, b.1, λ p h. sym (e p (omega (arith, b.1))) ∙ b.2 p h, rw (← e b.0 b.1) b.3)
  ];
}

module _ (n : ℕ) (R S : Rel) (e : Agree n R S) (fixed : ℕ → ℕ) where
  clash-same : (i j : ℕ) → i < n → j < n → clash R fixed i j ≡ clash S fixed i j
  unfolding clash
  clash-same i j hi hj = rw (e i j (fixed i) (fixed j) hi hj)

  from-same : clash_from n R fixed ≡ clash_from n S fixed
  unfolding clash_from
  from-same = first_same n _ _ (λ i hi. any_same n _ _ (λ j hj. clash-same i j hi hj))

  to_same : clash_from n R fixed < n → clash_to n R fixed ≡ clash_to n S fixed
  unfolding clash_to
  to_same h = first_same n _ _ (λ j hj. clash-same (clash_from n R fixed) j h hj) ∙ ap (λ (i : ℕ). first n (clash S fixed i)) from-same

  clash-says : (rest : Said) → after_clash n R fixed rest ≡ after_clash n S fixed rest
  unfolding after_clash
  clash-says rest = elim (lt_or_ge (clash_from n R fixed) n) [
    | inl h ↦ λ i. cond (ltb (from-same i) n) (says 12 (from-same i ∷ to_same h i ∷ [])) rest
    | inr h ↦
        let none : clash_from n S fixed ≡ n = omega (arith, from-same, clash-le n S fixed) in
        rw (le-ltb (clash_from n R fixed) n h, le-ltb (clash_from n S fixed) n (omega arith))
  ]

search_in : (n p : ℕ) → p < search_rows n → RowIn n (search_row n p)
search_in n p h = rw (search_is_table n p) (row_in n p h)

-- the table t, whose relation is computed as M
module _ (sizes t : List ℕ) (g : GoodTable sizes t) (k : ℕ) (M : Rel) (e : Agree (length sizes) M (rel (length sizes) t)) (inM : Inside (length sizes) k M) where
  broken-says : (q : ℕ) (rest : Said) → broken_says q sizes k M rest ≡ at_first_broken q (length sizes) (size_of sizes) (rel (length sizes) t) rest
  unfolding broken_says broken_row
  broken-says q rest =
      let n = length sizes in
      ap (λ (p : ℕ). cond (ltb p (search_rows n)) (says q (row_place (search_row n p))) rest)
      (first_same (search_rows n) _ _ (λ p h. let r = search_in n p h in broken_same n k (size_of sizes) M (rel n t) e inM (pair_small g.formed) (search_row n p).i (search_row n p).j (search_row n p).a r.first r.second))

  rows_in_lem : (row : List ℕ) → T (rows_in sizes k M row) → rows_says sizes t ≡ says 0 row
  unfolding rows_in rows_says
  rows_in_lem row u = after_good_shape sizes t g _ ∙ (sym (broken-says 0 (says 0 [])) ∙ same_said_e _ _ u)

  -- and settled
  module _ (s : Settled (length sizes) (rel (length sizes) t)) where
    choosing-says : (fixed : List ℕ) → length fixed ≡ length sizes → choose_says sizes t fixed (length sizes) ≡ choosing_says sizes k M fixed
    unfolding choosing_says after_empty
    choosing-says fixed l =
        let n = length sizes in
        let R = rel n t in
        let rest : Rel → Said = λ Q. after_fixed sizes fixed (after_clash n Q (choice_of fixed) (says 0 [])) in
        after_good_shape sizes t g _
        ∙ ((check-lent n (length fixed) n).passes (l, refl) _
        ∙ ((check-settled n R (pair_small g.formed)).passes s _
        ∙ ap₂ (λ b x. cond (not b) x (says 9 [])) (sym (agree_empty n M R e))
        (ap (λ x. at_first_broken 10 n (size_of sizes) R (after_fixed sizes fixed x)) (sym (clash-says n M R e (choice_of fixed) (says 0 []))) ∙ sym (broken-says 10 (rest M)))))

    says-in : (fixed : List ℕ) (said : Said) → T (says_in sizes k M fixed said) → choose_says sizes t fixed (length sizes) ≡ said
    unfolding says_in
    says-in fixed said u =
        choosing-says fixed (eqb→eq (length fixed) (length sizes) (and_l (eqb (length fixed) (length sizes)) _ u))
        ∙ same_said_e _ said (and_r (eqb (length fixed) (length sizes)) _ u)

    choosing-in : (x : Choosing) → T (choosing_in sizes k M x) → Chooses sizes t x
    unfolding choosing_in
    choosing-in (gives fixed x) u =
        let n = length sizes in
        let R = rel n t in
        let back = agree_sym n M R e in
        let said = says-in fixed (says 0 []) (and_l (says_in sizes k M fixed (says 0 [])) _ u) in
        let ready = passed (check_choose sizes t fixed n) (sym said) in
        let found = first_exists (agree_wf n R M back g.formed) (agree_settled n R M back s) (rw (← agree_empty n R M back) ready.0.filled) (agree_whole n R M back (size_of sizes) ready.0.whole) (choice_of fixed) (agree_allowed n R M back (choice_of fixed) ready.1) in
        (said, agree_first n M R e by_number (choice_of fixed) (choice_of x) (first_at found (λ i hi. eqb→eq _ _ (all_e n (λ j. eqb (walk n by_number (size_of sizes) M (choice_of fixed) n j) (choice_of x j)) (and_r (says_in sizes k M fixed (says 0 [])) _ u) i hi))))
    choosing-in (refuses fixed q place) u = says-in fixed (says q place) u

    keeps-in : (i : ℕ) → i < length sizes → (l : List ℕ) → T (keeps_in M i l) → (those readings_most (kept (rel (length sizes) t) i) ≡ l) × (kept_count (rel (length sizes) t) i ≡ length l)
    unfolding keeps_in
    keeps-in i hi l u =
        let R = rel (length sizes) t in (
          those_same readings_most (kept R i) (kept M i) (λ a h. sym (e i i a a hi hi)) ∙ same_list_e _ l (and_l (same_list (those readings_most (kept M i)) l) _ u),
          sym (agree_kept_count (length sizes) M R e i hi) ∙ eqb→eq (kept_count M i) (length l) (and_r (same_list (those readings_most (kept M i)) l) _ u),
        )

    result-in : (c : Case) → T (result_in c sizes k M) → Result c sizes t
    unfolding result_in
    result-in c u =
        let n = length sizes in
        let keeps : ℕ → Bool = λ i. keeps_in M i (get_or c.keeps i []) in
        let rows = rows_in sizes k M c.broken_after in
        let u1 = and_r (same (empty n M) c.is_empty) _ u in
        let u2 = and_r (all n keeps) _ u1 in
        let field : (i : ℕ) → i < n → T (keeps i) = all_e n keeps (and_l (all n keeps) _ u1) in
        record {
          keeps = λ i hi. (keeps-in i hi _ (field i hi)).0;
          counts = λ i hi. kept_is_the_count sizes t i g hi ∙ ap (λ (q : ℕ). says 0 (q ∷ [])) (keeps-in i hi _ (field i hi)).1;
          rows = rows_in_lem c.broken_after (and_l rows _ u2);
          choices = every_e (choosing_in sizes k M) (Chooses sizes t) choosing-in c.choices (and_r rows _ u2);
        }

-- the opening table t, of which w is the number
module _ (c : Case) (sizes t : List ℕ) (g : GoodTable sizes t) (k w : ℕ) (e : Agree (length sizes) (unpacked (length sizes) k w) (rel (length sizes) t)) where
  settling-in : steps (length sizes) (rel (length sizes) t) ≡ c.r
      → T (result_in c sizes k (unpacked (length sizes) k (after (length sizes) k c.r w)))
      → (s : List ℕ) → length s ≡ length t → Settling c sizes t s
  unfolding result_in reached
  settling-in q u s l =
      let n = length sizes in
      let R = rel n t in
      let S = rounds n (steps n R) R in
      let M = unpacked n k (after n k c.r w) in
      let agree : Agree n M S = rw q (after-rounds g.formed k w e c.r) in
      let lent : GoodLent sizes t s = record { good = g; other = l ∙ g.long } in
      let formed : WellFormed n (size_of sizes) S = rounds_wf (steps n R) g.formed in
      let stand = words-stand sizes g.good S formed in
      let is_empty : empty n S ≡ c.is_empty = sym (agree_empty n M S agree) ∙ same_e (empty n M) c.is_empty (and_l (same (empty n M) c.is_empty) _ u) in
      let result = result-in sizes (words n S) (words-good sizes g.good S formed) k M (agree_trans n M S (rel n (words n S)) agree stand) (unpacked-inside n k (after n k c.r w)) (agree_settled n S (rel n (words n S)) stand (steps-settled g.formed)) c u in
      record {
        unfinished = λ budget h. good-says lent budget ∙ says-unfinished n R budget (omega arith);
        settled = λ budget h. good-says lent budget ∙ (says-settled n R budget (omega arith) ∙ (λ i. says 0 (q i ∷ val (is_empty i) ∷ [])));
        result = λ budget h. let enough : min (steps n R) budget ≡ steps n R = omega arith in rw (good-table lent budget, enough) result;
      }

  opened_in_lem : gaps_of c.opening ≡ c.gaps → T (opened_in c sizes k w) → Opens c sizes t
  unfolding opened_in
  opened_in_lem gaps u =
      let n = length sizes in
      let N = unpacked n k w in
      let reads = same (some_full n (size_of sizes) N n (λ f. 0)) c.readable in
      let rows = rows_in sizes k N c.broken_before in
      let u1 = and_r reads _ u in
      let u2 = and_r rows _ u1 in
      record {
        gaps = gaps;
        readable = reads_in g.formed e c.readable (and_l reads _ u);
        rows = rows_in_lem sizes t g k N e (unpacked-inside n k w) c.broken_before (and_l rows _ u1);
        settles = settling-in (takes-steps g.formed k w e c.r (and_l (takes n k c.r w) _ u2)) (and_r (takes n k c.r w) _ u2);
      }

case_in_lem : (c : Case) (sizes : List ℕ) (k : ℕ) → T (case_in c sizes k) → Opens c sizes (words (length sizes) (opened (size_of sizes) (rule c.opening)))
unfolding case_in
case_in_lem c sizes k u =
    let n = length sizes in
    let O = opened (size_of sizes) (rule c.opening) in
    let sized = same_said (says 0 []) (after_sizes sizes (says 0 [])) in
    let fits : ℕ → Bool = λ i. leb (size_of sizes i) k in
    let gaps = same_list (gaps_of c.opening) c.gaps in
    let u1 = and_r sized _ u in
    let u2 = and_r (all n fits) _ u1 in
    let good : GoodSizes sizes = (sizes_pass_iff_good sizes).0 (same_said_e _ _ (and_l sized _ u)) in
    let formed : WellFormed n (size_of sizes) O = opened-formed n (size_of sizes) (rule c.opening) (λ i h. (good.each i h).1) in
    let fit : (f : ℕ) → f < n → size_of sizes f ≤ k = λ f h. leb→le (size_of sizes f) k (all_e n fits (and_l (all n fits) _ u1) f h) in
    let inside : Inside n k O = λ i j a b hi hj t. let l = formed.inside i j a b hi hj t in (omega (arith, fit i hi), omega (arith, fit j hj)) in
    opened_in_lem c sizes (words n O) (words-good sizes good O formed) k (packed n k O)
    (agree_trans n (unpacked n k (packed n k O)) O (rel n (words n O)) (unpacked-packed n k O inside) (words-stand sizes good O formed))
    (same_list_e _ _ (and_l gaps _ u2)) (and_r gaps _ u2)

-- an example that passes its test is as it is said
pub holds_in : (x : Example) → T (holds_of x) → Holds x
unfolding holds_of table_of
holds_in (settling c) u = case_in_lem c (sizes_of c.opening) (most (sizes_of c.opening)) u
holds_in (reading text l) u =
    let said = same_said (date_says separator (bytes text)) (says 0 (length l ∷ [])) in
    record { said = same_said_e _ _ (and_l said _ u); days = same_list_e (days_in text) l (and_r said _ u) }

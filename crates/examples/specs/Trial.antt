-- Tests of what the examples claim, made to be computed.
use Rattle.std.specs.Prelude.{Bool, true, false, cond, not, ◌&&◌, List, [], ◌∷◌, ℕ, eqb, leb, length, get_or}
use Rattle.theory.specs.Limits.{readings_most}
use Rattle.theory.specs.Bound.{all}
use Rattle.theory.specs.Relation.{Rel}
use Rattle.theory.specs.Reading.{kept, kept_count, empty}
use Rattle.theory.specs.Choice.{by_number, walk}
use Rattle.refusal.specs.Said.{Said, says}
use Rattle.calendar.specs.DateText.{separator}
use Rattle.calendar.specs.DateAnswers.{date_says}
use Rattle.table.specs.Layout.{search_rows, search_row, at, size_of}
use Rattle.table.specs.Checks.{at_first}
use Rattle.table.specs.Shape.{row_place, after_sizes}
use Rattle.choose.specs.Choosing.{choice_of, after_empty, after_fixed, after_clash}
use Rattle.examples.specs.Starred.{bytes, days_in, sizes_of, gaps_of, rule, opened, those, Choosing, gives, refuses, Case, Example, settling, reading}
use Rattle.examples.specs.Packed.{packed, unpacked, after, takes, broken_in, some_full}

-- two tests that come out the same
unfoldable pub same : Bool → Bool → Bool
same true b = b
same false b = not b

-- two lists that are the same
unfoldable pub same_list : List ℕ → List ℕ → Bool
same_list [] [] = true
same_list [] (y ∷ m) = false
same_list (x ∷ l) [] = false
same_list (x ∷ l) (y ∷ m) = eqb x y && same_list l m

-- two answers that say the same
unfoldable pub same_said : Said → Said → Bool
same_said x y = eqb x.state y.state && same_list x.values y.values

-- p of each of a list
unfoldable pub every : {A : Type 0} → (A → Bool) → List A → Bool
every p [] = true
every p (x ∷ l) = p x && every p l

-- the largest of a list
unfoldable pub most : List ℕ → ℕ
most [] = 0
most (x ∷ l) = cond (leb x (most l)) (most l) x

-- R, of readings below k, in place of a table's relation

-- the first broken row is said with number q; where there is none, rest has the word
unfoldable pub broken_says : ℕ → List ℕ → ℕ → Rel → Said → Said
broken_says q sizes k R = at_first (search_rows (length sizes)) (λ p. at (broken_in k (size_of sizes) R) (search_row (length sizes) p)) (λ p. says q (row_place (search_row (length sizes) p)))

-- judging says this row, or nothing
unfoldable pub rows_in : List ℕ → ℕ → Rel → List ℕ → Bool
rows_in sizes k R row = same_said (broken_says 0 sizes k R (says 0 [])) (says 0 row)

-- what choosing says where R is settled
unfoldable pub choosing_says : List ℕ → ℕ → Rel → List ℕ → Said
choosing_says sizes k R fixed =
    after_empty (length sizes) R (broken_says 10 sizes k R (after_fixed sizes fixed (after_clash (length sizes) R (choice_of fixed) (says 0 []))))

-- with these bytes, one a field, choosing says this
unfoldable pub says_in : List ℕ → ℕ → Rel → List ℕ → Said → Bool
says_in sizes k R fixed said = eqb (length fixed) (length sizes) && same_said (choosing_says sizes k R fixed) said

-- a choice is as it is said
unfoldable pub choosing_in : List ℕ → ℕ → Rel → Choosing → Bool
choosing_in sizes k R (gives fixed x) =
    says_in sizes k R fixed (says 0 []) && all (length sizes) (λ i. eqb (walk (length sizes) by_number (size_of sizes) R (choice_of fixed) (length sizes) i) (choice_of x i))
choosing_in sizes k R (refuses fixed q place) = says_in sizes k R fixed (says q place)

-- field i keeps these readings
unfoldable pub keeps_in : Rel → ℕ → List ℕ → Bool
keeps_in R i l = same_list (those readings_most (kept R i)) l && eqb (kept_count R i) (length l)

-- the settled table is as it is said
unfoldable pub result_in : Case → List ℕ → ℕ → Rel → Bool
result_in c sizes k R =
    same (empty (length sizes) R) c.is_empty
    && (all (length sizes) (λ i. keeps_in R i (get_or c.keeps i []))
    && (rows_in sizes k R c.broken_after
    && every (choosing_in sizes k R) c.choices))

-- the opening table, of which w is the number, is as it is said
unfoldable pub opened_in : Case → List ℕ → ℕ → ℕ → Bool
opened_in c sizes k w =
    same (some_full (length sizes) (size_of sizes) (unpacked (length sizes) k w) (length sizes) (λ f. 0)) c.readable
    && (rows_in sizes k (unpacked (length sizes) k w) c.broken_before
    && (takes (length sizes) k c.r w
    && result_in c sizes k (unpacked (length sizes) k (after (length sizes) k c.r w))))

-- a case is as it is said
unfoldable pub case_in : Case → List ℕ → ℕ → Bool
case_in c sizes k =
    same_said (says 0 []) (after_sizes sizes (says 0 []))
    && (all (length sizes) (λ i. leb (size_of sizes i) k)
    && (same_list (gaps_of c.opening) c.gaps
    && opened_in c sizes k (packed (length sizes) k (opened (size_of sizes) (rule c.opening)))))

-- an example is as it is said
unfoldable pub holds_of : Example → Bool
holds_of (settling c) = case_in c (sizes_of c.opening) (most (sizes_of c.opening))
holds_of (reading text l) = same_said (date_says separator (bytes text)) (says 0 (length l ∷ [])) && same_list (days_in text) l

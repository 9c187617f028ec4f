-- The starred examples of 01 ("Examples, those with * proved") and that of a year in two digits: what each claims of the entry points, and the table of them.
use Rattle.std.specs.Prelude.{◌≡◌, Bool, true, false, cond, not, ◌&&◌, ◌||◌, ℕ, zero, suc, ◌+◌, ◌-◌, ◌≤◌, ◌<◌, eqb, leb, ltb, length, get_or}
use mathlib.Core.List.{List, [], ◌∷◌, ◌++◌, flat_map, map}
use Prim.Native.Char.{code}
use Prim.Native.String.{String, [] as []ᵗ, ◌∷◌ as ◌∷ᵗ◌}
use Rattle.theory.specs.Limits.{readings_most}
use Rattle.theory.specs.Bound.{val}
use Rattle.theory.specs.Relation.{Rel}
use Rattle.theory.specs.Reading.{Full, kept}
use Rattle.refusal.specs.Said.{says}
use Rattle.calendar.specs.DateText.{separator, means}
use Rattle.calendar.specs.DateAnswers.{date_says}
use Rattle.table.specs.Layout.{rel, words, size_of}
use Rattle.judge.specs.Asked.{kept_says, rows_says}
use Rattle.settle.specs.Settle.{settle_says, table_after}
use Rattle.choose.specs.Choosing.{choose_says, FirstOf}

-- the bytes of a text
unfoldable pub bytes : String → List ℕ
bytes []ᵗ = []
bytes (c ∷ᵗ s) = code c ∷ bytes s

-- the days that a date text can mean
unfoldable pub days_in : String → List ℕ
days_in text = means separator (bytes text)

-- How a table opens

pub data Opening : Type 0 where
  -- fields of these sizes, everything allowed
  everything : List ℕ → Opening
  -- fields of these sizes, no two with the same reading
  different : List ℕ → Opening
  -- fields of these sizes, reading c of field f struck
  without : List ℕ → ℕ → ℕ → Opening
  -- two date texts, the second lo to hi days after the first
  apart : String → String → ℕ → ℕ → Opening

-- the fields' sizes
unfoldable pub sizes_of : Opening → List ℕ
sizes_of (everything sizes) = sizes
sizes_of (different sizes) = sizes
sizes_of (without sizes f c) = sizes
sizes_of (apart s t lo hi) = length (days_in s) ∷ length (days_in t) ∷ []

-- the days from each reading of the first text to each of the second
unfoldable pub gaps_of : Opening → List ℕ
gaps_of (everything sizes) = []
gaps_of (different sizes) = []
gaps_of (without sizes f c) = []
gaps_of (apart s t lo hi) = flat_map (λ d. map (λ e. e - d) (days_in t)) (days_in s)

-- e lies lo to hi days after d
unfoldable pub follows : ℕ → ℕ → ℕ → ℕ → Bool
follows lo hi d e = leb (d + lo) e && leb e (d + hi)

-- what is not forbidden to reading a of field i and reading b of field j, the fields named in this order
unfoldable pub rule : Opening → Rel
rule (everything sizes) i j a b = true
rule (different sizes) i j a b = eqb i j || not (eqb a b)
rule (without sizes f c) i j a b = not (eqb i f && (eqb j f && eqb a c))
rule (apart s t lo hi) i j a b = not (ltb i j) || follows lo hi (get_or (days_in s) a 0) (get_or (days_in t) b 0)

-- the pairs of readings below the sizes, of one field only a reading with itself, that are forbidden neither way round
unfoldable pub opened : (ℕ → ℕ) → Rel → Rel
opened size allows i j a b = ltb a (size i) && (ltb b (size j) && ((not (eqb i j) || eqb a b) && (allows i j a b && allows j i b a)))

-- the table's words
unfoldable pub table_of : Opening → List ℕ
table_of o = words (length (sizes_of o)) (opened (size_of (sizes_of o)) (rule o))

-- What is said of it

pub data Choosing : Type 0 where
  -- with these bytes fixed it gives this reading
  gives : List ℕ → List ℕ → Choosing
  -- with these bytes fixed it is refused with this number and place
  refuses : List ℕ → ℕ → List ℕ → Choosing

pub record Case : Type 0 where
  pub opening : Opening
  pub gaps : List ℕ
  -- whether it has a full reading
  pub readable : Bool
  -- the first broken row of the opening table; nothing where all are whole
  pub broken_before : List ℕ
  -- the rounds of settling
  pub r : ℕ
  -- of the settled table: whether it is empty, the readings that each field keeps, the first broken row, and choices
  pub is_empty : Bool
  pub keeps : List (List ℕ)
  pub broken_after : List ℕ
  pub choices : List Choosing

-- a table, or a date text and its days
pub data Example : Type 0 where
  settling : Case → Example
  reading : String → List ℕ → Example

-- What that claims

-- P of each of a list
abbrev pub Every : {A : Type 0} → (A → Type 0) → List A → Type 0
Every P [] = Unit {0}
Every P (x ∷ l) = P x × Every P l

-- the numbers below n of which p holds
unfoldable pub those : ℕ → (ℕ → Bool) → List ℕ
those zero p = []
those (suc n) p = those n p ++ cond (p n) (n ∷ []) []

-- R has a full reading, or it has none
abbrev pub Reads : ℕ → Rel → Bool → Type 0
Reads n R true = (x : ℕ → ℕ) × Full n R x
Reads n R false = (x : ℕ → ℕ) → Full n R x → ⊥

-- a choice from the table t is as it is said
abbrev pub Chooses : List ℕ → List ℕ → Choosing → Type 0
Chooses sizes t (gives fixed x) = (choose_says sizes t fixed (length sizes) ≡ says 0 []) × FirstOf sizes t fixed x
Chooses sizes t (refuses fixed k place) = choose_says sizes t fixed (length sizes) ≡ says k place

-- the settled table t is as it is said
pub record Result (c : Case) (sizes t : List ℕ) : Type 0 where
  pub keeps : (i : ℕ) → i < length sizes → those readings_most (kept (rel (length sizes) t) i) ≡ get_or c.keeps i []
  pub counts : (i : ℕ) → i < length sizes → kept_says sizes t i ≡ says 0 (length (get_or c.keeps i []) ∷ [])
  pub rows : rows_says sizes t ≡ says 0 c.broken_after
  pub choices : Every (Chooses sizes t) c.choices

-- settling the table t with scratch s is, whatever the budget
pub record Settling (c : Case) (sizes t s : List ℕ) : Type 0 where
  pub unfinished : (budget : ℕ) → budget < c.r → settle_says sizes t s budget ≡ says 0 []
  pub settled : (budget : ℕ) → c.r ≤ budget → settle_says sizes t s budget ≡ says 0 (c.r ∷ val c.is_empty ∷ [])
  pub result : (budget : ℕ) → c.r ≤ budget → Result c sizes (table_after sizes t s budget)

-- the opening table t is as it is said
pub record Opens (c : Case) (sizes t : List ℕ) : Type 0 where
  pub gaps : gaps_of c.opening ≡ c.gaps
  pub readable : Reads (length sizes) (rel (length sizes) t) c.readable
  pub rows : rows_says sizes t ≡ says 0 c.broken_before
  pub settles : (s : List ℕ) → length s ≡ length t → Settling c sizes t s

-- reading a date text finds the days l
pub record Means (text : String) (l : List ℕ) : Type 0 where
  pub said : date_says separator (bytes text) ≡ says 0 (length l ∷ [])
  pub days : days_in text ≡ l

-- an example is as it is said
abbrev pub Holds : Example → Type 0
Holds (settling c) = Opens c (sizes_of c.opening) (table_of c.opening)
Holds (reading text l) = Means text l

-- The table

-- leaves a field free
abbrev free : ℕ
free = 255

-- C1: one field, one reading
abbrev pub c1 : Case
c1 = record {
  opening = everything (1 ∷ []);
  gaps = [];
  readable = true;
  broken_before = [];
  r = 0;
  is_empty = false;
  keeps = (0 ∷ []) ∷ [];
  broken_after = [];
  choices = gives (free ∷ []) (0 ∷ []) ∷ [];
}

-- C2: the sheet of 01
abbrev pub c2 : Case
c2 = record {
  opening = apart "02/05/2024" "01/05/2025" 350 366;
  gaps = 335 ∷ 451 ∷ 248 ∷ 364 ∷ [];
  readable = true;
  broken_before = [];
  r = 1;
  is_empty = false;
  keeps = (1 ∷ []) ∷ (1 ∷ []) ∷ [];
  broken_after = [];
  choices = gives (free ∷ free ∷ []) (1 ∷ 1 ∷ []) ∷ [];
}

-- C3: three fields of two readings, each two different
abbrev pub c3 : Case
c3 = record {
  opening = different (2 ∷ 2 ∷ 2 ∷ []);
  gaps = [];
  readable = false;
  broken_before = [];
  r = 2;
  is_empty = true;
  keeps = [] ∷ [] ∷ [] ∷ [];
  broken_after = [];
  choices = refuses (free ∷ free ∷ free ∷ []) 9 [] ∷ [];
}

-- C4: four fields of three readings, each two different
abbrev pub c4 : Case
c4 = record {
  opening = different (3 ∷ 3 ∷ 3 ∷ 3 ∷ []);
  gaps = [];
  readable = false;
  broken_before = 0 ∷ 1 ∷ 1 ∷ [];
  r = 0;
  is_empty = false;
  keeps = (0 ∷ 1 ∷ 2 ∷ []) ∷ (0 ∷ 1 ∷ 2 ∷ []) ∷ (0 ∷ 1 ∷ 2 ∷ []) ∷ (0 ∷ 1 ∷ 2 ∷ []) ∷ [];
  broken_after = 0 ∷ 1 ∷ 1 ∷ [];
  choices = refuses (free ∷ free ∷ free ∷ free ∷ []) 10 (0 ∷ 1 ∷ 1 ∷ []) ∷ [];
}

-- C5: C2 with 330 to 366
abbrev pub c5 : Case
c5 = record {
  opening = apart "02/05/2024" "01/05/2025" 330 366;
  gaps = 335 ∷ 451 ∷ 248 ∷ 364 ∷ [];
  readable = true;
  broken_before = [];
  r = 0;
  is_empty = false;
  keeps = (0 ∷ 1 ∷ []) ∷ (0 ∷ 1 ∷ []) ∷ [];
  broken_after = [];
  choices =
      gives (free ∷ free ∷ []) (0 ∷ 0 ∷ [])
      ∷ gives (free ∷ 1 ∷ []) (1 ∷ 1 ∷ [])
      ∷ refuses (0 ∷ 1 ∷ []) 12 (0 ∷ 1 ∷ [])
      ∷ [];
}

-- C6: sizes 1 and 3, all allowed, the middle reading of field 1 struck
abbrev pub c6 : Case
c6 = record {
  opening = without (1 ∷ 3 ∷ []) 1 1;
  gaps = [];
  readable = true;
  broken_before = [];
  r = 1;
  is_empty = false;
  keeps = (0 ∷ []) ∷ (0 ∷ 2 ∷ []) ∷ [];
  broken_after = 0 ∷ 1 ∷ 0 ∷ [];
  choices = refuses (free ∷ free ∷ []) 10 (0 ∷ 1 ∷ 0 ∷ []) ∷ [];
}

abbrev pub starred : List Example
starred =
    settling c1 ∷ settling c2 ∷ settling c3 ∷ settling c4 ∷ settling c5 ∷ settling c6
    ∷ reading "03/07/2024" (8832 ∷ 8950 ∷ [])
    ∷ reading "13/02/2024" (8809 ∷ [])
    ∷ reading "05/05/2024" (8891 ∷ [])
    ∷ reading "29/02/2024" (8825 ∷ [])
    ∷ reading "02/03/04" (793 ∷ 1494 ∷ 1522 ∷ [])
    ∷ []

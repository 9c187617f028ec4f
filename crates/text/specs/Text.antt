-- Numbers, words and lines of the lister's text (01, "The sheet lister's output"): bytes of ASCII, single spaces, every line closed by a
-- line feed.
use Rattle.std.specs.Prelude.{◌≡◌, true, false, List, [], ◌∷◌, ◌++◌, ℕ, zero, suc, ◌+◌, ◌/◌, ◌%◌, ltb, length}
use Prim.Native.Char.{code}
use Prim.Native.String.{String}
use Rattle.refusal.specs.Said.{Said}

-- the bytes of a word
abbrev pub ascii : String → List ℕ
ascii String.[] = []
ascii (String.◌∷◌ c s) = code c ∷ ascii s

-- a digit's byte
abbrev pub digit : ℕ → ℕ
digit d = 48 + d

-- the decimal digits of n, as long as there are no more than k
unfoldable pub digits : ℕ → ℕ → List ℕ
digits zero n = []
digits (suc k) n = elim (ltb n 10) [ true ↦ digit n ∷ [] | false ↦ digits k (n / 10) ++ (digit (n % 10) ∷ []) ]

-- n in decimal, with no leading zeros
unfoldable pub decimal : ℕ → List ℕ
decimal n = digits (suc n) n

-- a space, then n
abbrev pub number : ℕ → List ℕ
number n = 32 ∷ decimal n

-- numbers, a space before each
unfoldable pub numbers : List ℕ → List ℕ
numbers [] = []
numbers (v ∷ vs) = number v ++ numbers vs

-- pieces f 0, f 1, .. f (k - 1), one after the other
unfoldable pub joined : ℕ → (ℕ → List ℕ) → List ℕ
joined zero f = []
joined (suc k) f = joined k f ++ f k

-- a word, then numbers
abbrev pub said : String → List ℕ → List ℕ
said word vs = ascii word ++ numbers vs

abbrev pub line_feed : List ℕ
line_feed = 10 ∷ []

-- a text that ends in a line feed
pub record Closed (text : List ℕ) : Type 0 where
  pub front : List ℕ
  pub is : text ≡ front ++ line_feed

-- ` at` and the values of a place, all of them; nothing where there is no place
abbrev pub place_text : List ℕ → List ℕ
place_text [] = []
place_text (v ∷ vs) = said " at" (v ∷ vs)

-- the state: 0, or a refusal's number and its place
unfoldable pub state_line : Said → List ℕ
state_line s = said "state" (s.state ∷ []) ++ (place_text s.values ++ line_feed)

-- a refusal's line has at most so many bytes: a number of two digits, and a place of three values of twenty
abbrev pub line_most : ℕ
line_most = 75

-- the rounds
unfoldable pub rounds_line : ℕ → List ℕ
rounds_line r = said "rounds" (r ∷ []) ++ line_feed

-- a field, with the count and the days of the readings it keeps
unfoldable pub field_line : ℕ → List ℕ → List ℕ
field_line i days = said "field" (i ∷ []) ++ (said " kept" (length days ∷ []) ++ (numbers days ++ line_feed))

-- one word where there are no values, another before those there are
abbrev pub word_for : List ℕ → List ℕ → List ℕ → List ℕ
word_for none some [] = none
word_for none some (v ∷ vs) = some

abbrev pub either_line : List ℕ → List ℕ → List ℕ → List ℕ
either_line none some vs = word_for none some vs ++ numbers vs ++ line_feed

-- the first broken row, or none
abbrev pub rows_line : List ℕ → List ℕ
rows_line row = either_line (ascii "rows whole") (ascii "rows broken") row

-- the days chosen, or none
abbrev pub first_line : List ℕ → List ℕ
first_line days = either_line (ascii "first none") (ascii "first") days

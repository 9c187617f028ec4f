-- How long the lines can be.
use Rattle.std.specs.Prelude.{◌≡◌, refl, List, [], ◌∷◌, ◌++◌, ℕ, zero, suc, ◌+◌, ◌*◌, ◌^◌, ◌≤◌, ◌<◌, length, get_or}
use Rattle.std.proofs.Common.{suc-mul, arith, length-append}
use Rattle.refusal.specs.Said.{Said, says}
use Rattle.text.specs.Text.{ascii, digits, decimal, number, numbers, joined, said, line_feed, place_text, line_most, state_line, rounds_line, field_line, rows_line, first_line}
use Rattle.text.specs.TextLaws.{decimal-length}

-- every value has at most so many digits
abbrev pub Digits : ℕ → List ℕ → Type 0
Digits d [] = Unit {0}
Digits d (v ∷ vs) = (v < 10 ^ d) × Digits d vs

pub digits_append : (d : ℕ) (xs ys : List ℕ) → Digits d xs → Digits d ys → Digits d (xs ++ ys)
digits_append d [] ys a b = b
digits_append d (x ∷ xs) ys a b = (a.0, digits_append d xs ys a.1 b)

pub digits-joined : (d k : ℕ) (f : ℕ → List ℕ) → ((i : ℕ) → i < k → Digits d (f i)) → Digits d (joined k f)
unfolding joined
digits-joined d zero f a = tt
digits-joined d (suc k) f a = digits_append d (joined k f) (f k) (digits-joined d k f (λ i h. a i (omega arith))) (a k (omega arith))

-- numbers of 64 bits have at most twenty
pub digits-all : (vs : List ℕ) → ((i : ℕ) → get_or vs i 0 < 2 ^ 64) → Digits 20 vs
digits-all [] h = tt
digits-all (v ∷ vs) h = (omega (arith, h 0), digits-all vs (λ i. h (suc i)))

-- so numbers take at most so many bytes, with the spaces
pub numbers-length : (d : ℕ) (vs : List ℕ) → Digits (suc d) vs → length (numbers vs) ≤ length vs * (d + 2)
unfolding numbers
numbers-length d [] a = omega arith
numbers-length d (v ∷ vs) a = omega (arith, length-append (number v) (numbers vs), decimal-length d v a.0, numbers-length d vs a.1, suc-mul (length vs) (d + 2))

-- pieces of so many bytes each
pub joined_length : (m k : ℕ) (f : ℕ → List ℕ) → ((i : ℕ) → i < k → length (f i) ≤ m) → length (joined k f) ≤ k * m
unfolding joined
joined_length m zero f a = omega arith
joined_length m (suc k) f a = omega (arith, length-append (joined k f) (f k), joined_length m k f (λ i h. a i (omega arith)), a k (omega arith), suc-mul k m)

place-length : (vs : List ℕ) → length vs ≤ 3 → Digits 20 vs → length (place_text vs) ≤ 66
place-length [] h a = omega arith
place-length (v ∷ vs) h a = omega (arith, length-append (ascii " at") (numbers (v ∷ vs)), numbers-length 19 (v ∷ vs) a)

pub state-length : (s : Said) → s.state < 100 → length s.values ≤ 3 → Digits 20 s.values → length (state_line s) ≤ line_most
unfolding state_line
state-length s h l a =
    omega (
      arith,
      length-append (said "state" (s.state ∷ [])) (place_text s.values ++ line_feed),
      length-append (ascii "state") (numbers (s.state ∷ [])),
      numbers-length 1 (s.state ∷ []) (h, tt),
      length-append (place_text s.values) line_feed,
      place-length s.values l a,
    )

pub rounds-length : (r : ℕ) → r < 1000000 → length (rounds_line r) ≤ 14
unfolding rounds_line
rounds-length r h = omega (arith, length-append (said "rounds" (r ∷ [])) line_feed, length-append (ascii "rounds") (numbers (r ∷ [])), numbers-length 5 (r ∷ []) (h, tt))

pub field_length : (i : ℕ) (days : List ℕ) → i < 100 → length days ≤ 32 → Digits 5 days → length (field_line i days) ≤ 209
unfolding field_line
field_length i days h l a =
    omega (
      arith,
      length-append (said "field" (i ∷ [])) (said " kept" (length days ∷ []) ++ (numbers days ++ line_feed)),
      length-append (ascii "field") (numbers (i ∷ [])),
      numbers-length 1 (i ∷ []) (h, tt),
      length-append (said " kept" (length days ∷ [])) (numbers days ++ line_feed),
      length-append (ascii " kept") (numbers (length days ∷ [])),
      numbers-length 1 (length days ∷ []) (omega arith, tt),
      length-append (numbers days) line_feed,
      numbers-length 4 days a,
    )

pub rows-length : (row : List ℕ) → length row ≤ 3 → Digits 2 row → length (rows_line row) ≤ 21
unfolding numbers
rows-length [] h a = omega arith
rows-length (v ∷ vs) h a = omega (arith, length-append (said "rows broken" (v ∷ vs)) line_feed, length-append (ascii "rows broken") (numbers (v ∷ vs)), numbers-length 1 (v ∷ vs) a)

pub first-length : (days : List ℕ) → length days ≤ 16 → Digits 5 days → length (first_line days) ≤ 102
unfolding numbers
first-length [] h a = omega arith
first-length (v ∷ vs) h a = omega (arith, length-append (said "first" (v ∷ vs)) line_feed, length-append (ascii "first") (numbers (v ∷ vs)), numbers-length 4 (v ∷ vs) a)

-- the state of a table that is not refused

pub zero-state : length (state_line (says 0 [])) ≡ 8
unfolding state_line numbers decimal digits
zero-state = refl

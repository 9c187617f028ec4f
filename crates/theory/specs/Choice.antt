-- The first full reading that keeps the fixed readings, field by field along an order of the fields (01, "Choosing").
use Rattle.std.specs.Prelude.{◌≡◌, ◌⊎◌, Bool, cond, not, ◌&&◌, ◌||◌, ℕ, zero, suc, ◌<◌, T, eqb, leb}
use Rattle.theory.specs.Bound.{all, any, first}
use Rattle.theory.specs.Relation.{Rel}
use Rattle.theory.specs.Reading.{Full}
use Rattle.theory.specs.Rows.{stands, Whole}

-- order p is the field taken at position p: each of the n fields has a position
pub record Order (n : ℕ) (order : ℕ → ℕ) : Type 0 where
  pub within : (p : ℕ) → p < n → order p < n
  pub onto : (f : ℕ) → f < n → (p : ℕ) × (p < n) × (order p ≡ f)

-- field order: 0, 1, 2, ..
abbrev pub by_number : ℕ → ℕ
by_number p = p

-- a fixed choice of 255 leaves the field free
abbrev pub free : ℕ → Bool
free v = eqb v 255

-- field i has a fixed reading
abbrev pub Fixed : (ℕ → ℕ) → ℕ → Type 0
Fixed fixed i = T (not (free (fixed i)))

-- y has the fixed readings
abbrev pub Keeps : ℕ → (ℕ → ℕ) → (ℕ → ℕ) → Type 0
Keeps n fixed y = (i : ℕ) → i < n → Fixed fixed i → y i ≡ fixed i

-- each fixed reading is kept, and each two go together
abbrev pub Allowed : ℕ → Rel → (ℕ → ℕ) → Type 0
Allowed n R fixed = (i j : ℕ) → i < n → j < n → Fixed fixed i → Fixed fixed j → T (R i j (fixed i) (fixed j))

-- x and y are the same at the first m positions of the order
abbrev pub Same : ℕ → (ℕ → ℕ) → (ℕ → ℕ) → (ℕ → ℕ) → Type 0
Same m order x y = (p : ℕ) → p < m → x (order p) ≡ y (order p)

-- x comes before y: it is less at the first position where they differ
abbrev pub Before : ℕ → (ℕ → ℕ) → (ℕ → ℕ) → (ℕ → ℕ) → Type 0
Before n order x y = (p : ℕ) × (p < n) × Same p order x y × (x (order p) < y (order p))

-- x is the first full reading of R, along the order, that keeps the fixed readings
pub record First (n : ℕ) (order : ℕ → ℕ) (R : Rel) (fixed x : ℕ → ℕ) : Type 0 where
  pub full : Full n R x
  pub keeps : Keeps n fixed x
  pub least : (y : ℕ → ℕ) → Full n R y → Keeps n fixed y → Same n order x y ⊎ Before n order x y

-- reading b is left for the field at position p after the choices before it: it is kept, is the fixed one where one is fixed,
-- and goes with all that is chosen so far and with all that is fixed
unfoldable pub left : ℕ → (ℕ → ℕ) → Rel → (ℕ → ℕ) → (ℕ → ℕ) → ℕ → ℕ → Bool
left n order R fixed x p b =
    R (order p) (order p) b b
    && ((free (fixed (order p)) || eqb b (fixed (order p)))
    && (all p (λ q. R (order q) (order p) (x (order q)) b)
    && all n (λ g. free (fixed g) || R g (order p) (fixed g) b)))

-- the walk so far: at each of the first m positions x has the lowest reading that is left (the field's size where none is)
abbrev pub Walked : ℕ → (ℕ → ℕ) → (ℕ → ℕ) → Rel → (ℕ → ℕ) → (ℕ → ℕ) → ℕ → Type 0
Walked n order size R fixed x m = (p : ℕ) → p < m → x (order p) ≡ first (size (order p)) (left n order R fixed x p)

-- x with the reading v at field f
unfoldable pub put : ℕ → ℕ → (ℕ → ℕ) → ℕ → ℕ
put f v x g = cond (eqb g f) v (x g)

-- nothing is fixed but the reading a of field i
unfoldable pub only : ℕ → ℕ → ℕ → ℕ
only i a = put i a (λ g. 255)

-- what the walk has chosen after the first m positions
unfoldable pub walk : ℕ → (ℕ → ℕ) → (ℕ → ℕ) → Rel → (ℕ → ℕ) → ℕ → ℕ → ℕ
walk n order size R fixed zero = fixed
walk n order size R fixed (suc m) =
    let x = walk n order size R fixed m in
    put (order m) (first (size (order m)) (left n order R fixed x m)) x

-- the rows to each field are whole from the fields before it in the order, and from the fixed ones
pub record WholeAlong (n : ℕ) (order size : ℕ → ℕ) (R : Rel) (fixed : ℕ → ℕ) : Type 0 where
  pub earlier : (q p a : ℕ) → q < p → p < n → Whole (stands size R (order p)) (R (order q) (order p) a)
  pub held : (g p a : ℕ) → g < n → p < n → Fixed fixed g → Whole (stands size R (order p)) (R g (order p) a)

-- the fixed readings of fields i ≤ j do not go together; of one field: it is struck
unfoldable pub clash : Rel → (ℕ → ℕ) → ℕ → ℕ → Bool
clash R fixed i j = leb i j && (not (free (fixed i) || free (fixed j)) && not (R i j (fixed i) (fixed j)))

-- the first such pair, by i, then j: its i (n where there is none)
unfoldable pub clash_from : ℕ → Rel → (ℕ → ℕ) → ℕ
clash_from n R fixed = first n (λ i. any n (clash R fixed i))

-- and its j
unfoldable pub clash_to : ℕ → Rel → (ℕ → ℕ) → ℕ
clash_to n R fixed = first n (clash R fixed (clash_from n R fixed))

-- What the theorems of reading a sheet speak of (01, "Dates and sheets").
use Rattle.std.specs.Prelude.{◌≡◌, ◌⊎◌, Bool, ℕ, ◌+◌, ◌≤◌, ◌<◌, length, get_or}
use mathlib.Core.List.{List, [], Memᴰ}
use Rattle.theory.specs.Limits.{fields_most}
use Rattle.scan.specs.Sheet.{Record, gap, strike, fields_of, Scanned, whole, faulty, scan}
use Rattle.sheet.specs.Opening.{day_of, days_most, words_most}

-- the buffers

-- each lent buffer is long enough
pub record LongEnough (sizes days table : List ℕ) : Type 0 where
  pub enough_sizes : fields_most ≤ length sizes
  pub enough_days : days_most ≤ length days
  pub enough_words : words_most ≤ length table

-- one of them is too short
abbrev pub TooShort : (sizes days table : List ℕ) → Type 0
TooShort sizes days table = (length sizes < fields_most) ⊎ (length days < days_most) ⊎ (length table < words_most)

-- the records

-- the records of a sheet, none where it is faulty
abbrev pub records_in : Scanned → List Record
records_in (whole rs) = rs
records_in (faulty said) = []

abbrev pub records_of : (ℕ → Bool) → List ℕ → List Record
records_of sep sheet = records_in (scan sep sheet)

-- the days of each field of a sheet
abbrev pub fields_in : (ℕ → Bool) → List ℕ → List (List ℕ)
fields_in sep sheet = fields_of (records_of sep sheet)

-- one pair

-- day e minus day d lies from lo to hi (these raised by 32,768)
abbrev pub Apart : (lo hi d e : ℕ) → Type 0
Apart lo hi d e = (d + lo ≤ e + 32768) × (e + 32768 ≤ d + hi)

-- every GP on fields i and j, named in either order, admits readings a and b
abbrev pub EveryGapAdmits : List (List ℕ) → List Record → (i j a b : ℕ) → Type 0
EveryGapAdmits fields rs i j a b =
    (lo hi : ℕ)
    → (Memᴰ (gap i j lo hi) rs → Apart lo hi (day_of fields i a) (day_of fields j b))
    × (Memᴰ (gap j i lo hi) rs → Apart lo hi (day_of fields j b) (day_of fields i a))

-- no PR strikes the pair, named in either order
abbrev pub NoStrike : List Record → (i j a b : ℕ) → Type 0
NoStrike rs i j a b = (Memᴰ (strike i j a b) rs → ⊥) × (Memᴰ (strike j i b a) rs → ⊥)

-- reading a of field i and reading b of field j: there are such, and the same one where the fields are the same
pub record Pairing (fields : List (List ℕ)) (i j a b : ℕ) : Type 0 where
  pub first : a < length (get_or fields i [])
  pub second : b < length (get_or fields j [])
  pub same : i ≡ j → a ≡ b

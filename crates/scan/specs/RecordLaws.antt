-- One more record: what the records have said grows by what it says.
use Rattle.std.specs.Prelude.{◌≡◌, refl, List, [], ◌∷◌, ◌++◌, map, ℕ, length}
use Rattle.std.proofs.Common.{ap, ◌∙◌}
use mathlib.Core.Bool.{Bool, true, false}
use Rattle.scan.specs.Sheet.{Record, field, gap, strike, fields_of, any_pair, told}

-- a record adds no field: a GP or PR
abbrev pub is_pair : Record → Bool
is_pair (field days) = false
is_pair (gap i j lo hi) = true
is_pair (strike i j a b) = true

pub fields_field : (rs : List Record) (days : List ℕ) → fields_of (rs ++ field days ∷ []) ≡ fields_of rs ++ days ∷ []
unfolding fields_of
fields_field [] days = refl
fields_field (field d ∷ rs) days = ap (λ (l : List (List ℕ)). d ∷ l) (fields_field rs days)
fields_field (gap i j lo hi ∷ rs) days = fields_field rs days
fields_field (strike i j a b ∷ rs) days = fields_field rs days

pub fields_pair : (rs : List Record) (r : Record) → is_pair r ≡ true → fields_of (rs ++ r ∷ []) ≡ fields_of rs
unfolding fields_of
fields_pair [] (field d) e = absurd (let z : ◌≡◌ {A = Bool} true false = cc in mathlib.Core.Bool.true≢false z)
fields_pair [] (gap i j lo hi) e = refl
fields_pair [] (strike i j a b) e = refl
fields_pair (field d ∷ rs) r e = ap (λ (l : List (List ℕ)). d ∷ l) (fields_pair rs r e)
fields_pair (gap i j lo hi ∷ rs) r e = fields_pair rs r e
fields_pair (strike i j a b ∷ rs) r e = fields_pair rs r e

pub late_field : (rs : List Record) (days : List ℕ) → any_pair (rs ++ field days ∷ []) ≡ any_pair rs
unfolding any_pair
late_field [] days = refl
late_field (field d ∷ rs) days = late_field rs days
late_field (gap i j lo hi ∷ rs) days = refl
late_field (strike i j a b ∷ rs) days = refl

pub late_pair : (rs : List Record) (r : Record) → is_pair r ≡ true → any_pair (rs ++ r ∷ []) ≡ true
unfolding any_pair
late_pair [] (field d) e = e
late_pair [] (gap i j lo hi) e = refl
late_pair [] (strike i j a b) e = refl
late_pair (field d ∷ rs) r e = late_pair rs r e
late_pair (gap i j lo hi ∷ rs) r e = refl
late_pair (strike i j a b ∷ rs) r e = refl

map_last : (ds : List (List ℕ)) (d : List ℕ) → map length (ds ++ d ∷ []) ≡ map length ds ++ length d ∷ []
map_last [] d = refl
map_last (x ∷ ds) d = ap (λ (l : List ℕ). length x ∷ l) (map_last ds d)

pub told_field : (rs : List Record) (days : List ℕ) → told (rs ++ field days ∷ []) ≡ record { sizes = (told rs).sizes ++ length days ∷ []; late = (told rs).late }
unfolding told
told_field rs days = λ i. record {
  sizes = (ap (map length) (fields_field rs days) ∙ map_last (fields_of rs) days) i;
  late = late_field rs days i;
}

pub told_pair : (rs : List Record) (r : Record) → is_pair r ≡ true → told (rs ++ r ∷ []) ≡ record { sizes = (told rs).sizes; late = true }
unfolding told
told_pair rs r e = λ i. record { sizes = map length (fields_pair rs r e i); late = late_pair rs r e i }

pub told-sizes : (rs : List Record) → (told rs).sizes ≡ map length (fields_of rs)
unfolding told
told-sizes rs = refl

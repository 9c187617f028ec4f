-- What the lent buffers hold after a sheet is opened: each field's days at 32 times its number, and what was there before in all other places.
use Rattle.std.specs.Prelude.{◌≡◌, refl, List, [], ◌∷◌, ◌++◌, ℕ, zero, suc, ◌+◌, ◌-◌, ◌*◌, ◌≤◌, ◌<◌, length, get_or, take, drop, replicate}
use Rattle.std.proofs.Common.{sym, ap, ◌∙◌, inl, inr, arith, length-append, length-drop, get_or-append-add, get_or-drop}
use Rattle.std.proofs.lemmas.List.{length-replicate, get_or-replicate}
use Rattle.std.proofs.Math.ListN.{get_or-append, get_or-eq_default}
use Rattle.std.proofs.Math.Seq.{take-append_seam}
use Rattle.theory.specs.Limits.{readings_most}
use Rattle.theory.specs.BoundLaws.{lt_or_ge}
use Rattle.calendar.specs.DateAnswers.{padded}
use Rattle.scan.specs.WholeLaws.{GoodFields}
use Rattle.sheet.specs.Opening.{day_of, days_of, over}

-- new over old

-- the first places hold what is new
pub over_front : (k : ℕ) (new old : List ℕ) → length new ≡ k → take k (over new old) ≡ new
over_front k new old e = rw (← e) (take-append_seam new _)

pub over_new : (new old : List ℕ) (p : ℕ) → p < length new → get_or (over new old) p 0 ≡ get_or new p 0
over_new new old p h = get_or-append new _ 0 p h

-- all else stays
pub over_old : (new old : List ℕ) (p : ℕ) → length new ≤ p → get_or (over new old) p 0 ≡ get_or old p 0
over_old new old p h =
    let e : length new + (p - length new) ≡ p = omega arith in
    ap (λ (k : ℕ). get_or (over new old) k 0) (sym e)
    ∙ get_or-append-add new (drop (length new) old) (p - length new) 0
    ∙ get_or-drop (length new) old (p - length new) 0
    ∙ ap (λ (k : ℕ). get_or old k 0) e

pub over_length : (new old : List ℕ) → length new ≤ length old → length (over new old) ≡ length old
over_length new old h = length-append new (drop (length new) old) ∙ ap (λ (k : ℕ). length new + k) (length-drop (length new) old) ∙ omega arith

-- days

-- zeros to the end
padded_reads : (k : ℕ) (d : List ℕ) (a : ℕ) → a < k → get_or (padded k d) a 0 ≡ get_or d a 0
padded_reads k d a h = elim (lt_or_ge a (length d)) [
  | inl l ↦ get_or-append d _ 0 a l
  | inr g ↦
      let e : length d + (a - length d) ≡ a = omega arith in
      ap (λ (p : ℕ). get_or (padded k d) p 0) (sym e)
      ∙ get_or-append-add d (replicate (k - length d) 0) (a - length d) 0
      ∙ get_or-replicate (k - length d) (a - length d) 0 0 (omega arith)
      ∙ sym (get_or-eq_default d 0 {n = a} g)
]

pub padded-long : (k : ℕ) (d : List ℕ) → length d ≤ k → length (padded k d) ≡ k
padded-long k d h = length-append d (replicate (k - length d) 0) ∙ ap (λ (p : ℕ). length d + p) (length-replicate (k - length d) 0) ∙ omega arith

-- no field has more than 32 days
abbrev pub Few : List (List ℕ) → Type 0
Few fields = (i : ℕ) → i < length fields → length (get_or fields i []) ≤ readings_most

pub good_few : (fields : List (List ℕ)) → GoodFields fields → Few fields
good_few fields g i h = (g.each i h).few

pub few_rest : (d : List ℕ) (fields : List (List ℕ)) → Few (d ∷ fields) → Few fields
few_rest d fields f i h = f (suc i) (omega arith)

pub length-days : (fields : List (List ℕ)) → Few fields → length (days_of fields) ≡ readings_most * length fields
unfolding days_of
length-days [] f = refl
length-days (d ∷ fields) f =
    length-append (padded readings_most d) (days_of fields)
    ∙ omega (arith, padded-long readings_most d (f 0 (omega arith)), length-days fields (few_rest d fields f))

-- place 32 * i + a holds day a of field i, and 0 where there is none
pub days_at_lem : (fields : List (List ℕ)) → Few fields → (i a : ℕ) → i < length fields → a < readings_most → get_or (days_of fields) (readings_most * i + a) 0 ≡ day_of fields i a
unfolding days_of
days_at_lem [] f i a hi ha = absurd (omega arith)
days_at_lem (d ∷ fields) f zero a hi ha =
    let long = padded-long readings_most d (f 0 (omega arith)) in
    let e : readings_most * 0 + a ≡ a = omega arith in
    ap (λ (p : ℕ). get_or (padded readings_most d ++ days_of fields) p 0) e
    ∙ get_or-append (padded readings_most d) (days_of fields) 0 a (omega arith)
    ∙ padded_reads readings_most d a ha
days_at_lem (d ∷ fields) f (suc i) a hi ha =
    let long = padded-long readings_most d (f 0 (omega arith)) in
    let e : readings_most * suc i + a ≡ length (padded readings_most d) + (readings_most * i + a) = omega arith in
    ap (λ (p : ℕ). get_or (padded readings_most d ++ days_of fields) p 0) e
    ∙ get_or-append-add (padded readings_most d) (days_of fields) (readings_most * i + a) 0
    ∙ days_at_lem fields (few_rest d fields f) i a (omega arith) ha

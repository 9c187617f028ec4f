-- What an answer says determines it.
use Rattle.std.specs.Prelude.{◌≡◌, refl, List, [], ◌∷◌, ℕ, Option, Some, None, Result, length, get_or}
use Rattle.std.proofs.Common.{sym, ap, arith}
use Rattle.refusal.specs.Said.{Said, says}
use Rattle.refusal.specs.declared.Refusal.{Refusal}
use Rattle.refusal.proofs.Determined.{said_determines}
use Rattle.table.specs.declared.layout.Row.{Row}
use Rattle.judge.specs.declared.showing.Shown.{Shown}
use Rattle.judge.specs.Answers.{said_kept, said_row, said_rows, said_place, said_shown}

-- the value at place k of a result
value : (k : ℕ) {v w : List ℕ} → says 0 v ≡ says 0 w → get_or v k 0 ≡ get_or w k 0
value k e = ap (λ (s : Said). get_or s.values k 0) e

pub kept-determined : (x y : Result ℕ Refusal) → said_kept x ≡ said_kept y → x ≡ y
kept-determined = said_determines (λ k. says 0 (k ∷ [])) (λ k. refl) (λ k l e. value 0 e)

-- a broken row says something, and whole rows say nothing
pub some : {v : List ℕ} {i : ℕ} → says 0 [] ≡ says 0 (i ∷ v) → ⊥
some {v} {i} e = let z : ◌≡◌ {A = ℕ} 0 (length (i ∷ v)) = ap (λ (s : Said). length s.values) e in omega arith

pub row-determined : (x y : Option Row) → said_row x ≡ said_row y → x ≡ y
row-determined None None e = refl
row-determined None (Some r) e = absurd (some e)
row-determined (Some r) None e = absurd (some (sym e))
row-determined (Some r) (Some q) e = λ x. Some (record { i = value 0 e x; j = value 1 e x; a = value 2 e x })

pub rows-determined : (x y : Result (Option Row) Refusal) → said_rows x ≡ said_rows y → x ≡ y
rows-determined = said_determines said_row stateless row-determined
  where
    stateless : (x : Option Row) → (said_row x).state ≡ 0
    stateless None = refl
    stateless (Some r) = refl

pub shown-determined : (x y : Result Shown Refusal) → said_shown x ≡ said_shown y → x ≡ y
shown-determined = said_determines said_place stateless one
  where
    stateless : (x : Shown) → (said_place x).state ≡ 0
    stateless (Shown.Settled p) = refl
    stateless (Shown.Opening p) = refl

    one : (x y : Shown) → said_place x ≡ said_place y → x ≡ y
    one (Shown.Settled p) (Shown.Settled q) e = ap Shown.Settled (value 1 e)
    one (Shown.Settled p) (Shown.Opening q) e = absurd (omega (arith, value 0 e))
    one (Shown.Opening p) (Shown.Settled q) e = absurd (omega (arith, value 0 e))
    one (Shown.Opening p) (Shown.Opening q) e = ap Shown.Opening (value 1 e)

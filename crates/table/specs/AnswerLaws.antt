-- What an answer says determines it, and what an answer of the checks tells whoever asked.
use Rattle.std.specs.Prelude.{◌≡◌, refl, List, [], ℕ, Result, Ok, Err, IsErrAnd}
use Rattle.std.proofs.Common.{sym, ap, ◌∙◌}
use Rattle.refusal.specs.Said.{Said, says, refused, said_by}
use Rattle.refusal.proofs.Determined.{no_refusal, said_determines}
use Rattle.refusal.specs.declared.Refusal.{Refusal}
use Rattle.table.specs.Checks.{Check}
use Rattle.table.specs.CheckLaws.{passed, refused_on}
use Rattle.table.specs.Answers.{said_shaped}

-- what `?` passes on says what the refusal says, as an answer of any kind
pub said_on : {B : Type 0} (say : B → Said) (r : Result B Refusal) (q : Refusal) {k : Said} → IsErrAnd r (λ e. e ≡ q) → refused q ≡ k → said_by say r ≡ k
said_on say (Ok x) q f e = absurd f
said_on say (Err r) q f e = ap refused f ∙ e

-- a refusal says no result
pub no_result : (q : Refusal) {v : List ℕ} → refused q ≡ says 0 v → ⊥
no_result q e = no_refusal refl q (sym e)

pub shaped_determined : (x y : Result Unit Refusal) → said_shaped x ≡ said_shaped y → x ≡ y
shaped_determined = said_determines (λ _. says 0 []) (λ _. refl) (λ x y e. refl)

module _ {P : Type 0} {A : Said → Said} (c : Check P A) {x : Result Unit Refusal} (e : said_shaped x ≡ A (says 0 [])) where
  -- what is refused is refused whatever comes after
  pub told-refused : (q : Refusal) → x ≡ Err q → (rest : Said) → refused q ≡ A rest
  told-refused q h = refused_on c q (sym (ap said_shaped h) ∙ e)

  -- what is good is what the checks are for
  pub told-good : {u : Unit} → x ≡ Ok u → P
  told-good h = passed c (sym (ap said_shaped h) ∙ e)

  -- and what comes after has the word
  pub told_on : {u : Unit} → x ≡ Ok u → (rest : Said) → rest ≡ A rest
  told_on h rest = sym (c.passes (told-good h) rest)

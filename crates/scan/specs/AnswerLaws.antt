-- What is said determines the answer of a scan.
use Rattle.std.specs.Prelude.{◌≡◌, refl, Bool, List, [], ◌∷◌, ℕ, get_or, Result}
use Rattle.std.proofs.Common.{sym, ap, ◌∙◌}
use Rattle.refusal.specs.Said.{Said, says}
use Rattle.refusal.proofs.Determined.{said_determines}
use Rattle.refusal.specs.declared.Refusal.{Refusal}
use Rattle.scan.specs.Sheet.{scan}
use Rattle.scan.specs.Answer.{said_opened, scan_says}

pub opened-determined : (x y : Result ℕ Refusal) → said_opened x ≡ said_opened y → x ≡ y
opened-determined = said_determines (λ n. says 0 (n ∷ [])) (λ n. refl) (λ n m e. ap (λ (s : Said). get_or s.values 0 0) e)

-- "that two results satisfying the statement coincide"
pub scan_is_one : (sep : ℕ → Bool) (sheet : List ℕ) (x y : Result ℕ Refusal) → said_opened x ≡ scan_says (scan sep sheet) → said_opened y ≡ scan_says (scan sep sheet) → x ≡ y
scan_is_one sep sheet x y p q = opened-determined x y (p ∙ sym q)

-- Number and place determine the refusal, and what is said the answer.
use Rattle.std.specs.Prelude.{◌≡◌, refl, List, [], ◌∷◌, ℕ, get_or, Result, Ok, Err}
use Rattle.std.proofs.Common.{sym, ap, ap₂, ◌∙◌, arith}
use Rattle.refusal.specs.declared.Refusal.{Refusal}
use Rattle.refusal.specs.declared.Refusal.TheVariants.{Fields, Size, Length, Stray, Diagonal, Mirror, Lent, Unsettled, Empty, Broken, Fixed, Clash, Short, Long, Cut, Mark, Late, Many, Shapeless, ShapelessAt, Unreal, UnrealAt, Days, Pair, After, NoField}
use Rattle.refusal.specs.Refusals.{number, place}
use Rattle.refusal.specs.Said.{Said, refused, said_by}
use Rattle.refusal.specs.RefusalLaws.{numbered}

-- the refusal with a place of its own, or without one
placed : Refusal → (ℕ → Refusal) → List ℕ → Refusal
placed r at [] = r
placed r at (f ∷ v) = at f

-- the refusals of a place, by number
cases : List ℕ → List Refusal
cases v =
    Fields
    ∷ Fields
    ∷ Size (get_or v 0 0)
    ∷ Length
    ∷ Stray (get_or v 0 0) (get_or v 1 0) (get_or v 2 0)
    ∷ Diagonal (get_or v 0 0) (get_or v 1 0) (get_or v 2 0)
    ∷ Mirror (get_or v 0 0) (get_or v 1 0) (get_or v 2 0)
    ∷ Lent
    ∷ Unsettled (get_or v 0 0) (get_or v 1 0) (get_or v 2 0)
    ∷ Empty
    ∷ Broken (get_or v 0 0) (get_or v 1 0) (get_or v 2 0)
    ∷ Fixed (get_or v 0 0)
    ∷ Clash (get_or v 0 0) (get_or v 1 0)
    ∷ Short
    ∷ Long
    ∷ Cut (get_or v 0 0)
    ∷ Mark (get_or v 0 0)
    ∷ Late (get_or v 0 0)
    ∷ Many (get_or v 0 0)
    ∷ placed Shapeless ShapelessAt v
    ∷ placed Unreal UnrealAt v
    ∷ Days (get_or v 0 0)
    ∷ Pair (get_or v 0 0)
    ∷ After (get_or v 0 0)
    ∷ NoField
    ∷ []

refusal_of : ℕ → List ℕ → Refusal
refusal_of k v = get_or (cases v) k Fields

found : (r : Refusal) → refusal_of (number r) (place r) ≡ r
unfolding refusal_of cases placed
found Fields = refl
found (Size f) = refl
found Length = refl
found (Stray i j a) = refl
found (Diagonal i j a) = refl
found (Mirror i j a) = refl
found Lent = refl
found (Unsettled i j a) = refl
found Empty = refl
found (Broken i j a) = refl
found (Fixed f) = refl
found (Clash i j) = refl
found Short = refl
found Long = refl
found (Cut f) = refl
found (Mark f) = refl
found (Late f) = refl
found (Many f) = refl
found Shapeless = refl
found (ShapelessAt f) = refl
found Unreal = refl
found (UnrealAt f) = refl
found (Days f) = refl
found (Pair f) = refl
found (After f) = refl
found NoField = refl

pub determined : (r s : Refusal) → number r ≡ number s → place r ≡ place s → r ≡ s
determined r s p q = sym (found r) ∙ ap₂ refusal_of p q ∙ found s

-- two refusals that say the same are the same
pub refused_determines : (r s : Refusal) → refused r ≡ refused s → r ≡ s
refused_determines r s e = determined r s (ap (λ (x : Said). x.state) e) (ap (λ (x : Said). x.values) e)

-- what says the state 0 is no refusal's word
pub no_refusal : {s : Said} → s.state ≡ 0 → (r : Refusal) → s ≡ refused r → ⊥
no_refusal z r e = omega (arith, z, ap (λ (x : Said). x.state) e, numbered r)

-- two answers that say the same are the same where values say the state 0 and two values of theirs are one if they say the same
pub answer_determined : {A : Type 0} (say : A → Said) → ((x : A) → (say x).state ≡ 0) → (a b : Result A Refusal) → ((x y : A) → a ≡ Ok x → b ≡ Ok y → say x ≡ say y → x ≡ y) → said_by say a ≡ said_by say b → a ≡ b
answer_determined say z (Ok x) (Ok y) one e = ap Ok (one x y refl refl e)
answer_determined say z (Ok x) (Err r) one e = absurd (no_refusal (z x) r e)
answer_determined say z (Err r) (Ok y) one e = absurd (no_refusal (z y) r (sym e))
answer_determined say z (Err r) (Err q) one e = ap Err (refused_determines r q e)

-- where no two values say the same
pub said_determines : {A : Type 0} (say : A → Said) → ((x : A) → (say x).state ≡ 0) → ((x y : A) → say x ≡ say y → x ≡ y) → (a b : Result A Refusal) → said_by say a ≡ said_by say b → a ≡ b
said_determines say z one a b = answer_determined say z a b (λ x y p q. one x y)

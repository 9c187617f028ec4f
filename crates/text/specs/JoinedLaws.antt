-- Pieces written one after the other, as a loop puts them.
use Rattle.std.specs.Prelude.{◌≡◌, refl, List, [], ◌∷◌, ◌++◌, ℕ, zero, suc, ◌+◌, ◌≤◌, ◌<◌, length, get_or, take}
use Rattle.std.proofs.Common.{sym, ap, ap₂, subst, ◌∙◌, inl, inr, le_antisymm, add-one, arith, length-append, take-suc}
use Rattle.std.proofs.Math.Seq.{take-length}
use Rattle.theory.specs.BoundLaws.{lt_or_ge}
use Rattle.text.specs.Text.{joined, number, numbers}
use Rattle.text.specs.TextLaws.{numbers-append, numbers_one}
use Rattle.text.specs.declared.write.Writer.{Writer}
use Rattle.text.specs.Puts.{Fits, Puts}
use Rattle.text.specs.PutsLaws.{puts_none, puts_then}
use Rattle.text.specs.WritingLaws.{wrote_length}

-- one piece more
pub joined_more : (k : ℕ) (f : ℕ → List ℕ) → joined (k + 1) f ≡ joined k f ++ f k
unfolding joined
joined_more k f = ap (λ (m : ℕ). joined m f) (add-one k)

joined_grows : (k n : ℕ) (f : ℕ → List ℕ) → k ≤ n → length (joined k f) ≤ length (joined n f)
unfolding joined
joined_grows k zero f h = let e : k ≡ 0 = omega arith in rw e (omega arith)
joined_grows k (suc n) f h = elim (lt_or_ge n k) [
  | inl l ↦ let e : k ≡ suc n = omega arith in rw e (omega arith)
  | inr l ↦ omega (arith, joined_grows k n f l, length-append (joined n f) (f n))
]

-- a loop that puts n pieces, before piece k
pub record Joining (n : ℕ) (f : ℕ → List ℕ) (before after : Writer) (k : ℕ) : Type 0 where
  pub room : Fits before (joined n f)
  pub sofar : Puts before after (joined k f)
  pub within : k ≤ n

pub joining_start : {n : ℕ} {f : ℕ → List ℕ} {w : Writer} → Fits w (joined n f) → Joining n f w w 0
unfolding joined
joining_start r = record { room = r; sofar = puts_none (record { enough = omega arith }); within = omega arith }

pub joining_room : {n : ℕ} {f : ℕ → List ℕ} {v w : Writer} {k : ℕ} → Joining n f v w k → k < n → Fits w (f k)
joining_room {n} {f} {k = k} g h =
    let grown = joined_grows (k + 1) n f (omega arith) in
    record { enough = omega (arith, g.room.enough, wrote_length g.sofar.wrote, grown, ap length (joined_more k f), length-append (joined k f) (f k)) }

pub joining_more : {n : ℕ} {f : ℕ → List ℕ} {u v w : Writer} {k : ℕ} → Joining n f u v k → k < n → Puts v w (f k) → Joining n f u w (k + 1)
joining_more {f = f} {k = k} g h p = record { room = g.room; sofar = rw (joined_more k f) (puts_then g.sofar p); within = omega arith }

pub joining_end : {n : ℕ} {f : ℕ → List ℕ} {v w : Writer} {k : ℕ} → Joining n f v w k → n ≤ k → Puts v w (joined n f)
joining_end {n} {f} {v} {w} g h = subst (λ (p : ℕ). Puts v w (joined p f)) (le_antisymm g.within h) g.sofar

-- a list is its elements one after the other
taken : (l : List ℕ) (k : ℕ) → k ≤ length l → joined k (λ p. get_or l p 0 ∷ []) ≡ take k l
unfolding joined
taken l zero h = refl
taken l (suc k) h = ap (λ (t : List ℕ). t ++ (get_or l k 0 ∷ [])) (taken l k (omega arith)) ∙ sym (take-suc l k 0 h)

pub joined_list : (l : List ℕ) → joined (length l) (λ p. get_or l p 0 ∷ []) ≡ l
joined_list l = taken l (length l) (omega arith) ∙ take-length l

-- so are its numbers
counted : (l : List ℕ) (k : ℕ) → k ≤ length l → joined k (λ p. number (get_or l p 0)) ≡ numbers (take k l)
unfolding joined numbers
counted l zero h = refl
counted l (suc k) h =
    ap₂ ◌++◌ (counted l k (omega arith)) (sym (numbers_one (get_or l k 0)))
    ∙ sym (numbers-append (take k l) (get_or l k 0 ∷ []))
    ∙ ap numbers (sym (take-suc l k 0 h))

pub joined_numbers : (l : List ℕ) → joined (length l) (λ p. number (get_or l p 0)) ≡ numbers l
joined_numbers l = counted l (length l) (omega arith) ∙ ap numbers (take-length l)

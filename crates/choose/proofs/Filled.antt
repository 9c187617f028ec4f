-- A settled table is empty exactly where its first field keeps nothing.
use mathlib.Core.Path.{◌≡◌, sym, ap, ◌∙◌, subst}
use mathlib.Core.Logic.{◌⊎◌, inl, inr}
use mathlib.Core.Bool.{true, not}
use mathlib.Core.List.{[]}
use Prim.Native.Nat.{ℕ, ◌<◌}
use lib.Dec.{T}
use borrow.Author.Tests.{ne_eqb}
use Rattle.theory.specs.Limits.{readings_most}
use Rattle.theory.specs.BoundLaws.{T_ext, known, any_i, any_e}
use Rattle.theory.specs.Relation.{Rel, Settled}
use Rattle.theory.specs.Reading.{empty}
use Rattle.theory.proofs.ReadingLaws.{holds_i, holds_e, filled_i, settled-filled}
use Rattle.words.specs.Word.{bit, pack}
use Rattle.words.specs.WordLaws.{bit-pack, pack-lt, some_one, zero_no}
use Rattle.refusal.specs.Said.{Said, says}
use Rattle.choose.specs.Choosing.{after_empty}
use Rattle.choose.specs.ChoosingLaws.{check-filled}
use Rattle.choose.specs.Taken.{own}

module _ (n : ℕ) (R : Rel) (s : Settled n R) (h : 0 < n) (w : ℕ) (e : w ≡ pack readings_most (own R 0)) where
  own-bit : (b : ℕ) → b < readings_most → bit w b ≡ own R 0 b
  own-bit b l = ap (λ (x : ℕ). bit x b) e ∙ bit-pack readings_most (own R 0) b l

  pub says-empty : w ≡ 0 → (rest : Said) → says 9 [] ≡ after_empty n R rest
  unfolding after_empty own
  says-empty z rest = rw (T_ext (empty n R) true (λ t. tt) (λ t. none (known (empty n R))))
    where
      none : T (empty n R) ⊎ T (not (empty n R)) → T (empty n R)
      none (inl t) = t
      none (inr t) =
          let p = holds_e R 0 0 (settled-filled n R s t 0 0 h h) in
          let o : T (own R 0 p.1) = any_i readings_most (λ a. R 0 0 a p.1) p.0 p.2 p.4 in
          absurd (zero_no p.1 (subst (λ (x : ℕ). T (bit x p.1)) z (rw (own-bit p.1 p.3) o)))

  pub says-filled : (w ≡ 0 → ⊥) → (rest : Said) → rest ≡ after_empty n R rest
  unfolding own
  says-filled d rest =
      let b = any_e readings_most (bit w) (rw (← some_one readings_most w (rw e (pack-lt readings_most (own R 0))), ne_eqb w 0 d) tt) in
      let a = any_e readings_most (λ c. R 0 0 c b.0) (rw (own-bit b.0 b.1) at b.2) in
      sym ((check-filled n R).passes (filled_i n R 0 0 h h (holds_i R 0 0 a.0 b.0 a.1 b.1 a.2)) rest)

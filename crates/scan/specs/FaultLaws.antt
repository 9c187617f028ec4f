-- A faulty sheet is refused with a fault at an offset of it.
use Rattle.std.proofs.Math.Path.{◌≡◌, refl}
use Rattle.std.proofs.Math.Logic.{inr}
use Rattle.std.specs.Prelude.{Bool}
use mathlib.Core.List.{List, [], ◌∷◌, ◌++◌}
use Prim.Native.Nat.{ℕ, zero, suc, ◌≤◌}
use Rattle.std.proofs.Common.{arith}
use Rattle.std.proofs.Math.ListN.{length}
use Rattle.refusal.specs.Said.{Said, says}
use Rattle.scan.specs.Sheet.{Record, told, Step, more, done, stop, step_at, faulty, onward, scan_from, scan}
use Rattle.scan.specs.SheetLaws.{Fault, step_forward, step_fault}

pub record FaultIn (s : List ℕ) (q : Said) : Type 0 where
  pub at : ℕ
  pub within : at ≤ length s
  pub fault : Fault at q

module _ (sep : ℕ → Bool) (s : List ℕ) (q : Said) where
  fault_from : (k : ℕ) (rs : List Record) (at : ℕ) → at ≤ length s → scan_from sep k s rs at ≡ faulty q → FaultIn s q
  unfolding scan_from
  fault_from zero rs at h e =
      let g : says 15 (at ∷ []) ≡ q = cc e in
      rw (← g) (record { at = at; within = h; fault = record { number = inr (omega arith); most = omega arith; place = inr refl } })
  fault_from (suc k) rs at h e = go (step_at sep (told rs) s at) refl e (λ r n l. fault_from k (rs ++ r ∷ []) n l)
    where
      go : (x : Step) → step_at sep (told rs) s at ≡ x → onward rs (λ r n. scan_from sep k s (rs ++ r ∷ []) n) x ≡ faulty q → ((r : Record) (n : ℕ) → n ≤ length s → scan_from sep k s (rs ++ r ∷ []) n ≡ faulty q → FaultIn s q) → FaultIn s q
      go (more r n) d f g = g r n (step_forward sep (told rs) s at r n d).1 f
      go done d f g = absurd (cc f)
      go (stop p) d f g = let i : p ≡ q = cc f in rw (← i) (record { at = at; within = h; fault = step_fault sep (told rs) s at p d })

  pub scan-fault : scan sep s ≡ faulty q → FaultIn s q
  unfolding scan
  scan-fault = fault_from (suc (length s)) [] 0 (omega arith)

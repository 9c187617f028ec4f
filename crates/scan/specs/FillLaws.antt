-- A list filled from the front, one element a turn.
use Rattle.std.specs.Prelude.{◌≡◌, refl, List, ℕ, ◌+◌, ◌≤◌, ◌<◌, length, get_or, set}
use Rattle.std.proofs.Common.{◌∙◌, arith, length-set, get_or-set_same, get_or-set_other, below_none, below_more}
use Rattle.table.specs.Layout.{tabulate}
use Rattle.table.specs.LayoutLaws.{tabulate_of}

-- out has the length of out₀, and f's numbers below k
pub record Filled (f : ℕ → ℕ) (out₀ out : List ℕ) (k : ℕ) : Type 0 where
  pub long : length out ≡ length out₀
  pub below : (p : ℕ) → p < k → get_or out p 0 ≡ f p

pub filled_none : (f : ℕ → ℕ) (out : List ℕ) → Filled f out out 0
filled_none f out = record { long = refl; below = below_none _ }

pub filled_more : {f : ℕ → ℕ} {out₀ out : List ℕ} {k : ℕ} → Filled f out₀ out k → k < length out → (v : ℕ) → v ≡ f k → Filled f out₀ (set out k v) (k + 1)
filled_more {f} {out₀} {out} {k} i h v e = record {
  long = length-set out k v ∙ i.long;
  below =
      below_more _ k
      (λ p l. get_or-set_other out k p v 0 (λ q. omega arith) ∙ i.below p l)
      (get_or-set_same out k v 0 h ∙ e);
}

pub filled-all : {f : ℕ → ℕ} {out₀ out : List ℕ} {k : ℕ} → Filled f out₀ out k → length out ≤ k → out ≡ tabulate (length out₀) f
filled-all {f} {out₀} {out} i h = tabulate_of (length out₀) f out i.long (λ p l. i.below p (omega (arith, i.long)))

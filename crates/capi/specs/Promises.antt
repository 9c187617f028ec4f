-- What the functions with lent buffers to write promise: the number, and each buffer as it is left.
use Rattle.std.specs.Prelude.{◌≡◌, List, ℕ, ◌≤◌, length}
use Rattle.settle.specs.Settle.{settle_says, table_after, scratch_after}
use Rattle.choose.specs.Choosing.{choose_says, FirstOf}
use Rattle.sheet.specs.Opening.{Outcome}
use Rattle.capi.specs.Packed.{packed_said, as_values, as_settling}

-- reading a sheet ends as the outcome says
pub record PacksReading (o : Outcome) (answer : ℕ) (sizes days table : List ℕ) : Type 0 where
  pub number : answer ≡ packed_said as_values o.said
  pub leaves_sizes : sizes ≡ o.sizes
  pub leaves_days : days ≡ o.days
  pub leaves_table : table ≡ o.table

pub record PacksSettling (sizes t s : List ℕ) (budget answer : ℕ) (t' s' : List ℕ) : Type 0 where
  pub number : answer ≡ packed_said as_settling (settle_says sizes t s budget)
  pub table : t' ≡ table_after sizes t s budget
  pub scratch : s' ≡ scratch_after sizes t s budget

-- a result leaves the first full reading in the answer's buffer, and a refusal leaves that buffer as it was
pub record PacksChoice (sizes t fixed before : List ℕ) (answer : ℕ) (after : List ℕ) : Type 0 where
  pub number : answer ≡ packed_said as_values (choose_says sizes t fixed (length before))
  pub long : length after ≡ length before
  pub first : (choose_says sizes t fixed (length before)).state ≡ 0 → FirstOf sizes t fixed after
  pub left : 1 ≤ (choose_says sizes t fixed (length before)).state → after ≡ before

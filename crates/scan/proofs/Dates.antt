-- What the answer to a date text gives its record.
use mathlib.Core.Path.{◌≡◌, refl, ap}
use mathlib.Core.Logic.{◌⊎◌, inl, inr}
use mathlib.Core.Bool.{Bool}
use mathlib.Core.List.{List, ◌++◌}
use Prim.Native.Nat.{ℕ, ◌-◌, ◌≤◌}
use native.Mathlib.Omega.{arith}
use lib.ListN.{length, replicate}
use Rattle.std.specs.Prelude.{Ok, Err}
use Rattle.refusal.specs.declared.Refusal.{Refusal}
use Rattle.refusal.specs.Refusals.{number}
use Rattle.theory.specs.Limits.{readings_most}
use Rattle.calendar.specs.DateText.{dates_most, means}
use Rattle.calendar.specs.DateTextLaws.{means_most}
use Rattle.calendar.specs.DateAnswers.{padded, ReadsDate}
use Rattle.calendar.specs.DateAnswersLaws.{reads_days, reads_refused}
use Rattle.calendar.specs.declared.Days.{Days}
use Rattle.scan.proofs.Days.{padded-wide}

-- the days that a text means, with zeros to the end of a field's
pub date_days : {sep : ℕ → Bool} {text : List ℕ} {d : Days} → ReadsDate sep text (Ok d) → (d.count ≤ dates_most) × (d.count ≡ length (means sep text)) × (d.days ++ replicate (readings_most - dates_most) 0 ≡ padded readings_most (means sep text))
date_days {sep} {text} {d} reads =
    let day = reads_days sep text (Ok d) reads d refl in
    let few = means_most sep text in
    (omega (arith, day.1, few), day.1, rw day.3 (padded-wide (means sep text) few))

pub date_refused : {sep : ℕ → Bool} {text : List ℕ} {q : Refusal} → ReadsDate sep text (Err q) → (number q ≡ 19) ⊎ (number q ≡ 20)
date_refused {sep} {text} {q} reads = elim (reads_refused sep text (Err q) reads q refl) [ inl w ↦ inl (ap number w.1) | inr w ↦ inr (ap number w.2) ]

-- What is known of the days found so far.
use mathlib.Core.Path.{◌≡◌, sym, subst}
use mathlib.Core.List.{List}
use Prim.Native.Nat.{ℕ, ◌<◌}
use native.Mathlib.Omega.{arith}
use lib.Dec.{T}
use lib.ListN.{length}
use lib.Seq.{take-append_seam}
use Rattle.calendar.specs.declared.Days.{Days}
use Rattle.calendar.specs.Calendar.{Date}
use Rattle.calendar.specs.Ascending.{ascending}
use Rattle.calendar.specs.DateText.{dates_most, days_of}
use Rattle.calendar.specs.DateTextLaws.{days-ascending, days-length}
use Rattle.calendar.specs.DaysFound.{Holds, held, Room}

pub held_is : {l : List ℕ} {f : Days} → Holds l f → held f ≡ l
held_is {l} {f} h = rw (h.count, h.days) (take-append_seam l _)

pub holds-held : {l : List ℕ} {f : Days} → Holds l f → Holds (held f) f
holds-held {l} {f} h = subst (λ (m : List ℕ). Holds m f) (sym (held_is h)) h

pub room_for : {l : List ℕ} {f : Days} → Holds l f → T (ascending l) → length l < dates_most → Room f
room_for {l} {f} h o r = record { holds = holds-held h; in_order = rw (held_is h) o; left = rw h.count r }

-- of fewer dates than there are places, there is room after their days
pub room_after : (l : List Date) {f : Days} → Holds (days_of l) f → length l < dates_most → Room f
room_after l h r = room_for h (days-ascending l) (omega (arith, days-length l))

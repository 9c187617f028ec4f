-- What the loop of `run` keeps: the table holds the state after r rounds, none of which was idle, and fields at rest are known.
use mathlib.Core.Path.{◌≡◌, refl, sym, ap, ◌∙◌}
use mathlib.Core.Logic.{◌⊎◌, inl, inr}
use mathlib.Core.List.{List}
use Prim.Native.Nat.{ℕ, suc, ◌+◌, ◌-◌, ◌%◌, ◌^◌, min, ◌≤◌, ◌<◌}
use native.Mathlib.Numerals.{add-one}
use native.Mathlib.Omega.{arith}
use lib.ListN.{length}
use borrow.Author.Tests.{le-leb, lt-leb}
use Rattle.theory.specs.Limits.{fields_most}
use Rattle.theory.specs.BoundLaws.{lt_or_ge}
use Rattle.theory.specs.Relation.{Rel, WellFormed, Agree, rounds}
use Rattle.theory.proofs.RelationLaws.{pair_small, rounds_wf, settled_unchanged, unchanged_settled}
use Rattle.theory.specs.Settling.{steps}
use Rattle.theory.proofs.SettlingLaws.{steps-settled, steps_least}
use Rattle.theory.proofs.AgreeLaws.{agree_sym, agree_round, agree_wf}
use Rattle.table.specs.Layout.{table_length, rel, words}
use Rattle.table.specs.LayoutLaws.{Narrow, Fit, rel-words, length-words, words_same, words-rel}
use Rattle.std.specs.Prelude.{Option, Some, None}
use Rattle.settle.specs.Round.{moved_fields, Quiet, Lent, RoundDone}
use Rattle.settle.specs.RoundLaws.{moved_none, moved_some, quiet-round, quiet_all, agree_quiet, agree_moved}
use Rattle.settle.specs.Settle.{reached}
use Rattle.settle.specs.Running.{stops, Ran}

-- t holds the state after r rounds of R
pub record Holds (n : ℕ) (R : Rel) (r : ℕ) (t : List ℕ) : Type 0 where
  pub is : t ≡ words n (rounds n r R)

-- here holds the state after r rounds, and there the one before it
pub record At (n : ℕ) (R : Rel) (r : ℕ) (here there : List ℕ) : Type 0 where
  pub now : Holds n R r here
  pub last : (p : ℕ) → r ≡ p + 1 → Holds n R p there

-- the table is at r where r is even, and scratch where it is odd
pub record Running (n : ℕ) (R : Rel) (r : ℕ) (t s : List ℕ) (moved : ℕ) : Type 0 where
  pub least : r ≤ steps n R
  pub quiet : Quiet n (rounds n r R) moved
  pub even : r % 2 ≡ 0 → At n R r t s
  pub odd : (r % 2 ≡ 0 → ⊥) → At n R r s t

-- round r: from the table into scratch where r is even, and back where it is odd
abbrev pub Rounded : ℕ → ℕ → List ℕ → List ℕ → List ℕ → List ℕ → ℕ → Type 0
Rounded n r t s t' s' moved = ((r % 2 ≡ 0) × (t' ≡ t) × RoundDone n t s' moved) ⊎ ((r % 2 ≡ 0 → ⊥) × (s' ≡ s) × RoundDone n s t' moved)

-- a round from the state after r rounds: out holds the next one, and moved tells whether anything changed
pub record Turn (n : ℕ) (R : Rel) (r : ℕ) (out : List ℕ) (moved : ℕ) : Type 0 where
  pub next : Holds n R (r + 1) out
  pub quiet : Quiet n (rounds n (r + 1) R) moved
  pub still : moved ≡ 0 → steps n R ≤ r
  pub moving : (moved ≡ 0 → ⊥) → r < steps n R

module _ {n : ℕ} {size : ℕ → ℕ} {R : Rel} (w : WellFormed n size R) (few : n ≤ fields_most) where
  narrow : (r : ℕ) → Narrow n (rounds n r R)
  narrow r i j a b hi hj = pair_small (rounds_wf r w) i j a b hi hj

  -- words that hold the state stand for it
  pub holds-state : {r : ℕ} {t : List ℕ} → Holds n R r t → Agree n (rel n t) (rounds n r R)
  holds-state {r} e = rw e.is (rel-words n (rounds n r R) (narrow r))

  pub holds-lent : {r : ℕ} {t out : List ℕ} → Holds n R r t → length out ≡ table_length n → Lent n t out
  holds-lent {r} {t} e l = record {
    sized = record { few = few; long = ap length e.is ∙ length-words n (rounds n r R) };
    turned = (agree_wf n (rounds n r R) (rel n t) (agree_sym n (rel n t) (rounds n r R) (holds-state e)) (rounds_wf r w)).turn;
    other = l;
  }

  pub holds-quiet : {r : ℕ} {t : List ℕ} (moved : ℕ) → Holds n R r t → Quiet n (rounds n r R) moved → Quiet n (rel n t) moved
  holds-quiet {r} {t} moved e = agree_quiet n (rounds n r R) (rel n t) (agree_sym n (rel n t) (rounds n r R) (holds-state e)) moved

  pub turn : {r : ℕ} {t out : List ℕ} {moved : ℕ} → Holds n R r t → r ≤ steps n R → RoundDone n t out moved → Turn n R r out moved
  unfolding rounds
  turn {r} {t} {out} {moved} e least d = record {
    next = record { is = rw add-one (d.holds ∙ words_same n _ _ (agree_round n (rel n t) (rounds n r R) (holds-state e))) };
    quiet = rw (add-one, fields) (quiet-round n (rounds n r R) (omega arith) (narrow r) (rounds_wf r w).turn);
    still = λ z. elim (lt_or_ge r (steps n R)) [
      | inl l ↦ absurd (steps_least n R r l (unchanged_settled n (rounds n r R) (moved_none n (rounds n r R) (omega arith) (narrow r) (sym fields ∙ z))))
      | inr g ↦ g
    ];
    moving = λ z. elim (lt_or_ge r (steps n R)) [
      | inl l ↦ l
      | inr g ↦ let s : r ≡ steps n R = omega arith in absurd (z (fields ∙ moved_some n (rounds n r R) (rw s (settled_unchanged n (rounds n (steps n R) R) (steps-settled w)))))
    ];
  }
    where
      fields : moved ≡ moved_fields n (rounds n r R)
      fields = d.fields ∙ agree_moved n (rel n t) (rounds n r R) (holds-state e)

  -- where a round changes nothing, both states are the same words
  pub holds-still : {r : ℕ} {t : List ℕ} → steps n R ≤ r → r ≤ steps n R → Holds n R (r + 1) t → Holds n R r t
  unfolding rounds
  holds-still {r} g l e =
      let s : r ≡ steps n R = omega arith in
      record { is = (rw add-one at e.is) ∙ words_same n (rounds n (suc r) R) (rounds n r R) (rw s (settled_unchanged n (rounds n (steps n R) R) (steps-settled w))) }

  pub holds_on : {r : ℕ} {t : List ℕ} → steps n R ≤ r → r ≤ steps n R → Holds n R r t → Holds n R (r + 1) t
  unfolding rounds
  holds_on {r} g l e =
      let s : r ≡ steps n R = omega arith in
      record { is = e.is ∙ sym (rw add-one (words_same n (rounds n (suc r) R) (rounds n r R) (rw s (settled_unchanged n (rounds n (steps n R) R) (steps-settled w))))) }

  -- the next round is between these two, and the fields at rest are known
  module _ {r : ℕ} {t s : List ℕ} {moved : ℕ} (g : Running n R r t s moved) (long : length t ≡ table_length n) (other : length s ≡ table_length n) where
    pub ready_out : r % 2 ≡ 0 → Lent n t s × Quiet n (rel n t) moved
    ready_out e = (holds-lent (g.even e).now other, holds-quiet moved (g.even e).now g.quiet)

    pub ready_back : (r % 2 ≡ 0 → ⊥) → Lent n s t × Quiet n (rel n s) moved
    ready_back e = (holds-lent (g.odd e).now long, holds-quiet moved (g.odd e).now g.quiet)

  module _ {r : ℕ} {t s t' s' : List ℕ} {moved next : ℕ} (g : Running n R r t s moved) where
    -- one round on
    pub running_on : Rounded n r t s t' s' next → (next ≡ 0 → ⊥) → Running n R (r + 1) t' s' next
    running_on (inl d) move =
        let f = turn (g.even d.0).now g.least d.2 in
        record {
          least = omega (arith, f.moving move);
          quiet = f.quiet;
          even = λ z. absurd (omega (arith, d.0));
          odd = λ _. record { now = f.next; last = λ p q. let h : p ≡ r = omega arith in rw (d.1, h) (g.even d.0).now };
        }
    running_on (inr d) move =
        let f = turn (g.odd d.0).now g.least d.2 in
        record {
          least = omega (arith, f.moving move);
          quiet = f.quiet;
          even = λ _. record { now = f.next; last = λ p q. let h : p ≡ r = omega arith in rw (d.1, h) (g.odd d.0).now };
          odd = λ z. absurd (z (omega (arith, d.0)));
        }

    -- an idle round leaves both alike
    pub running_still : Rounded n r t s t' s' next → next ≡ 0 → (steps n R ≤ r) × Holds n R r t' × Holds n R (r + 1) s'
    running_still (inl d) z =
        let f = turn (g.even d.0).now g.least d.2 in
        (f.still z, rw d.1 (g.even d.0).now, f.next)
    running_still (inr d) z =
        let f = turn (g.odd d.0).now g.least d.2 in
        (f.still z, holds-still (f.still z) g.least f.next, holds_on (f.still z) g.least (rw d.1 (g.odd d.0).now))

pub running_start : {n : ℕ} {t s : List ℕ} → Lent n t s → Fit t → Running n (rel n t) 0 t s (2 ^ 32 - 1)
unfolding rounds
running_start {n} {t} l f = record {
  least = omega arith;
  quiet = quiet_all n (rel n t) (omega (arith, l.sized.few));
  even = λ _. record { now = record { is = sym (words-rel n t l.sized.long f) }; last = λ p e. absurd (omega arith) };
  odd = λ z. absurd (omega arith);
}

module _ (n : ℕ) (t : List ℕ) (budget : ℕ) where
  ran : {r : ℕ} {t' s' : List ℕ} (stop : Option ℕ) → stop ≡ stops n (rel n t) budget → min (steps n (rel n t)) budget ≡ r
      → Holds n (rel n t) r t' → Holds n (rel n t) (r + 1) s' → Ran n t budget stop t' s'
  unfolding reached rounds
  ran stop e m h k = record { stopped = e; table = rw m h.is; scratch = rw m (rw add-one at k.is) }

  pub ran_still : {r : ℕ} {t' s' : List ℕ} → (steps n (rel n t) ≤ r) × Holds n (rel n t) r t' × Holds n (rel n t) (r + 1) s'
      → r ≤ steps n (rel n t) → r ≤ budget → Ran n t budget (Some r) t' s'
  unfolding stops
  ran_still {r} g l b = let e : steps n (rel n t) ≡ r = omega (arith, g.0) in ran (Some r) (rw (le-leb (steps n (rel n t)) budget (omega arith), e)) (omega arith) g.1 g.2

  module _ {r : ℕ} {t' s' : List ℕ} {moved : ℕ} (g : Running n (rel n t) (r + 1) t' s' moved) (e : r ≡ budget) where
    out : {t' s' : List ℕ} → Holds n (rel n t) r t' → Holds n (rel n t) (r + 1) s' → Ran n t budget None t' s'
    unfolding stops
    out = ran None (rw (lt-leb (steps n (rel n t)) budget (omega (arith, g.least)))) (omega (arith, g.least))

    -- the budget is spent, and the state is in the table
    pub ran_out : (budget % 2 ≡ 1 → ⊥) → Ran n t budget None t' s'
    ran_out d = let h = g.odd (λ z. d (omega arith)) in out (h.last r refl) h.now

    -- or in scratch, before the two are exchanged
    pub ran_over : budget % 2 ≡ 1 → Ran n t budget None s' t'
    ran_over d = let h = g.even (omega arith) in out (h.last r refl) h.now

-- The answers of `settle`: a refusal of the shape or of scratch's length, and what the rounds came to.
use mathlib.Core.Path.{◌≡◌, refl, sym, ap, ap₂, ◌∙◌}
use mathlib.Core.Logic.{inl, inr}
use mathlib.Core.Bool.{Bool, not}
use mathlib.Core.List.{List, ◌∷◌}
use Prim.Native.Nat.{ℕ, min, ◌≤◌, ◌<◌}
use native.Mathlib.Omega.{arith}
use lib.ListN.{length}
use borrow.Author.Tests.{ne_eqb, le-leb, lt-leb}
use Rattle.theory.specs.Bound.{val}
use Rattle.theory.specs.BoundLaws.{lt_or_ge}
use Rattle.theory.specs.Relation.{Rel, Agree, rounds}
use Rattle.theory.proofs.RelationLaws.{pair_small, rounds_wf}
use Rattle.theory.specs.Reading.{holds, empty}
use Rattle.theory.specs.Settling.{steps}
use Rattle.theory.proofs.SettlingLaws.{steps-settled}
use Rattle.theory.proofs.AgreeLaws.{agree_holds}
use Rattle.refusal.specs.Said.{says, refused}
use Rattle.refusal.specs.declared.Refusal.{Refusal}
use Rattle.refusal.specs.declared.Refusal.TheVariants.{Lent as WrongLength}
use Rattle.table.specs.Layout.{Sized, table_length, rel}
use Rattle.table.specs.LayoutLaws.{rel-words, length-words}
use Rattle.table.specs.Shape.{GoodTable, after_shape}
use Rattle.table.specs.ShapeLaws.{check_shape}
use Rattle.table.specs.CheckLaws.{refused_on}
use Rattle.table.specs.AnswerLaws.{said_on}
use Rattle.settle.specs.declared.Settled.{Settled}
use Rattle.std.specs.Prelude.{Ok, MatchOption, [], Option, Some, None, Err, IsErrAnd}
use Rattle.settle.specs.Round.{Lent}
use Rattle.settle.specs.Settle.{GoodLent, Settling, settled_after, unfinished, said_settled, after_lent, settle_says, reached, Settlement}
use Rattle.settle.specs.SettleLaws.{says-settled, says-unfinished, good-says, good-table, good-scratch, refused-table, refused-scratch}
use Rattle.settle.specs.Running.{Formed, stops, Ran}
use Rattle.settle.proofs.Emptiness.{empty-first}

-- a refusal

answer-refused : (sizes t s : List ℕ) (budget : ℕ) (x : Settling) (q : Refusal) → IsErrAnd x (λ e. e ≡ q) → refused q ≡ settle_says sizes t s budget → Settlement sizes t s budget x t s
answer-refused sizes t s budget x q f e = record { says = said_on said_settled x q f e; table = sym (refused-table sizes t s budget q e); scratch = sym (refused-scratch sizes t s budget q e) }

pub shape_refused : (sizes t s : List ℕ) (budget : ℕ) (x : Settling) (q : Refusal) → IsErrAnd x (λ e. e ≡ q) → refused q ≡ after_shape sizes t (says 0 []) → Settlement sizes t s budget x t s
unfolding settle_says after_lent
shape_refused sizes t s budget x q f e = answer-refused sizes t s budget x q f (refused_on (check_shape sizes t) q e _)

pub length-refused : (sizes t s : List ℕ) (budget : ℕ) → GoodTable sizes t → (length s ≡ length t → ⊥) → Settlement sizes t s budget (Err WrongLength) t s
unfolding settle_says after_lent
length-refused sizes t s budget g d =
    answer-refused sizes t s budget (Err WrongLength) WrongLength refl
    (sym ((check_shape sizes t).passes g _ ∙ rw (ne_eqb (length s) (table_length (length sizes)) (λ e. d (e ∙ sym g.long)))))

-- a good table

pub good-lent : {sizes t s : List ℕ} → GoodTable sizes t → length s ≡ length t → GoodLent sizes t s
good-lent g e = record { good = g; other = e ∙ g.long }

pub good_run : {sizes t s : List ℕ} → GoodLent sizes t s → Lent (length sizes) t s × Formed (length sizes) (rel (length sizes) t)
good_run g = (record { sized = record { few = g.good.good.few; long = g.good.long }; turned = g.good.formed.turn; other = g.other }, (_, g.good.formed))

module _ {sizes t s : List ℕ} (g : GoodLent sizes t s) where
  pub ran_sized : {budget : ℕ} {stop : Option ℕ} {t' s' : List ℕ} → Ran (length sizes) t budget stop t' s' → Sized (length sizes) t' × (0 < length sizes)
  ran_sized {budget} p = (record { few = g.good.good.few; long = ap length p.table ∙ length-words (length sizes) (reached (length sizes) (rel (length sizes) t) budget) }, g.good.good.some)

  pub ran_settled : {budget r : ℕ} {e : Bool} {t' s' : List ℕ} → Ran (length sizes) t budget (Some r) t' s'
      → e ≡ not (holds (rel (length sizes) t') 0 0) → Settlement sizes t s budget (settled_after r e) t' s'
  unfolding stops reached
  ran_settled {budget} {r} {e} {t'} {s'} p h = elim (lt_or_ge budget (steps n R)) [
    | inl l ↦ absurd (never (p.stopped ∙ rw (lt-leb (steps n R) budget l)))
    | inr l ↦ record {
      says = ap₂ (λ x y. says 0 (x ∷ val y ∷ [])) (same (p.stopped ∙ rw (le-leb (steps n R) budget l))) (flag l) ∙ sym (good-says g budget ∙ says-settled n R budget l);
      table = p.table ∙ sym (good-table g budget);
      scratch = p.scratch ∙ sym (good-scratch g budget);
    }
  ]
    where
      n : ℕ
      n = length sizes

      R : Rel
      R = rel n t

      never : Some r ≡ None → ⊥
      never x = cc

      same : Some r ≡ Some (steps n R) → r ≡ steps n R
      same x = cc

      stands : steps n R ≤ budget → Agree n (rel n t') (rounds n (steps n R) R)
      stands l =
          let m : min (steps n R) budget ≡ steps n R = omega arith in
          rw (p.table, m) (rel-words n (rounds n (steps n R) R) (λ i j a b hi hj. pair_small (rounds_wf (steps n R) g.good.formed) i j a b hi hj))

      flag : steps n R ≤ budget → e ≡ empty n (rounds n (steps n R) R)
      flag l =
          h ∙ (ap not (agree_holds n (rel n t') (rounds n (steps n R) R) (stands l) 0 0 g.good.good.some g.good.good.some)
          ∙ empty-first n (rounds n (steps n R) R) g.good.good.some (steps-settled g.good.formed))

  pub ran_unfinished : {budget : ℕ} {t' s' : List ℕ} → Ran (length sizes) t budget None t' s' → Settlement sizes t s budget unfinished t' s'
  unfolding stops
  ran_unfinished {budget} p = elim (lt_or_ge budget (steps n R)) [
    | inl l ↦ record {
      says = sym (good-says g budget ∙ says-unfinished n R budget l);
      table = p.table ∙ sym (good-table g budget);
      scratch = p.scratch ∙ sym (good-scratch g budget);
    }
    | inr l ↦ absurd (never (p.stopped ∙ rw (le-leb (steps n R) budget l)))
  ]
    where
      n : ℕ
      n = length sizes

      R : Rel
      R = rel n t

      never : None ≡ Some (steps n R) → ⊥
      never x = cc

  -- an answer, whatever the rounds came to
  pub ran_answer : {budget : ℕ} {r : Option ℕ} {x : Option Settled} {t' s' : List ℕ} → Ran (length sizes) t budget r t' s'
      → MatchOption r (x ≡ None) (λ k. x ≡ Some (record { rounds = k; empty = not (holds (rel (length sizes) t') 0 0) })) → Settlement sizes t s budget (Ok x) t' s'
  ran_answer {r = Some k} p e = rw e (ran_settled p refl)
  ran_answer {r = None} p e = rw e (ran_unfinished p)

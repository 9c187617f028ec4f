use Rattle.std.proofs.Common.{◌≡◌, ◌<◌, ◌+◌, ℕ, List, Bool, true, false, [], ◌∷◌, ◌++◌, cond, sym, ap, ap₂, ◌∙◌, append-nil, length, arith}
use Rattle.arrayvec.specs.ArrayVec.{ArrayVec, array_vec_len}
use Rattle.theory.specs.Reading.{kept}
use Rattle.words.specs.Word.{bit}
use Rattle.table.specs.LayoutLaws.{rel-bit}
use Rattle.table.specs.Layout.{row, rel}
use Rattle.text.specs.Text.{joined}
use Rattle.text.specs.JoinedLaws.{joined_more}
use Rattle.listing.specs.Listing.{day_in, kept_days}
use Rattle.listing.proofs.fields.kept_days.Goals as goal
use Rattle.listing.proofs.fields.kept_days.Goals.{then-has, else-has}

-- what a turn adds
abbrev added : (t days : List ℕ) (n i a : ℕ) → List ℕ
added t days n i a = cond (kept (rel n t) i a) (day_in days i a ∷ []) []

turn : (t days : List ℕ) (n i a : ℕ) {xs : List ℕ} {w : ℕ} {keep b : Bool} → xs ≡ joined a (added t days n i) → w ≡ row n t i i a → keep ≡ bit w a → keep ≡ b → a < 32
    → xs ++ cond b (day_in days i a ∷ []) [] ≡ joined (a + 1) (added t days n i)
turn t days n i a e v k is h =
    ap₂ (λ (l : List ℕ) (b : Bool). l ++ cond b (day_in days i a ∷ []) []) e (sym is ∙ k ∙ ap (λ (x : ℕ). bit x a) v ∙ sym (rel-bit n t i i a a h h))
    ∙ sym (joined_more a (added t days n i))

pub loop-a-init : goal.loop-a-init
unfolding joined
loop-a-init c = record { so_far = c.new-found.ensures; few = omega (arith, ap length c.new-found.ensures) }

pub loop-a-preserved : goal.loop-a-preserved
loop-a-preserved c =
    let a = c.args in
    let l = c.loop-a in
    let more = λ (b : Bool) (is : c.has.result ≡ b). turn a.table.now a.days.now a.n a.i l.a l.invariant.so_far c.row_word.ensures c.has.ensures is c.loop-a-test.true in
    elim c.if-has.branch [
      | then-has w ↦ record {
        so_far = ap (λ (v : ArrayVec ℕ). v.items) w.found-is ∙ w.push.ensures.items ∙ ap (λ (d : ℕ). c.loop-a.found.items ++ d ∷ []) w.day.ensures ∙ more true w.if-has.true;
        few = omega (arith, ap (λ (v : ArrayVec ℕ). array_vec_len v) w.found-is, w.push.ensures.len);
      }
      | else-has w ↦ record {
        so_far = ap (λ (v : ArrayVec ℕ). v.items) w.found-is ∙ sym (append-nil c.loop-a.found.items) ∙ more false w.if-has.false;
        few = omega (arith, ap (λ (v : ArrayVec ℕ). array_vec_len v) w.found-is);
      }
    ]

pub returns : goal.returns
unfolding kept_days
returns c = let e : c.loop-a.a ≡ 32 = omega arith in c.loop-a.invariant.so_far ∙ ap (λ (k : ℕ). joined k (added c.args.table.now c.args.days.now c.args.n c.args.i)) e

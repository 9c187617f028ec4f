-- `settled::put_opened` meets its contract: the budget suffices for a good table, and the text is that of the table which settling leaves.
use mathlib.Core.List.{List}
use mathlib.Core.Path.{◌≡◌, ◌∙◌}
use Prim.Native.Nat.{ℕ, ◌≤◌}
use native.Mathlib.Omega.{arith}
use native.Mathlib.Nat.{mul-le-mul}
use lib.Seq.{length-take-le}
use lib.ListN.{length}
use Rattle.std.proofs.Common.{Ok, ap}
use Rattle.table.specs.Shape.{GoodTable}
use Rattle.settle.specs.Settle.{GoodLent}
use Rattle.text.specs.PutsLaws.{puts_as}
use Rattle.listing.specs.Listing.{day_in}
use Rattle.listing.proofs.Settlements.{never_unfinished, never_refused, ended, few_rounds, text-left}
use Rattle.listing.proofs.settled.put_opened.Goals as goal

lent : {sizes t s : List ℕ} → GoodTable sizes t → length s ≡ length t → GoodLent sizes t s
lent g e = record { good = g; other = e ∙ g.long }

words_fit_lem : {sizes t : List ℕ} → GoodTable sizes t → length t ≤ 8192
words_fit_lem {sizes} g = omega (arith, g.long, mul-le-mul g.good.few g.good.few)

pub put_settled-requires : goal.put_settled-requires
put_settled-requires c =
    let l = lent c.requires.0 (length-take-le _ _ (words_fit_lem c.requires.0)) in
    let e = c.in-Ok-Some.is ∙ ap Ok c.in-Ok-Some.field-0-is in
    (ended c.settle.ensures l e c.args.days.now c.requires.1, few_rounds c.settle.ensures l e, c.requires.2)

pub returns-in-Ok-Some : goal.returns-in-Ok-Some
returns-in-Ok-Some c =
    let l = lent c.requires.0 (length-take-le _ _ (words_fit_lem c.requires.0)) in
    puts_as (text-left c.settle.ensures l (c.in-Ok-Some.is ∙ ap Ok c.in-Ok-Some.field-0-is) (day_in c.args.days.now)) c.put_settled.ensures

pub returns-in-Ok-None : goal.returns-in-Ok-None
returns-in-Ok-None c = absurd (never_unfinished c.settle.ensures (c.in-Ok-None.is ∙ ap Ok c.in-Ok-None.field-0-is))

pub returns-in-Err : goal.returns-in-Err
returns-in-Err c = absurd (never_refused c.settle.ensures (lent c.requires.0 (length-take-le _ _ (words_fit_lem c.requires.0))) c.in-Err.is)

-- `check_table` meets its contract: the checks 8, 9 and 10 one after the other.
use Rattle.std.proofs.Common.{◌∙◌}
use Rattle.settle.specs.ChangesLaws.{told-row, told-settled, told_on}
use Rattle.choose.specs.ChoosingLaws.{narrow}
use Rattle.choose.proofs.Filled.{says-empty, says-filled}
use Rattle.choose.proofs.Judging.{rows_whole, rows-broken}
use Rattle.choose.proofs.checks.check_table.Goals as goal

pub returns-in-Some : goal.returns-in-Some
returns-in-Some c = told-row _ _ (narrow c.requires.formed) c.first_changed.ensures _ c.in-Some.is _

-- past 8

pub returns-then-own_word-eq0 : goal.returns-then-own_word-eq0
returns-then-own_word-eq0 c =
    let w = narrow c.requires.formed in
    says-empty _ _ (told-settled _ _ w c.first_changed.ensures c.in_default.is) c.requires.good.some _ c.own_word.ensures c.if-own_word-eq0.true _
    ∙ told_on _ _ w c.first_changed.ensures c.in_default.is _

-- past 9

pub returns-in-Some-first_broken : goal.returns-in-Some-first_broken
returns-in-Some-first_broken c =
    let w = narrow c.requires.formed in
    rows-broken _ _ _ c.first_broken.ensures _ c.in-Some-first_broken.is _
    ∙ says-filled _ _ (told-settled _ _ w c.first_changed.ensures c.in_default.is) c.requires.good.some _ c.own_word.ensures c.if-own_word-eq0.false _
    ∙ told_on _ _ w c.first_changed.ensures c.in_default.is _

pub returns : goal.returns
returns c =
    let w = narrow c.requires.formed in
    rows_whole _ _ _ c.first_broken.ensures c.in_default-first_broken.is _
    ∙ says-filled _ _ (told-settled _ _ w c.first_changed.ensures c.in_default.is) c.requires.good.some _ c.own_word.ensures c.if-own_word-eq0.false _
    ∙ told_on _ _ w c.first_changed.ensures c.in_default.is _

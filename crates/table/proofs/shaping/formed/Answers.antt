-- `formed` meets its contract: the checks 4, 5 and 6 one after the other.
use Rattle.std.proofs.Common.{rules}
use Rattle.table.proofs.Says.{rows_stray, rows_diagonal, rows_mirror, rows-good}
use Rattle.table.proofs.shaping.formed.Goals as goal

pub returns-in-Some : goal.returns-in-Some
returns-in-Some c = rows_stray _ _ _ _ (c.first_row.ensures _ (λ i j r hi hj k. search rules)) c.in-Some.is

pub returns-in-Some-first_row : goal.returns-in-Some-first_row
returns-in-Some-first_row c =
    rows_diagonal _ _ _ _ (c.first_row.ensures _ (λ i j r hi hj k. search rules)) c.in_default.is
    (c.first_row-2.ensures _ (λ i j r hi hj k. search rules)) c.in-Some-first_row.is

pub returns-in-Some-first_row-2 : goal.returns-in-Some-first_row-2
returns-in-Some-first_row-2 c =
    rows_mirror _ _ _ _ (c.first_row.ensures _ (λ i j r hi hj k. search rules)) c.in_default.is
    (c.first_row-2.ensures _ (λ i j r hi hj k. search rules)) c.in_default-first_row.is
    (c.first_row-3.ensures _ (λ i j r hi hj k. search rules)) c.in-Some-first_row-2.is

pub returns : goal.returns
returns c =
    rows-good _ _ _ _ (c.first_row.ensures _ (λ i j r hi hj k. search rules)) c.in_default.is
    (c.first_row-2.ensures _ (λ i j r hi hj k. search rules)) c.in_default-first_row.is
    (c.first_row-3.ensures _ (λ i j r hi hj k. search rules)) c.in_default-first_row-2.is

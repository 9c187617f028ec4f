-- `sized` meets its contract: the checks 1 and 2 one after the other.
use Rattle.std.proofs.Common.{rules, tests}
use Rattle.table.proofs.Says.{sizes_none, sizes_many, sizes_bad, sizes-good}
use Rattle.table.proofs.shaping.sized.Goals.{then-is_empty-via-then-is_empty, then-is_empty-via-else-is_empty+then-sizes-gt-FIELDS_MOST}
use Rattle.table.proofs.shaping.sized.Goals as goal

pub returns-then-is_empty : goal.returns-then-is_empty
returns-then-is_empty c = elim c.then-is_empty.branch [
  | then-is_empty-via-then-is_empty w ↦ sizes_none _ _ (search (rules, tests))
  | then-is_empty-via-else-is_empty+then-sizes-gt-FIELDS_MOST w ↦ sizes_many _ _ w.if-sizes-gt-FIELDS_MOST.true
]

pub returns-in-Some : goal.returns-in-Some
returns-in-Some c = sizes_bad _ _ (search (rules, tests)) c.if-sizes-gt-FIELDS_MOST.false c.first_bad_size.ensures c.in-Some.is

pub returns : goal.returns
returns c = sizes-good _ _ (search (rules, tests)) c.if-sizes-gt-FIELDS_MOST.false c.first_bad_size.ensures c.in_default.is

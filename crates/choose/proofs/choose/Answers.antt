-- `choose` meets its contract: what passes the checks is walked, and what the walk ends with is the first full reading.
use Rattle.std.proofs.Common.{arith}
use Rattle.table.specs.AnswerLaws.{told-good}
use Rattle.choose.specs.ChoosingLaws.{check_choose}
use Rattle.choose.proofs.Judging.{ready_copied}
use Rattle.choose.proofs.choose.Goals as goal

pub copy_from_slice-requires : goal.copy_from_slice-requires
copy_from_slice-requires c =
    let p = told-good (check_choose _ _ _ _) c.judged.ensures c.in_ok-judged.was in
    omega (arith, p.0.held, p.0.lent)

pub take_lowest-requires : goal.take_lowest-requires
take_lowest-requires c = ready_copied _ _ _ _ _ c.copy_from_slice.ensures.after (told-good (check_choose _ _ _ _) c.judged.ensures c.in_ok-judged.was)

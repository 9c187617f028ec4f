use Rattle.std.proofs.Common.{arith}
use Rattle.std.proofs.lemmas.Grind.{common_steps}
use Rattle.scan.specs.Sheet.{date_at}
use Rattle.scan.proofs.Dates.{date_days, date_refused}
use Rattle.scan.proofs.field.date_at.Goals as goal

pub overflow_cast-result : goal.overflow_cast-result
overflow_cast-result c = omega (arith, date_days c.in-Ok.ensures)

pub placed-requires : goal.placed-requires
placed-requires c = date_refused c.in-Err.ensures

pub returns-in-Ok : goal.returns-in-Ok
unfolding date_at
returns-in-Ok c = let days = date_days c.in-Ok.ensures in grind (arith, common_steps, days)

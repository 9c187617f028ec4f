-- The pair of a PR is one of the sheet's, and is struck.
use Rattle.sheet.proofs.Ruling.{rules_sized, pair_there, pair_in, strike_applied}
use Rattle.sheet.proofs.rules.apply_strike.Goals as goal

pub at-p-requires : goal.at-p-requires
at-p-requires c = pair_there c.requires.0 c.requires.1

pub strike-requires : goal.strike-requires
strike-requires c = let z = pair_in c.requires.0 c.requires.1 c.at-p.ensures in (rules_sized c.requires.0, z.0, z.1, z.2, z.3)

pub returns : goal.returns
returns c = strike_applied c.requires.0 c.requires.1 c.at-p.ensures c.strike.ensures

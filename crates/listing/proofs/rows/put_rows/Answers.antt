-- `rows::put_rows` meets its contract: judging tells the place that the line names, and refuses no table of good shape.
use Rattle.std.proofs.Common.{Ok, sym, ap, ◌∙◌}
use Rattle.text.specs.WritingLaws.{room_as}
use Rattle.text.specs.PutsLaws.{puts_as}
use Rattle.text.specs.Text.{rows_line}
use Rattle.listing.proofs.Judged.{told-whole, told-broken, never_refused}
use Rattle.listing.proofs.rows.put_rows.Goals as goal

pub put_line-requires : goal.put_line-requires
put_line-requires c = room_as (ap rows_line (told-whole _ c.requires.0 c.judge.ensures (c.in-Ok-None.is ∙ ap Ok c.in-Ok-None.field-0-is))) c.requires.1

pub put_line-requires-in-Ok-Some : goal.put_line-requires-in-Ok-Some
put_line-requires-in-Ok-Some c = room_as (ap rows_line (told-broken _ c.requires.0 c.judge.ensures _ (c.in-Ok-Some.is ∙ ap Ok c.in-Ok-Some.field-0-is))) c.requires.1

pub returns-in-Ok-None : goal.returns-in-Ok-None
returns-in-Ok-None c = puts_as (ap rows_line (sym (told-whole _ c.requires.0 c.judge.ensures (c.in-Ok-None.is ∙ ap Ok c.in-Ok-None.field-0-is)))) c.put_line.ensures

pub returns-in-Ok-Some : goal.returns-in-Ok-Some
returns-in-Ok-Some c = puts_as (ap rows_line (sym (told-broken _ c.requires.0 c.judge.ensures _ (c.in-Ok-Some.is ∙ ap Ok c.in-Ok-Some.field-0-is)))) c.put_line-in-Ok-Some.ensures

pub returns-in-Err : goal.returns-in-Err
returns-in-Err c = absurd (never_refused _ c.requires.0 c.judge.ensures _ c.in-Err.is)

use Rattle.table.specs.ShapeLaws.{good-sized}
use Rattle.choose.proofs.Taking.{lowest_byte, walking_readings, walking_more, walking_end}
use Rattle.choose.proofs.walk.take_lowest.Goals as goal

pub left_word-requires : goal.left_word-requires
left_word-requires c =
    let l = c.loop-f in
    let p = c.requires in
    (good-sized p.0.good, c.loop-f-test.true, l.invariant.long, walking_readings _ _ _ _ p.0 p.1 l.invariant)

pub overflow_cast-answer : goal.overflow_cast-answer
overflow_cast-answer c = record { fits = lowest_byte _ c.lowest.ensures }

pub loop-f-preserved : goal.loop-f-preserved
loop-f-preserved c =
    let p = c.requires in
    walking_more _ _ _ _ p.0 p.1 _ _ c.loop-f.invariant c.loop-f-test.true c.left_word.ensures c.lowest.ensures

pub returns : goal.returns
returns c =
    let p = c.requires in
    walking_end _ _ _ _ p.0 p.1 c.loop-f.invariant c.loop-f-test.false

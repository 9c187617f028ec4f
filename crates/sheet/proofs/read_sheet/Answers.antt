-- Where the judge pass lets n fields pass, the parts that are written fit the lent buffers.
use mathlib.Core.Path.{sym}
use native.Mathlib.Omega.{arith}
use lib.Seq.{length-take-le}
use Rattle.calendar.specs.DateText.{separator}
use Rattle.sheet.specs.ReadingLaws.{reading-whole}
use Rattle.sheet.specs.Writing.{records}
use Rattle.sheet.proofs.Answering.{scan_judged, n_few, table_few, parts-long, opened}
use Rattle.sheet.proofs.read_sheet.Goals as goal

pub table_length-words-requires : goal.table_length-words-requires
table_length-words-requires c = n_few (scan_judged c.in_ok-n.ensures)

pub slice_bounds-write-end : goal.slice_bounds-write-end
slice_bounds-write-end c = omega (arith, n_few (scan_judged c.in_ok-n.ensures))

pub slice_bounds-write-end-2 : goal.slice_bounds-write-end-2
slice_bounds-write-end-2 c = sym (length-take-le _ _ (omega (arith, n_few (scan_judged c.in_ok-n.ensures))))

pub slice_bounds-write-end-3 : goal.slice_bounds-write-end-3
slice_bounds-write-end-3 c = omega (arith, n_few (scan_judged c.in_ok-n.ensures))

pub slice_bounds-write-end-4 : goal.slice_bounds-write-end-4
slice_bounds-write-end-4 c = sym (length-take-le _ _ (omega (arith, n_few (scan_judged c.in_ok-n.ensures))))

pub slice_bounds-write-end-5 : goal.slice_bounds-write-end-5
slice_bounds-write-end-5 c = omega (arith, table_few (scan_judged c.in_ok-n.ensures))

pub slice_bounds-write-end-6 : goal.slice_bounds-write-end-6
slice_bounds-write-end-6 c = sym (length-take-le _ _ (omega (arith, table_few (scan_judged c.in_ok-n.ensures))))

pub write-requires : goal.write-requires
write-requires c =
    let a = c.args in
    let j = scan_judged c.in_ok-n.ensures in
    parts-long j a.sizes.now a.days.now a.table.now c.table_length-words.result (omega (arith, n_few j)) (omega (arith, n_few j)) (omega (arith, table_few j)) c.table_length-words.ensures

pub returns : goal.returns
returns c =
    let a = c.args in
    let j = scan_judged c.in_ok-n.ensures in
    let whole =
    reading-whole separator a.sheet.now a.sizes.now a.days.now a.table.now (records a.sheet.now) (record {
      long = record { enough_sizes = omega arith; enough_days = omega arith; enough_words = omega arith };
      short = omega arith;
      scanned = j.whole;
    }) in
    rw whole (opened j a.sizes.now a.days.now a.table.now _ c.table_length-words.ensures c.write.ensures)

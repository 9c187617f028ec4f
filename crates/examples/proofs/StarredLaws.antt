-- The one theorem of the starred examples. The checker computes its tests from the definitions of the crates below.
use mathlib.Core.List.{flat_map}
use Rattle.std.specs.Prelude.{T}
use Rattle.theory.specs.Bound.{all, any, first, sum, count}
use Rattle.theory.specs.Relation.{composed, round}
use Rattle.theory.specs.Reading.{holds, empty}
use Rattle.theory.specs.Rows.{stands}
use Rattle.theory.specs.Settling.{stable}
use Rattle.theory.specs.Choice.{put, left, walk, clash, clash_from, clash_to}
use Rattle.words.specs.Word.{bit, pack}
use Rattle.calendar.specs.Calendar.{leap, months, month_length, year_length, real, day_of}
use Rattle.calendar.specs.Ascending.{insert}
use Rattle.calendar.specs.DateText.{separator, pair_at, year_in, short_year_at, read_as, digit, fits_at, laid_out, shaped_long, shaped_date, with_real, days_of, shown, means}
use Rattle.calendar.specs.DateAnswers.{date_says}
use Rattle.table.specs.Layout.{search_row, size_of}
use Rattle.table.specs.Shape.{bad_size, after_sizes}
use Rattle.choose.specs.Choosing.{after_empty, after_fixed, after_clash}
use Rattle.examples.specs.Starred.{bytes, days_in, sizes_of, gaps_of, follows, rule, opened, those, Every, Holds, starred}
use Rattle.examples.specs.Packed.{packed, unpacked, after, takes, whole_in, broken_in, full, some_full}
use Rattle.examples.specs.Trial.{same, same_list, same_said, every, most, broken_says, rows_in, choosing_says, says_in, choosing_in, keeps_in, result_in, opened_in, case_in, holds_of}
use Rattle.examples.specs.TrialLaws.{every_e, holds_in}

starred_computed : T (every holds_of starred)
unfolding
    all any first sum count composed round holds empty stands stable put left walk clash clash_from clash_to bit pack
    leap months month_length year_length real day_of insert separator pair_at year_in short_year_at read_as digit fits_at laid_out shaped_long shaped_date with_real days_of shown means date_says
    search_row size_of bad_size after_sizes after_empty after_fixed after_clash flat_map
    bytes days_in sizes_of gaps_of follows rule opened those packed unpacked after takes whole_in broken_in full some_full
    same same_list same_said every most broken_says rows_in choosing_says says_in choosing_in keeps_in result_in opened_in case_in holds_of
starred_computed = tt

-- every starred example of 01 is as it is said
pub starred_hold : Every Holds starred
starred_hold = every_e holds_of Holds holds_in starred starred_computed

-- Numbers of a line.
use Rattle.std.specs.Prelude.{ℕ, List, ◌^◌, min, take, false, slice_index_or}
use Rattle.vectors.specs.declared.line.Number.{Number}
use Rattle.vectors.specs.declared.line.Args.{Args}

-- the numbers of a line, without their signs
abbrev pub values_of : Args → List ℕ
values_of line = take line.count line.values

-- the number at place k of a line, 0 without a minus where it has none there
abbrev pub number_at : Args → ℕ → Number
number_at line k =
    record { value = slice_index_or (values_of line) k 0; minus = slice_index_or (take line.count line.minus) k false }

-- that number as a field, a place or a length
abbrev pub size_at : Args → ℕ → ℕ
size_at line k = min (number_at line k).value (2 ^ 32)

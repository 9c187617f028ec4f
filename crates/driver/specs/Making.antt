-- The tables of a script.
use Rattle.std.specs.Prelude.{ℕ, List, take}
use Rattle.driver.specs.declared.making.Words.{Words}

-- the words of a table
abbrev pub words_of : Words → List ℕ
words_of table = take table.count table.room

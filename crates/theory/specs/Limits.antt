-- The paper's limits (01, "The product and its edges").
use Rattle.std.specs.Prelude.{ℕ}

-- a table has 1 to 16 fields
abbrev pub fields_most : ℕ
fields_most = 16

-- a field has 1 to 32 readings
abbrev pub readings_most : ℕ
readings_most = 32

-- the rounds of settling never exceed this (01, "Settling")
abbrev pub rounds_most : ℕ
rounds_most = 123392

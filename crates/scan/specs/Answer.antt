-- What reading a sheet answers, in the paper's numbers (01, "Numbers given back").
use Rattle.std.specs.Prelude.{[], ◌∷◌, ℕ, length, Result}
use Rattle.refusal.specs.Said.{Said, says, said_by}
use Rattle.refusal.specs.declared.Refusal.{Refusal}
use Rattle.scan.specs.Sheet.{fields_of, Scanned, whole, faulty}

-- 0 and the number of fields, or the refusal
abbrev pub said_opened : Result ℕ Refusal → Said
said_opened = said_by (λ n. says 0 (n ∷ []))

abbrev pub scan_says : Scanned → Said
scan_says (whole rs) = says 0 (length (fields_of rs) ∷ [])
scan_says (faulty said) = said

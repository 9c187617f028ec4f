-- What each answer says, in the paper's numbers (01, "Numbers given back").
use Rattle.std.specs.Prelude.{[], Result}
use Rattle.refusal.specs.Said.{Said, says, said_by}
use Rattle.refusal.specs.declared.Refusal.{Refusal}

-- nothing where the shape is good, and else the refusal
abbrev pub said_shaped : Result Unit Refusal → Said
said_shaped = said_by (λ _. says 0 [])

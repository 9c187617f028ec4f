-- The number and the place of each refusal (01, "Numbers given back").
use Rattle.std.specs.Prelude.{List, [], ◌∷◌, ℕ}
use Rattle.refusal.specs.declared.Refusal.{Refusal}
use Rattle.refusal.specs.declared.Refusal.TheVariants.{Fields, Size, Length, Stray, Diagonal, Mirror, Lent, Unsettled, Empty, Broken, Fixed, Clash, Short, Long, Cut, Mark, Late, Many, Shapeless, ShapelessAt, Unreal, UnrealAt, Days, Pair, After, NoField}

-- the paper's number
abbrev pub number : Refusal → ℕ
number Fields = 1
number (Size f) = 2
number Length = 3
number (Stray i j a) = 4
number (Diagonal i j a) = 5
number (Mirror i j a) = 6
number Lent = 7
number (Unsettled i j a) = 8
number Empty = 9
number (Broken i j a) = 10
number (Fixed f) = 11
number (Clash i j) = 12
number Short = 13
number Long = 14
number (Cut at) = 15
number (Mark at) = 16
number (Late at) = 17
number (Many at) = 18
number Shapeless = 19
number (ShapelessAt at) = 19
number Unreal = 20
number (UnrealAt at) = 20
number (Days at) = 21
number (Pair at) = 22
number (After at) = 23
number NoField = 24

-- the values of its place, in the paper's order
abbrev pub place : Refusal → List ℕ
place Fields = []
place (Size f) = f ∷ []
place Length = []
place (Stray i j a) = i ∷ j ∷ a ∷ []
place (Diagonal i j a) = i ∷ j ∷ a ∷ []
place (Mirror i j a) = i ∷ j ∷ a ∷ []
place Lent = []
place (Unsettled i j a) = i ∷ j ∷ a ∷ []
place Empty = []
place (Broken i j a) = i ∷ j ∷ a ∷ []
place (Fixed f) = f ∷ []
place (Clash i j) = i ∷ j ∷ []
place Short = []
place Long = []
place (Cut at) = at ∷ []
place (Mark at) = at ∷ []
place (Late at) = at ∷ []
place (Many at) = at ∷ []
place Shapeless = []
place (ShapelessAt at) = at ∷ []
place Unreal = []
place (UnrealAt at) = at ∷ []
place (Days at) = at ∷ []
place (Pair at) = at ∷ []
place (After at) = at ∷ []
place NoField = []

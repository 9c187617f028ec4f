-- What the loop of `narrowed` keeps: a bit of w is reached by row where it is no longer left, or is reached by rest.
use mathlib.Core.Path.{◌≡◌, refl, sym, ap, ap₂, ◌∙◌, subst}
use mathlib.Core.Logic.{◌⊎◌, inl, inr}
use mathlib.Core.Bool.{Bool, true, false, not, ◌&&◌, ◌||◌, and_comm, or-false}
use mathlib.Core.List.{List}
use Prim.Native.Nat.{ℕ, ◌-◌, ◌^◌, ◌<◌}
use native.Mathlib.Nat.{lt_of_le_of_lt}
use lib.Dec.{T, eqb, eqb→eq}
use lib.ListN.{get_or}
use lib.Pow.{ones_sub-lt}
use lib.Bits.{bit_and, and_lt, and_le_l}
use lib.Count.{count_trailing_zeros}
use Rattle.theory.specs.Bound.{any, first}
use Rattle.theory.specs.BoundLaws.{T_ext, and_i, and_l, or_e, or_by, not_i, not_e, any_i, any_e, any_same, first_holds}
use Rattle.words.specs.Word.{bit, pack}
use Rattle.words.specs.WordLaws.{pack_of, bit_none, zero_no}
use Rattle.words.specs.MachineLaws.{bit-and, bit_not}
use Rattle.words.specs.EndLaws.{trailing-first, first_one, clear_lowest}

-- some bit c of row leads to b, by word c of cell
abbrev pub reached : ℕ → ℕ → List ℕ → ℕ → Bool
reached k row cell b = any k (λ c. bit row c && bit (get_or cell c 0) b)

pub record Going (k w row : ℕ) (cell : List ℕ) (left rest : ℕ) : Type 0 where
  pub held : left < 2 ^ k
  pub small : rest < 2 ^ k
  pub parted : (b : ℕ) → b < k → (bit w b && reached k row cell b) ≡ (bit w b && (not (bit left b) || reached k rest cell b))

spare : (a r : Bool) → (a && r) ≡ (a && (not a || r))
spare true r = refl
spare false r = refl

pub going_start : (k w row : ℕ) (cell : List ℕ) → w < 2 ^ k → row < 2 ^ k → Going k w row cell w row
going_start k w row cell h g = record { held = h; small = g; parted = λ b l. spare (bit w b) (reached k row cell b) }

-- one number taken out of the range
any_but : (k : ℕ) (p : ℕ → Bool) (z : ℕ) → z < k → any k p ≡ (p z || any k (λ c. p c && not (eqb c z)))
any_but k p z h = T_ext (any k p) (p z || any k (λ c. p c && not (eqb c z))) parts joins
  where
    parts : T (any k p) → T (p z || any k (λ c. p c && not (eqb c z)))
    parts t =
        let g = any_e k p t in
        or_by (p z) (any k (λ c. p c && not (eqb c z))) (λ n.
        any_i k (λ c. p c && not (eqb c z)) g.0 g.1
        (and_i (p g.0) (not (eqb g.0 z)) g.2
        (not_i (eqb g.0 z) (λ e. not_e (p z) n (subst (λ (x : ℕ). T (p x)) (eqb→eq g.0 z e) g.2)))))

    joins : T (p z || any k (λ c. p c && not (eqb c z))) → T (any k p)
    joins t =
        elim (or_e (p z) (any k (λ c. p c && not (eqb c z))) t) [
          | inl s ↦ any_i k p z h s
          | inr s ↦
              let g = any_e k (λ c. p c && not (eqb c z)) s in any_i k p g.0 g.1 (and_l (p g.0) (not (eqb g.0 z)) g.2)
        ]

swap_last : (x y n : Bool) → (x && y && n) ≡ (x && n && y)
swap_last true y n = and_comm y n
swap_last false y n = refl

-- the lowest one of rest taken out of it
reached_but : (k rest : ℕ) (cell : List ℕ) (b : ℕ) → 0 < rest → rest < 2 ^ k →
    reached k rest cell b ≡ (bit (get_or cell (count_trailing_zeros k rest) 0) b || reached k (bit_and rest (rest - 1)) cell b)
reached_but k rest cell b p h =
    rw trailing-first
    (let z : ℕ = first k (bit rest) in
    let l : z < k = first_one k rest p h in
    any_but k (λ c. bit rest c && bit (get_or cell c 0) b) z l
    ∙ ap₂ ◌||◌
    (ap (λ (x : Bool). x && bit (get_or cell z 0) b) (T_ext (bit rest z) true (λ t. tt) (λ t. first_holds k (bit rest) l)))
    (any_same k (λ c. bit rest c && bit (get_or cell c 0) b && not (eqb c z)) (λ c. bit (bit_and rest (rest - 1)) c && bit (get_or cell c 0) b) (λ c m.
    swap_last (bit rest c) (bit (get_or cell c 0) b) (not (eqb c z))
    ∙ ap (λ (x : Bool). x && bit (get_or cell c 0) b) (sym (clear_lowest k rest l c)))))

cleared : (a v r : Bool) → (not a || (v || r)) ≡ (not (a && not v) || r)
cleared true true r = refl
cleared true false r = refl
cleared false v r = refl

pub going_more : (k w row : ℕ) (cell : List ℕ) (left rest : ℕ) → Going k w row cell left rest → 0 < rest → get_or cell (count_trailing_zeros k rest) 0 < 2 ^ k →
    Going k w row cell (bit_and left ((2 ^ k - 1) - get_or cell (count_trailing_zeros k rest) 0)) (bit_and rest (rest - 1))
going_more k w row cell left rest g p f =
    let v : ℕ = get_or cell (count_trailing_zeros k rest) 0 in
    let m : ℕ = (2 ^ k - 1) - v in
    record {
      held = and_lt k left m g.held (ones_sub-lt k v);
      small = lt_of_le_of_lt (and_le_l rest (rest - 1)) g.small;
      parted = λ b l.
          g.parted b l
          ∙ ap (λ (x : Bool). bit w b && x)
          (ap (λ (x : Bool). not (bit left b) || x) (reached_but k rest cell b p g.small)
          ∙ cleared (bit left b) (bit v b) (reached k (bit_and rest (rest - 1)) cell b)
          ∙ ap (λ (x : Bool). not x || reached k (bit_and rest (rest - 1)) cell b)
          (sym (bit-and left m b ∙ ap (λ (x : Bool). bit left b && x) (bit_not k v b f l))));
    }

-- the two ways out: every bit of w is reached, or nothing is left of rest

reached_none : (k : ℕ) (cell : List ℕ) (b : ℕ) → reached k 0 cell b ≡ false
reached_none k cell b =
    T_ext (reached k 0 cell b) false
    (λ t. let g = any_e k (λ c. bit 0 c && bit (get_or cell c 0) b) t in zero_no g.0 (and_l (bit 0 g.0) (bit (get_or cell g.0 0) b) g.2))
    absurd

pub going_end : (k w row : ℕ) (cell : List ℕ) (left rest : ℕ) → w < 2 ^ k → Going k w row cell left rest → (left ≡ 0) ⊎ (rest ≡ 0) →
    bit_and w ((2 ^ k - 1) - left) ≡ pack k (λ b. bit w b && reached k row cell b)
going_end k w row cell left rest h g e =
    let m : ℕ = (2 ^ k - 1) - left in
    pack_of k (bit_and w m) (λ b. bit w b && reached k row cell b) (and_lt k w m h (ones_sub-lt k left)) (λ b l.
    bit-and w m b
    ∙ ap (λ (x : Bool). bit w b && x) (bit_not k left b g.held l ∙ last b e)
    ∙ sym (g.parted b l))
  where
    last : (b : ℕ) → (left ≡ 0) ⊎ (rest ≡ 0) → not (bit left b) ≡ (not (bit left b) || reached k rest cell b)
    last b (inl z) = rw (z, bit_none)
    last b (inr z) = rw (z, reached_none k cell b, or-false)

-- Five passes turn a cell over: each bit is followed back through them, and the checker computes where it comes from.
use mathlib.Core.Path.{◌≡◌, refl, sym, ap, ap₂, ◌∙◌}
use mathlib.Core.Bool.{Bool, xor, ◌&&◌}
use mathlib.Core.List.{List, [], ◌∷◌}
use Prim.Native.Nat.{ℕ}
use lib.Dec.{T, eqb, ltb, eqb→eq, ltb→lt}
use lib.ListN.{get_or}
use Rattle.theory.specs.Bound.{all}
use Rattle.theory.specs.BoundLaws.{all_e, and_l, and_r}
use Rattle.words.specs.Word.{bit}
use Rattle.words.specs.WordLaws.{bit-pack, pack_same}
use Rattle.words.specs.Turn.{parted, from_word, from_bit, Exchanged, Turned}

-- distances and masks, the last pass first
unfoldable passes : List (ℕ × ℕ)
passes = (1, 1431655765) ∷ (2, 858993459) ∷ (4, 252645135) ∷ (8, 16711935) ∷ (16, 65535) ∷ []

-- bit c of word p comes from bit b of word a
unfoldable comes : List (ℕ × ℕ) → (p c a b : ℕ) → Bool
comes [] p c a b = eqb p a && eqb c b
comes (s ∷ ss) p c a b = (ltb p 32 && ltb c 32) && comes ss (from_word s.1 p c) (from_bit s.0 s.1 p c) a b

-- out is cell after the passes
abbrev After : List (ℕ × ℕ) → List ℕ → List ℕ → Type 0
After [] cell out = out ≡ cell
After (s ∷ ss) cell out = (mid : List ℕ) × Exchanged s.0 s.1 mid out × After ss cell mid

comes-bit : (ss : List (ℕ × ℕ)) (cell out : List ℕ) → After ss cell out → (p c a b : ℕ) → T (comes ss p c a b) → bit (get_or out p 0) c ≡ bit (get_or cell a 0) b
unfolding comes
comes-bit [] cell out e p c a b t =
    ap (λ (l : List ℕ). bit (get_or l p 0) c) e
    ∙ ap₂ (λ (i j : ℕ). bit (get_or cell i 0) j) (eqb→eq p a (and_l (eqb p a) (eqb c b) t)) (eqb→eq c b (and_r (eqb p a) (eqb c b) t))
comes-bit (s ∷ ss) cell out e p c a b t =
    let here = and_l (ltb p 32 && ltb c 32) _ t in
    ap (λ (w : ℕ). bit w c) (e.1.words p (ltb→lt p 32 (and_l (ltb p 32) (ltb c 32) here)))
    ∙ bit-pack 32 _ c (ltb→lt c 32 (and_r (ltb p 32) (ltb c 32) here))
    ∙ comes-bit ss cell e.0 e.2 (from_word s.1 p c) (from_bit s.0 s.1 p c) a b (and_r (ltb p 32 && ltb c 32) _ t)

all_come : T (all 32 (λ a. all 32 (λ b. comes passes a b b a)))
unfolding all comes passes from_word from_bit bit
all_come = tt

pub turned_over : {cell s16 s8 s4 s2 s1 : List ℕ} → Exchanged 16 65535 cell s16 → Exchanged 8 16711935 s16 s8 → Exchanged 4 252645135 s8 s4 →
    Exchanged 2 858993459 s4 s2 → Exchanged 1 1431655765 s2 s1 → Turned cell s1
unfolding passes
turned_over {cell} {s16} {s8} {s4} {s2} {s1} e16 e8 e4 e2 e1 = record {
  long = e1.long;
  words = λ a h. e1.words a h ∙ pack_same 32 _ (λ b. bit (get_or cell b 0) a) (λ b l.
      sym (bit-pack 32 _ b l) ∙ ap (λ (w : ℕ). bit w b) (sym (e1.words a h))
      ∙ comes-bit passes cell s1 (s2, e1, (s4, e2, (s8, e4, (s16, e8, (cell, e16, refl))))) a b b a
      (all_e 32 (λ b. comes passes a b b a) (all_e 32 (λ a. all 32 (λ b. comes passes a b b a)) all_come a h) b l));
}

-- the masks

pub parted_16 : T (parted 16 65535)
unfolding parted all xor bit
parted_16 = tt

pub parted_8 : T (parted 8 16711935)
unfolding parted all xor bit
parted_8 = tt

pub parted_4 : T (parted 4 252645135)
unfolding parted all xor bit
parted_4 = tt

pub parted_2 : T (parted 2 858993459)
unfolding parted all xor bit
parted_2 = tt

pub parted_1 : T (parted 1 1431655765)
unfolding parted all xor bit
parted_1 = tt

-- the masks of the five passes
pub ruleset partings = (parted_16, parted_8, parted_4, parted_2, parted_1)

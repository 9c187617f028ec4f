-- The tests of sizes, cells and words, as the code makes them.
use mathlib.Core.Path.{◌≡◌, sym, ap, ◌∙◌}
use mathlib.Core.Logic.{inl, inr}
use mathlib.Core.Bool.{Bool, not, xor, ◌&&◌, ◌||◌}
use mathlib.Core.List.{List}
use Prim.Native.Nat.{ℕ, ◌^◌, ◌≤◌, ◌<◌}
use lib.Dec.{T, eqb, ltb, eqb→eq, eqb_refl}
use lib.Pow.{pow_pos}
use lib.ListN.{get_or}
use borrow.Author.Tests.{lt-ltb, le-ltb}
use Rattle.theory.specs.Limits.{readings_most}
use Rattle.theory.specs.Bound.{any}
use Rattle.theory.specs.BoundLaws.{T_ext, any_same, any_i, any_e, known, not_i, not_e}
use Rattle.words.specs.Word.{bit, pack}
use Rattle.words.specs.WordLaws.{bit-pack, pack_of, bit_none}
use Rattle.table.specs.Cells.{stray_in, diagonal_in, mirror_in}
use Rattle.table.specs.ShapeLaws.{xor_same, xor_none}

-- rows of a cell

pub mask_open : (a size mask : ℕ) → mask < 2 ^ 32 → a < size → mask ≡ pack readings_most (λ b. ltb a size && bit mask b)
mask_open a size mask f h = pack_of 32 mask (λ b. ltb a size && bit mask b) f (λ b l. rw (lt-ltb a size h))

pub mask_shut : (a size mask : ℕ) → size ≤ a → 0 ≡ pack readings_most (λ b. ltb a size && bit mask b)
mask_shut a size mask h = pack_of 32 0 (λ b. ltb a size && bit mask b) (pow_pos 32) (λ b l. rw (le-ltb a size h, bit_none))

pub stray_at : (size mask : ℕ) (cell : List ℕ) (a : ℕ) {m : ℕ} {r : Bool} → m ≡ pack readings_most (λ b. ltb a size && bit mask b)
    → r ≡ any 32 (λ b. bit (get_or cell a 0) b && not (bit m b)) → r ≡ stray_in size mask cell a
unfolding stray_in
stray_at size mask cell a {m} {r} e f = f ∙ any_same 32 _ _ (λ b l. rw (e, bit-pack 32 (λ c. ltb a size && bit mask c) b l))

eqb_comm : (a b : ℕ) → eqb a b ≡ eqb b a
eqb_comm a b = T_ext (eqb a b) (eqb b a) (λ t. rw (eqb→eq a b t) (eqb_refl b)) (λ t. rw (eqb→eq b a t) (eqb_refl a))

pub diagonal_at : (cell : List ℕ) (a : ℕ) {m : ℕ} {r : Bool} → m ≡ pack 32 (λ b. bit 0 b || eqb b a)
    → r ≡ any 32 (λ b. bit (get_or cell a 0) b && not (bit m b)) → r ≡ diagonal_in cell a
unfolding diagonal_in
diagonal_at cell a {m} {r} e f = f ∙ any_same 32 _ _ (λ b l. rw (e, bit-pack 32 (λ c. bit 0 c || eqb c a) b l, bit_none, eqb_comm b a))

pub mirror_at : (cell mirror : List ℕ) (a : ℕ) {v : ℕ} → get_or cell a 0 < 2 ^ 32 → v ≡ pack readings_most (λ b. bit (get_or mirror b 0) a)
    → not (eqb (get_or cell a 0) v) ≡ mirror_in cell mirror a
unfolding mirror_in
mirror_at cell mirror a {v} f e = T_ext (not (eqb (get_or cell a 0) v)) (mirror_in cell mirror a) differs same
  where
    here : ℕ → Bool
    here = bit (get_or cell a 0)

    there : ℕ → Bool
    there b = bit (get_or mirror b 0) a

    differs : T (not (eqb (get_or cell a 0) v)) → T (mirror_in cell mirror a)
    differs t = elim (known (mirror_in cell mirror a)) [
      | inl s ↦ s
      | inr s ↦
          let n = λ (b : ℕ) (l : b < 32) (x : T (xor (here b) (there b))). not_e (mirror_in cell mirror a) s (any_i 32 (λ c. xor (here c) (there c)) b l x) in
          let w : get_or cell a 0 ≡ v = pack_of 32 (get_or cell a 0) there f (λ b l. xor_none (here b) (there b) (n b l)) ∙ sym e in
          absurd (not_e (eqb (get_or cell a 0) v) t (rw w (eqb_refl v)))
    ]

    same : T (mirror_in cell mirror a) → T (not (eqb (get_or cell a 0) v))
    same t = not_i (eqb (get_or cell a 0) v) (λ s.
        let w = any_e 32 (λ b. xor (here b) (there b)) t in
        xor_same (here w.0) (there w.0) (ap (λ (x : ℕ). bit x w.0) (eqb→eq (get_or cell a 0) v s ∙ e) ∙ bit-pack 32 there w.0 w.1) w.2)

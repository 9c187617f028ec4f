-- What the loop of `strike_bits` keeps: the bits of lost that are no longer in rest are struck, with their mirror images.
use mathlib.Core.Path.{◌≡◌, sym, subst, ◌∙◌}
use mathlib.Core.Logic.{◌⊎◌, inl, inr}
use mathlib.Core.Bool.{not, ◌&&◌}
use mathlib.Core.List.{List}
use Prim.Native.Nat.{ℕ, ◌-◌, ◌^◌, ◌<◌}
use native.Mathlib.Nat.{lt_of_le_of_lt}
use native.Mathlib.Omega.{arith}
use lib.Bits.{bit_and, and_le_r}
use lib.Dec.{T, eqb, eqb→eq, eqb_refl}
use lib.ListN.{length}
use Rattle.theory.specs.Bound.{first}
use Rattle.theory.specs.BoundLaws.{and_i, and_l, and_r, or_l, or_r, or_e, not_e, known, first_holds}
use Rattle.theory.specs.Relation.{Rel}
use Rattle.theory.specs.Strike.{either}
use Rattle.theory.proofs.StrikeLaws.{strike_i, strike_in, strike_out}
use Rattle.words.specs.Word.{bit}
use Rattle.words.specs.WordLaws.{zero_no}
use Rattle.words.specs.EndLaws.{first_one, clear_lowest}
use Rattle.table.specs.Layout.{rel}
use Rattle.table.specs.Strike.{one_pair, pair_and_mirror, Struck}
use Rattle.settle.specs.Round.{OfPair, OfSome, Without}
use Rattle.settle.specs.RoundLaws.{without_more, without_as}

-- a pair struck, with its mirror image
pub pair_struck : {n : ℕ} {t u : List ℕ} {i j a b : ℕ} → Struck n t i j a b u → Without n (OfPair i j a b) (rel n t) (rel n u)
pair_struck {n} {t} {u} {i} {j} {a} {b} s = record {
  less = λ k l c d hk hl v. strike_in (pair_and_mirror i j a b) (rel n t) k l c d (rw (s.stands k l c d hk hl) at v);
  gone = λ k l c d hk hl p v. strike_out (pair_and_mirror i j a b) (rel n t) k l c d (rw (s.stands k l c d hk hl) at v) (to k l c d p);
  stays = λ k l c d hk hl e v. rw (s.stands k l c d hk hl) (strike_i (pair_and_mirror i j a b) (rel n t) k l c d v (λ p. e (from k l c d p)));
}
  where
    one-i : (i j a b k l c d : ℕ) → k ≡ i → l ≡ j → c ≡ a → d ≡ b → T (one_pair i j a b k l c d)
    one-i i j a b k l c d p q r s = unfold one_pair in rw (p, q, r, s) (and_i (eqb i i) _ (eqb_refl i) (and_i (eqb j j) _ (eqb_refl j) (and_i (eqb a a) _ (eqb_refl a) (eqb_refl b))))

    one-e : (i j a b k l c d : ℕ) → T (one_pair i j a b k l c d) → (k ≡ i) × (l ≡ j) × (c ≡ a) × (d ≡ b)
    one-e i j a b k l c d v = unfold one_pair in
        let w = and_r (eqb k i) (eqb l j && (eqb c a && eqb d b)) v in
        let x = and_r (eqb l j) (eqb c a && eqb d b) w in
        (eqb→eq k i (and_l (eqb k i) _ v), eqb→eq l j (and_l (eqb l j) _ w), eqb→eq c a (and_l (eqb c a) _ x), eqb→eq d b (and_r (eqb c a) _ x))

    to : (k l c d : ℕ) → OfPair i j a b k l c d → T (pair_and_mirror i j a b k l c d)
    to k l c d v = unfold pair_and_mirror either in elim v [
      | inl p ↦ or_l (one_pair i j a b k l c d) _ (one-i i j a b k l c d p.0 p.1 p.2 p.3)
      | inr p ↦ or_r (one_pair i j a b k l c d) _ (one-i j i b a k l c d p.0 p.1 p.3 p.2)
    ]

    from : (k l c d : ℕ) → T (pair_and_mirror i j a b k l c d) → OfPair i j a b k l c d
    from k l c d v = unfold pair_and_mirror either in elim (or_e (one_pair i j a b k l c d) (one_pair j i b a k l c d) v) [
      | inl p ↦ inl (one-e i j a b k l c d p)
      | inr p ↦ let e = one-e j i b a k l c d p in inr (e.0, e.1, e.3, e.2)
    ]

module _ (n i j a : ℕ) where
  -- one more reading of the row
  pub some_more : {p q : ℕ → Type 0} {b : ℕ} {A B C : Rel} → Without n (OfSome i j a p) A B → Without n (OfPair i j a b) B C
      → ((d : ℕ) → q d → p d ⊎ (d ≡ b)) → ((d : ℕ) → p d → q d) → q b → Without n (OfSome i j a q) A C
  some_more {p} {q} {b} v w f g h = without_more v w (λ k l c d hk hl. part k l c d) (λ k l c d hk hl. old k l c d) (λ k l c d hk hl. new k l c d)
    where
      part : (k l c d : ℕ) → OfSome i j a q k l c d → OfSome i j a p k l c d ⊎ OfPair i j a b k l c d
      part k l c d (inl s) = elim (f d s.3) [ inl t ↦ inl (inl (s.0, s.1, s.2, t)) | inr e ↦ inr (inl (s.0, s.1, s.2, e)) ]
      part k l c d (inr s) = elim (f c s.3) [ inl t ↦ inl (inr (s.0, s.1, s.2, t)) | inr e ↦ inr (inr (s.0, s.1, s.2, e)) ]

      old : (k l c d : ℕ) → OfSome i j a p k l c d → OfSome i j a q k l c d
      old k l c d (inl s) = inl (s.0, s.1, s.2, g d s.3)
      old k l c d (inr s) = inr (s.0, s.1, s.2, g c s.3)

      new : (k l c d : ℕ) → OfPair i j a b k l c d → OfSome i j a q k l c d
      new k l c d (inl s) = inl (s.0, s.1, s.2, subst q (sym s.3) h)
      new k l c d (inr s) = inr (s.0, s.1, s.2, subst q (sym s.3) h)

  -- the same readings said in another way
  pub some_as : {p q : ℕ → Type 0} {A B : Rel} → Without n (OfSome i j a p) A B → ((d : ℕ) → q d → p d) → ((d : ℕ) → p d → q d) → Without n (OfSome i j a q) A B
  some_as v f g = without_as v (λ k l c d hk hl. move f k l c d) (λ k l c d hk hl. move g k l c d)
    where
      move : {p q : ℕ → Type 0} → ((d : ℕ) → p d → q d) → (k l c d : ℕ) → OfSome i j a p k l c d → OfSome i j a q k l c d
      move f k l c d (inl s) = inl (s.0, s.1, s.2, f d s.3)
      move f k l c d (inr s) = inr (s.0, s.1, s.2, f c s.3)

-- the lowest bit of a word that is not 0
pub low_small : (rest : ℕ) {b : ℕ} → b ≡ first 32 (bit rest) → 0 < rest → rest < 2 ^ 32 → b < 32
low_small rest e h s = rw e (first_one 32 rest h s)

-- bit b of w is none of rest's
abbrev pub Past : ℕ → ℕ → ℕ → Type 0
Past w rest b = T (bit w b) × (T (bit rest b) → ⊥)

pub record Striking (n i j a w : ℕ) (out₀ out : List ℕ) (rest : ℕ) : Type 0 where
  pub long : length out ≡ length out₀
  pub small : rest < 2 ^ 32
  pub inside : (b : ℕ) → T (bit rest b) → T (bit w b)
  pub struck : Without n (OfSome i j a (Past w rest)) (rel n out₀) (rel n out)

module _ (n i j a w : ℕ) (out₀ : List ℕ) where
  pub striking_more : (out out' : List ℕ) (rest b : ℕ) → Striking n i j a w out₀ out rest → 0 < rest → b ≡ first 32 (bit rest) → length out' ≡ length out
      → Without n (OfPair i j a b) (rel n out) (rel n out') → Striking n i j a w out₀ out' (bit_and rest (rest - 1))
  striking_more out out' rest b g h eb e v = record {
    long = e ∙ g.long;
    small = lt_of_le_of_lt (and_le_r rest (rest - 1)) (omega (arith, g.small));
    inside = λ b t. g.inside b (and_l (bit rest b) _ (rw (clear b) at t));
    struck = some_more n i j a g.struck (rw eb at v) part old new;
  }
    where
      low : ℕ
      low = first 32 (bit rest)

      is-low : low < 32
      is-low = first_one 32 rest h g.small

      clear : (b : ℕ) → bit (bit_and rest (rest - 1)) b ≡ (bit rest b && not (eqb b low))
      clear = clear_lowest 32 rest is-low

      part : (b : ℕ) → Past w (bit_and rest (rest - 1)) b → Past w rest b ⊎ (b ≡ low)
      part b t = elim (known (eqb b low)) [
        | inl s ↦ inr (eqb→eq b low s)
        | inr s ↦ inl (t.0, λ u. t.1 (rw (clear b) (and_i (bit rest b) _ u s)))
      ]

      old : (b : ℕ) → Past w rest b → Past w (bit_and rest (rest - 1)) b
      old b t = (t.0, λ u. t.1 (and_l (bit rest b) _ (rw (clear b) at u)))

      new : Past w (bit_and rest (rest - 1)) low
      new = (g.inside low (first_holds 32 (bit rest) is-low), λ u. not_e (eqb low low) (and_r (bit rest low) _ (rw (clear low) at u)) (eqb_refl low))

  pub striking_end : (out : List ℕ) (rest : ℕ) → Striking n i j a w out₀ out rest → rest ≡ 0 → Without n (OfSome i j a (λ b. T (bit w b))) (rel n out₀) (rel n out)
  striking_end out rest g e = some_as n i j a g.struck (λ b t. (t, λ u. zero_no b (rw e at u))) (λ b t. t.0)

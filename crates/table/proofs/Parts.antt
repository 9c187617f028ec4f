-- A bit cleared in the part of a table that is one cell is that bit cleared in the table.
use mathlib.Core.Path.{◌≡◌, sym, ap, subst, ◌∙◌}
use mathlib.Core.Bool.{not, ◌&&◌}
use mathlib.Core.List.{List}
use Prim.Native.Nat.{ℕ, ◌+◌, ◌-◌, ◌<◌}
use native.Mathlib.Omega.{arith}
use lib.Dec.{eqb}
use lib.ListN.{length, get_or, set, drop, length-drop}
use lib.Seq.{length-take-le, get_or-take, get_or-drop}
use borrow.Rule.Slice.PartMut.{mid_of, put_mid, set_mid_at}
use Rattle.theory.specs.Limits.{readings_most}
use Rattle.words.specs.Word.{bit, pack}
use Rattle.table.specs.Layout.{table_length, row_number, rel, Sized}
use Rattle.table.specs.Post.{Placed}
use Rattle.theory.specs.Relation.{Agree}
use Rattle.theory.specs.Strike.{strike}
use Rattle.table.specs.Strike.{pair_and_mirror, cleared, struck_words, Struck}
use Rattle.table.specs.StrikeLaws.{length-cleared, rel-struck}

pub cleared_is : (t : List ℕ) (a b : ℕ) {v : ℕ} → v ≡ pack 32 (λ c. bit (get_or t a 0) c && not (eqb c b)) → set t a v ≡ cleared t a b
unfolding cleared
cleared_is t a b e = ap (set t a) e

-- the part lent is that of a cell, and comes back with the bit cleared
pub cleared-part : (n : ℕ) (t : List ℕ) (i j : ℕ) {at : ℕ} (a b : ℕ) {s : List ℕ} → length t ≡ table_length n → Placed n i j at → a < readings_most
    → s ≡ cleared (mid_of at (at + readings_most - at) t) a b → put_mid at (at + readings_most - at) t s ≡ cleared t (row_number n i j a) b
unfolding cleared
cleared-part n t i j {at} a b {s} long p ha e =
    ap (put_mid at k t) (e ∙ ap (set (mid_of at k t) a) (ap (λ (w : ℕ). pack 32 (λ c. bit w c && not (eqb c b))) same))
    ∙ set_mid_at at k a t (pack 32 (λ c. bit (get_or t (at + a) 0) c && not (eqb c b))) short
    ∙ ap (λ (x : ℕ). cleared t x b) (ap (λ (x : ℕ). x + a) p.start)
  where
    k : ℕ
    k = at + readings_most - at

    same : get_or (mid_of at k t) a 0 ≡ get_or t (at + a) 0
    same = get_or-take k (drop at t) a 0 (omega arith) ∙ get_or-drop at t a 0

    short : a < length (mid_of at k t)
    short = rw (length-take-le k (drop at t) (omega (arith, length-drop at t, p.within, long))) (omega arith)

-- both parts come back
pub struck-parts : (n : ℕ) (t : List ℕ) (i j : ℕ) {at mirror : ℕ} (a b : ℕ) {s u : List ℕ}
    → Sized n t → (i < n) × (j < n) × (a < readings_most) × (b < readings_most) → Placed n i j at → Placed n j i mirror
    → s ≡ cleared (mid_of at (at + readings_most - at) t) a b
    → u ≡ cleared (mid_of mirror (mirror + readings_most - mirror) (put_mid at (at + readings_most - at) t s)) b a
    → Struck n t i j a b (put_mid mirror (mirror + readings_most - mirror) (put_mid at (at + readings_most - at) t s) u)
unfolding struck_words
struck-parts n t i j {at} {mirror} a b {s} {u} z h p q e f = record {
  words = words;
  stands = subst (λ (x : List ℕ). Agree n (rel n x) (strike (pair_and_mirror i j a b) (rel n t))) (sym words) (rel-struck n t i j a b z.long h.0 h.1 h.2 h.3);
}
  where
    first : put_mid at (at + readings_most - at) t s ≡ cleared t (row_number n i j a) b
    first = cleared-part n t i j a b z.long p h.2 e

    words : put_mid mirror (mirror + readings_most - mirror) (put_mid at (at + readings_most - at) t s) u ≡ struck_words n t i j a b
    words =
        cleared-part n (put_mid at (at + readings_most - at) t s) j i b a (ap length first ∙ length-cleared t (row_number n i j a) b ∙ z.long) q h.3 f
        ∙ ap (λ (x : List ℕ). cleared x (row_number n j i b) a) first

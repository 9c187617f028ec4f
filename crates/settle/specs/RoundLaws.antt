-- Parts of a round add up to the round; what a round leaves alone in all cells of two fields stays settled between them.
use Rattle.std.specs.Prelude.{◌≡◌, ◌⊎◌, ◌&&◌, List, ℕ, ◌-◌, ◌^◌, ◌≤◌, ◌<◌, length, T}
use Rattle.std.proofs.Math.Path.{ap, ap₂}
use Rattle.std.proofs.Common.{◌∙◌, arith, lt→ltb, ltb→lt, le-ltb}
use Rattle.std.proofs.Math.Logic.{inl, inr}
use Rattle.std.proofs.Math.Bool.{not}
use Rattle.std.specs.Int.Bits.{bit_or}
use Rattle.std.proofs.Math.Dec.{ltb}
use Rattle.theory.specs.Limits.{readings_most}
use Rattle.theory.specs.BoundLaws.{and_i, and_l, and_r, or_l, or_r, or_e, not_i, not_e, known, lt_or_ge, T_ext, any_i, any_e, any_same}
use Rattle.theory.specs.Relation.{Rel, Agree, round}
use Rattle.theory.proofs.RelationLaws.{composed_i, composed_e, round_i, round_in, round-composed}
use Rattle.theory.specs.Reading.{holds}
use Rattle.theory.proofs.ReadingLaws.{holds_i, holds_e}
use Rattle.theory.specs.Settling.{Stable}
use Rattle.theory.proofs.AgreeLaws.{agree_round, agree_holds}
use Rattle.words.specs.Word.{bit}
use Rattle.words.specs.WordLaws.{zero_no, zero_of, bit-pack, pack_of, pack-lt, pack_same}
use Rattle.words.specs.MachineLaws.{bit_or_lem, bit-ones}
use Rattle.table.specs.LayoutLaws.{Narrow}
use Rattle.settle.specs.Round.{lost, moves, moved_fields, Quiet, Turned, Part, Without, LostOf, Done, Lent}

-- lost pairs

pub lost_i : (n : ℕ) (R : Rel) (i j a b : ℕ) → T (R i j a b) → (T (round n R i j a b) → ⊥) → T (lost n R i j a b)
unfolding lost
lost_i n R i j a b t d = and_i (R i j a b) _ t (not_i (round n R i j a b) d)

pub lost_in : (n : ℕ) (R : Rel) (i j a b : ℕ) → T (lost n R i j a b) → T (R i j a b)
unfolding lost
lost_in n R i j a b t = and_l (R i j a b) _ t

pub lost_out : (n : ℕ) (R : Rel) (i j a b : ℕ) → T (lost n R i j a b) → T (round n R i j a b) → ⊥
unfolding lost
lost_out n R i j a b t = not_e (round n R i j a b) (and_r (R i j a b) _ t)

-- what is not lost stays
pub not-lost : (n : ℕ) (R : Rel) (i j a b : ℕ) → T (R i j a b) → (T (lost n R i j a b) → ⊥) → T (round n R i j a b)
not-lost n R i j a b t d = elim (known (round n R i j a b)) [ inl s ↦ s | inr s ↦ absurd (d (lost_i n R i j a b t (not_e (round n R i j a b) s))) ]

-- the round of a relation that is its own mirror image is its own too
pub round-turned : (n : ℕ) (R : Rel) → Turned n R → Turned n (round n R)
round-turned n R w i j a b hi hj = T_ext (round n R i j a b) (round n R j i b a) (back i j a b hi hj) (back j i b a hj hi)
  where
    turn : (i j a b : ℕ) → i < n → j < n → T (R i j a b) → T (R j i b a)
    turn i j a b hi hj t = rw (w i j a b hi hj) at t

    back : (i j a b : ℕ) → i < n → j < n → T (round n R i j a b) → T (round n R j i b a)
    back i j a b hi hj t = round_i n R j i b a (turn i j a b hi hj (round_in n R i j a b t)) (λ k hk.
        let c = composed_e R i k j a b (round-composed n R i j a b t k hk) in
        composed_i R j k i b a c.0 c.1 (turn k j c.0 b hk hj c.3) (turn i k a c.0 hi hk c.2))

pub lost-turned : (n : ℕ) (R : Rel) → Turned n R → (i j a b : ℕ) → i < n → j < n → T (lost n R i j a b) → T (lost n R j i b a)
lost-turned n R w i j a b hi hj t = lost_i n R j i b a (rw (w i j a b hi hj) at (lost_in n R i j a b t)) (λ s. lost_out n R i j a b t (rw (round-turned n R w i j a b hi hj) s))

pub moves_i : (n : ℕ) (R : Rel) (i j a b : ℕ) → j < n → a < readings_most → b < readings_most → T (lost n R i j a b) → T (moves n R i)
unfolding moves
moves_i n R i j a b hj ha hb t = any_i n _ j hj (holds_i (lost n R) i j a b ha hb t)

pub moves_e : (n : ℕ) (R : Rel) (i : ℕ) → T (moves n R i) → (j : ℕ) × (a : ℕ) × (b : ℕ) × (j < n) × T (lost n R i j a b)
unfolding moves
moves_e n R i t =
    let f = any_e n (λ j. holds (lost n R) i j) t in
    let h = holds_e (lost n R) i f.0 f.2 in
    (f.0, h.0, h.1, f.1, h.4)

-- words of the same length can be lent in place of others
pub lent_on : {n : ℕ} {t out out' : List ℕ} → Lent n t out → length out' ≡ length out → Lent n t out'
lent_on w e = record { sized = w.sized; turned = w.turned; other = e ∙ w.other }

-- a part taken away

-- what is in P is in one of the two parts
abbrev pub Either : ℕ → Part → Part → Part → Type 0
Either n P P₁ P₂ = (i j a b : ℕ) → i < n → j < n → P i j a b → P₁ i j a b ⊎ P₂ i j a b

-- what is in P is in Q
abbrev pub In : ℕ → Part → Part → Type 0
In n P Q = (i j a b : ℕ) → i < n → j < n → P i j a b → Q i j a b

pub without_none : {n : ℕ} {P : Part} {A : Rel} → ((i j a b : ℕ) → i < n → j < n → P i j a b → ⊥) → Without n P A A
without_none f = record {
  less = λ i j a b hi hj t. t;
  gone = λ i j a b hi hj p t. f i j a b hi hj p;
  stays = λ i j a b hi hj d t. t;
}

pub without_more : {n : ℕ} {P P₁ P₂ : Part} {A B C : Rel} → Without n P₁ A B → Without n P₂ B C → Either n P P₁ P₂ → In n P₁ P → In n P₂ P → Without n P A C
without_more {n} {P} {P₁} {P₂} {A} {B} {C} v w f g h = record {
  less = λ i j a b hi hj t. v.less i j a b hi hj (w.less i j a b hi hj t);
  gone = λ i j a b hi hj p t. elim (f i j a b hi hj p) [
    | inl q ↦ v.gone i j a b hi hj q (w.less i j a b hi hj t)
    | inr q ↦ w.gone i j a b hi hj q t
  ];
  stays = λ i j a b hi hj d t. w.stays i j a b hi hj (λ q. d (h i j a b hi hj q)) (v.stays i j a b hi hj (λ q. d (g i j a b hi hj q)) t);
}

-- the same part said in another way
pub without_as : {n : ℕ} {P Q : Part} {A B : Rel} → Without n P A B → In n Q P → In n P Q → Without n Q A B
without_as v f g = record {
  less = v.less;
  gone = λ i j a b hi hj q. v.gone i j a b hi hj (f i j a b hi hj q);
  stays = λ i j a b hi hj d. v.stays i j a b hi hj (λ p. d (g i j a b hi hj p));
}

-- a round done in a part

pub done_none : {n : ℕ} {R : Rel} {P : Part} {A : Rel} → ((i j a b : ℕ) → i < n → j < n → LostOf n R P i j a b → ⊥) → Done n R P A A 0
done_none f = record {
  without = without_none f;
  marked = λ i j a b hi hj p. absurd (f i j a b hi hj p);
  only = λ f t. absurd (zero_no f t);
}

pub done_more : {n : ℕ} {R : Rel} {P P₁ P₂ : Part} {A B C : Rel} {m₁ m₂ : ℕ} → Done n R P₁ A B m₁ → Done n R P₂ B C m₂
    → Either n (LostOf n R P) P₁ P₂ → In n P₁ P → In n P₂ P → Done n R P A C (bit_or m₁ m₂)
done_more {n} {R} {P} {P₁} {P₂} {m₁ = m₁} {m₂ = m₂} v w f g h = record {
  without = without_more v.without w.without part (λ i j a b hi hj q. (g i j a b hi hj q.0, q.1)) (λ i j a b hi hj q. (h i j a b hi hj q.0, q.1));
  marked = λ i j a b hi hj p. rw (bit_or_lem m₁ m₂ i) (elim (part i j a b hi hj p) [
    | inl q ↦ or_l (bit m₁ i) _ (v.marked i j a b hi hj q)
    | inr q ↦ or_r (bit m₁ i) _ (w.marked i j a b hi hj q)
  ]);
  only = λ f t. elim (or_e (bit m₁ f) (bit m₂ f) (rw (bit_or_lem m₁ m₂ f) at t)) [ inl s ↦ v.only f s | inr s ↦ w.only f s ];
}
  where
    part : Either n (LostOf n R P) (LostOf n R P₁) (LostOf n R P₂)
    part i j a b hi hj p = elim (f i j a b hi hj p) [ inl q ↦ inl (q, p.1) | inr q ↦ inr (q, p.1) ]

pub done_as : {n : ℕ} {R : Rel} {P Q : Part} {A B : Rel} {m : ℕ} → Done n R P A B m → In n (LostOf n R Q) P → In n P Q → Done n R Q A B m
done_as v f g = record {
  without = without_as v.without (λ i j a b hi hj q. (f i j a b hi hj q, q.1)) (λ i j a b hi hj p. (g i j a b hi hj p.0, p.1));
  marked = λ i j a b hi hj q. v.marked i j a b hi hj (f i j a b hi hj q, q.1);
  only = v.only;
}

-- a round done everywhere

-- every pair
abbrev pub Everywhere : Part
Everywhere i j a b = Unit {0}

pub done-round : {n : ℕ} {R A : Rel} {m : ℕ} → Done n R Everywhere R A m → Agree n A (round n R)
done-round {n} {R} {A} v i j a b hi hj = T_ext (A i j a b) (round n R i j a b)
    (λ t. not-lost n R i j a b (v.without.less i j a b hi hj t) (λ s. v.without.gone i j a b hi hj (tt, s) t))
    (λ t. v.without.stays i j a b hi hj (λ p. lost_out n R i j a b p.1 t) (round_in n R i j a b t))

pub done_moved : {n : ℕ} {R A : Rel} {m : ℕ} → m < 2 ^ 32 → Done n R Everywhere R A m → m ≡ moved_fields n R
done_moved {n} {R} {A} {m} h v = pack_of 32 m (λ f. ltb f n && moves n R f) h (λ f hf. T_ext (bit m f) (ltb f n && moves n R f)
    (λ t. let o = v.only f t in and_i (ltb f n) _ (lt→ltb f n o.0) o.1)
    (λ t.
    let l = ltb→lt f n (and_l (ltb f n) (moves n R f) t) in
    let e = moves_e n R f (and_r (ltb f n) (moves n R f) t) in
    v.marked f e.0 e.1 e.2 l e.3 (tt, e.4)))

pub moved_i : (n : ℕ) (R : Rel) → n ≤ 32 → (i j a b : ℕ) → i < n → j < n → a < readings_most → b < readings_most → T (lost n R i j a b) → T (bit (moved_fields n R) i)
moved_i n R hn i j a b hi hj ha hb s = rw (bit-pack 32 (λ f. ltb f n && moves n R f) i (omega arith)) (and_i (ltb i n) _ (lt→ltb i n hi) (moves_i n R i j a b hj ha hb s))

-- no field has lost a pair exactly when the round changed nothing

pub moved_none : (n : ℕ) (R : Rel) → n ≤ 32 → Narrow n R → moved_fields n R ≡ 0 → Stable n R
moved_none n R hn w e i j a b hi hj = T_ext (round n R i j a b) (R i j a b) (round_in n R i j a b) (λ t. not-lost n R i j a b t (λ s.
    let l = w i j a b hi hj t in
    zero_no i (rw e at (moved_i n R hn i j a b hi hj l.0 l.1 s))))

pub moved_some : (n : ℕ) (R : Rel) → Stable n R → moved_fields n R ≡ 0
moved_some n R s = zero_of 32 (moved_fields n R) (pack-lt 32 (λ f. ltb f n && moves n R f)) (λ f hf t.
    let u = rw (bit-pack 32 (λ g. ltb g n && moves n R g) f hf) at t in
    let l = ltb→lt f n (and_l (ltb f n) (moves n R f) u) in
    let e = moves_e n R f (and_r (ltb f n) (moves n R f) u) in
    lost_out n R f e.0 e.1 e.2 e.4 (rw (s f e.0 e.1 e.2 l e.3) (lost_in n R f e.0 e.1 e.2 e.4)))

-- fields at rest

-- where a round has changed no cell of two fields, the next one changes nothing between them
pub quiet-round : (n : ℕ) (R : Rel) → n ≤ 32 → Narrow n R → Turned n R → Quiet n (round n R) (moved_fields n R)
quiet-round n R hn w turn i j a b hi hj ri rj t =
    let s = lost_in n (round n R) i j a b t in
    lost_out n (round n R) i j a b t (round_i n (round n R) i j a b s (λ k hk.
    let c = composed_e R i k j a b (round-composed n R i j a b s k hk) in
    composed_i (round n R) i k j a b c.0 c.1 (rest i k a c.0 hi hk ri c.2) (rw (round-turned n R turn k j c.0 b hk hj) (rest j k b c.0 hj hk rj (rw (turn k j c.0 b hk hj) at c.3)))))
  where
    rest : (i k a c : ℕ) → i < n → k < n → T (not (bit (moved_fields n R) i)) → T (R i k a c) → T (round n R i k a c)
    rest i k a c hi hk r u = not-lost n R i k a c u (λ l. let s = w i k a c hi hk u in not_e (bit (moved_fields n R) i) r (moved_i n R hn i k a c hi hk s.0 s.1 l))

-- with every field among the bits nothing is said
pub quiet_all : (n : ℕ) (R : Rel) → n ≤ 32 → Quiet n R (2 ^ 32 - 1)
quiet_all n R hn i j a b hi hj ri = absurd (not_e (bit (2 ^ 32 - 1) i) ri (rw (bit-ones 32 i) (lt→ltb i 32 (omega arith))))

-- relations that allow the same lose the same

module _ (n : ℕ) (R S : Rel) (e : Agree n R S) where
  pub agree_lost : Agree n (lost n R) (lost n S)
  unfolding lost
  agree_lost i j a b hi hj = ap₂ (λ x y. x && not y) (e i j a b hi hj) (agree_round n R S e i j a b hi hj)

  pub agree_quiet : (moved : ℕ) → Quiet n R moved → Quiet n S moved
  agree_quiet moved q i j a b hi hj ri rj t = q i j a b hi hj ri rj (rw (agree_lost i j a b hi hj) t)

  pub agree_moved : moved_fields n R ≡ moved_fields n S
  unfolding moves
  agree_moved = pack_same 32 _ _ (λ f hf. elim (lt_or_ge f n) [
    | inl l ↦ ap (λ x. ltb f n && x) (any_same n _ _ (λ j hj. agree_holds n (lost n R) (lost n S) agree_lost f j l hj))
    | inr g ↦ rw (le-ltb f n g)
  ])

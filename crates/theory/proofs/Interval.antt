-- Whole rows of which each two meet have a common reading (document 000, lemma 1), and so in a settled table that is not empty
-- readings that go together leave every field one that goes with them all (document 000, theorem 1).
use Rattle.std.proofs.Common.{sym, subst, inl, inr, le_refl, eq-or-lt_of_le, arith}
use Rattle.std.specs.Prelude.{◌⊎◌, Bool, not, ℕ, zero, suc, ◌≤◌, ◌<◌, T}
use Rattle.theory.specs.Limits.{readings_most}
use Rattle.theory.specs.Bound.{any, first}
use Rattle.theory.specs.BoundLaws.{known, not_e, lt_or_ge, upto, any_i, any_e, first_found}
use Rattle.theory.specs.Relation.{Rel, WellFormed, Settled}
use Rattle.theory.proofs.RelationLaws.{turned, pair_kept, composed_e}
use Rattle.theory.specs.Reading.{kept, empty}
use Rattle.theory.proofs.ReadingLaws.{settled-kept}
use Rattle.theory.specs.Rows.{Whole}

-- no number below k is on
abbrev None : ℕ → (ℕ → Bool) → Type 0
None k on = (e : ℕ) → e < k → T (on e) → ⊥

-- of the numbers below k that are on, m has the greatest f
record Greatest (k : ℕ) (on : ℕ → Bool) (f : ℕ → ℕ) (m : ℕ) : Type 0 where
  below : m < k
  is_on : T (on m)
  most : (e : ℕ) → e < k → T (on e) → f e ≤ f m

greatest : (k : ℕ) (on : ℕ → Bool) (f : ℕ → ℕ) → None k on ⊎ ((m : ℕ) × Greatest k on f m)
greatest zero on f = inl (λ e h t. omega arith)
greatest (suc k) on f = step (known (on k)) (greatest k on f)
  where
    over : (m : ℕ) → m < suc k → T (on m) → (T (on k) → f k ≤ f m) → ((e : ℕ) → e < k → T (on e) → f e ≤ f m) → None (suc k) on ⊎ ((m : ℕ) × Greatest (suc k) on f m)
    over m h t here below = inr (m, record { below = h; is_on = t; most = upto (λ e. T (on e) → f e ≤ f m) here below })

    step : T (on k) ⊎ T (not (on k)) → None k on ⊎ ((m : ℕ) × Greatest k on f m) → None (suc k) on ⊎ ((m : ℕ) × Greatest (suc k) on f m)
    step (inl t) (inl z) = over k (omega arith) t (λ s. le_refl (f k)) (λ e h s. absurd (z e h s))
    step (inl t) (inr g) = elim (lt_or_ge (f g.0) (f k)) [
      | inl l ↦ over k (omega arith) t (λ s. le_refl (f k)) (λ e h s. omega (arith, g.1.most e h s))
      | inr l ↦ over g.0 (omega (arith, g.1.below)) g.1.is_on (λ s. l) g.1.most
    ]
    step (inr d) (inl z) = inl (upto (λ e. T (on e) → ⊥) (not_e (on k) d) z)
    step (inr d) (inr g) = over g.0 (omega (arith, g.1.below)) g.1.is_on (λ s. absurd (not_e (on k) d s)) g.1.most

-- The rows p e, for the e below k that are on, are whole over what stands and lie inside it, and each two have a reading below d in
-- common: then all have one in common. It is the greatest of the rows' least readings. (m is one that is on.)
pub interval_lemma : (k d : ℕ) (on stand : ℕ → Bool) (p : ℕ → ℕ → Bool)
    → ((e : ℕ) → e < k → T (on e) → Whole stand (p e))
    → ((e b : ℕ) → e < k → T (on e) → T (p e b) → T (stand b))
    → ((e e' : ℕ) → e < k → e' < k → T (on e) → T (on e') → (c : ℕ) × (c < d) × T (p e c) × T (p e' c))
    → (m : ℕ) → m < k → T (on m)
    → (c : ℕ) × ((e : ℕ) → e < k → T (on e) → T (p e c))
interval_lemma k d on stand p whole inside meet m h t = pick (greatest k on low)
  where
    low : ℕ → ℕ
    low e = first d (p e)

    between : (e m c : ℕ) → e < k → T (on e) → T (p e (low e)) → T (p e c) → low e ≤ low m → low m ≤ c → T (stand (low m)) → T (p e (low m))
    between e m c he te tl tc ll lc st = elim (eq-or-lt_of_le ll) [
      | inl q ↦ subst (λ (z : ℕ). T (p e z)) q tl
      | inr l ↦ elim (eq-or-lt_of_le lc) [
        | inl q ↦ subst (λ (z : ℕ). T (p e z)) (sym q) tc
        | inr l' ↦ whole e he te (low e) (low m) c l l' tl tc st
      ]
    ]

    pick : None k on ⊎ ((g : ℕ) × Greatest k on low g) → (c : ℕ) × ((e : ℕ) → e < k → T (on e) → T (p e c))
    pick (inl z) = absurd (z m h t)
    pick (inr g) = (
      low g.0,
      λ e he te.
          let c = meet e g.0 he g.1.below te g.1.is_on in
          let mine = first_found d (p e) c.0 c.1 c.2 in
          let its = first_found d (p g.0) c.0 c.1 c.3 in
          between e g.0 c.0 he te mine.1 c.2 (g.1.most e he te) its.0 (inside g.0 (low g.0) g.1.below g.1.is_on its.1),
    )

-- Readings v of the fields that are on, each two allowed, with whole rows to f, leave f a kept reading that goes with all of them.
pub step_lemma : {n : ℕ} {size : ℕ → ℕ} {R : Rel} → WellFormed n size R → Settled n R → T (not (empty n R))
    → (f : ℕ) → f < n
    → (stand : ℕ → Bool) → ((i a b : ℕ) → i < n → T (R i f a b) → T (stand b))
    → (on : ℕ → Bool) (v : ℕ → ℕ)
    → ((i j : ℕ) → i < n → j < n → T (on i) → T (on j) → T (R i j (v i) (v j)))
    → ((g : ℕ) → g < n → T (on g) → Whole stand (R g f (v g)))
    → (b : ℕ) × T (kept R f b) × ((g : ℕ) → g < n → T (on g) → T (R g f (v g) b))
step_lemma {n} {size} {R} w s filled f hf stand inside on v ok whole = elim (known (any n on)) [
  | inl t ↦
      let m = any_e n on t in
      let c = interval_lemma n readings_most on stand (λ g. R g f (v g)) whole (λ g b h u. inside g (v g) b h) meet m.0 m.1 m.2 in
      let k = composed_e R m.0 f f (v m.0) c.0 (s m.0 f f (v m.0) c.0 m.1 hf hf (c.1 m.0 m.1 m.2)) in
      (c.0, pair_kept w f k.0 c.0 hf k.3, c.1)
  | inr d ↦
      let a = settled-kept w s filled f hf in
      (a.0, a.1, λ g h t. absurd (not_e (any n on) d (any_i n on g h t)))
]
  where
    meet : (g g' : ℕ) → g < n → g' < n → T (on g) → T (on g') → (c : ℕ) × (c < readings_most) × T (R g f (v g) c) × T (R g' f (v g') c)
    meet g g' h h' t t' =
        let c = composed_e R g f g' (v g) (v g') (s g f g' (v g) (v g') h hf h' (ok g g' h h' t t')) in
        (c.0, c.1, c.2, turned w f g' c.0 (v g') hf h' c.3)

-- A pair is in the opening table exactly when every GP on its fields admits it and no PR strikes it.
use Rattle.std.specs.Prelude.{◌≡◌, ◌↔◌, ◌⊎◌, ◌&&◌, ◌||◌, ℕ, ◌+◌, leb, eqb}
use Rattle.std.proofs.Math.Path.{refl}
use Rattle.std.proofs.Common.{ap₂, leb→le, le→leb}
use Rattle.std.proofs.Math.Logic.{inl, inr}
use Rattle.std.proofs.Math.Bool.{Bool, not}
use mathlib.Core.List.Memᴰ
use mathlib.Core.List.{List, [], ◌∷◌, map, Memᴰ}
use Rattle.std.proofs.Math.Dec.{T, eqb→eq, eqb_refl}
use Rattle.std.proofs.Math.ListN.{length}
use Rattle.theory.specs.BoundLaws.{and_i, and_l, and_r, or_l, or_r, or_e, not_e, known}
use Rattle.theory.specs.Strike.{nothing, either}
use Rattle.theory.proofs.StrikeLaws.{strike_i, strike_in, strike_out}
use Rattle.table.specs.Strike.{one_pair, pair_and_mirror}
use Rattle.table.specs.StrikeLaws.{pair_here, pair_turn}
use Rattle.scan.specs.Sheet.{Record, field, gap, strike}
use Rattle.sheet.specs.Opening.{day_of, admits, outside, struck_by, struck_by_all, everything, opening}
use Rattle.sheet.specs.OpeningLaws.{size_of_lem, everything_i, everything_e}
use Rattle.sheet.specs.Terms.{Apart, EveryGapAdmits, NoStrike, Pairing}

-- an interval

pub admits_e : (lo hi d e : ℕ) → T (admits lo hi d e) → Apart lo hi d e
unfolding admits
admits_e lo hi d e t = (
  leb→le (d + lo) (e + 32768) (and_l (leb (d + lo) (e + 32768)) (leb (e + 32768) (d + hi)) t),
  leb→le (e + 32768) (d + hi) (and_r (leb (d + lo) (e + 32768)) (leb (e + 32768) (d + hi)) t),
)

pub admits_i : (lo hi d e : ℕ) → Apart lo hi d e → T (admits lo hi d e)
unfolding admits
admits_i lo hi d e h = and_i (leb (d + lo) (e + 32768)) (leb (e + 32768) (d + hi)) (le→leb (d + lo) (e + 32768) h.0) (le→leb (e + 32768) (d + hi) h.1)

module _ (fields : List (List ℕ)) (i j lo hi : ℕ) where
  outside-i : (a b : ℕ) → T (not (admits lo hi (day_of fields i a) (day_of fields j b))) → T (outside fields i j lo hi i j a b)
  unfolding outside
  outside-i a b t = and_i (eqb i i) _ (eqb_refl i) (and_i (eqb j j) _ (eqb_refl j) t)

  outside-e : (k l a b : ℕ) → T (outside fields i j lo hi k l a b) → (k ≡ i) × (l ≡ j) × T (not (admits lo hi (day_of fields k a) (day_of fields l b)))
  unfolding outside
  outside-e k l a b t =
      let x : Bool = not (admits lo hi (day_of fields k a) (day_of fields l b)) in
      let s : T (eqb l j && x) = and_r (eqb k i) (eqb l j && x) t in
      (eqb→eq k i (and_l (eqb k i) (eqb l j && x) t), eqb→eq l j (and_l (eqb l j) x s), and_r (eqb l j) x s)

-- one pair

pair_e : (i j a b k l c d : ℕ) → T (one_pair i j a b k l c d) → (k ≡ i) × (l ≡ j) × (c ≡ a) × (d ≡ b)
unfolding one_pair
pair_e i j a b k l c d t =
    let s = and_r (eqb k i) (eqb l j && (eqb c a && eqb d b)) t in
    let u = and_r (eqb l j) (eqb c a && eqb d b) s in (
      eqb→eq k i (and_l (eqb k i) (eqb l j && (eqb c a && eqb d b)) t),
      eqb→eq l j (and_l (eqb l j) (eqb c a && eqb d b) s),
      eqb→eq c a (and_l (eqb c a) (eqb d b) u),
      eqb→eq d b (and_r (eqb c a) (eqb d b) u),
    )

-- all records

module _ (fields : List (List ℕ)) (i j a b : ℕ) where
  struck-i : (rs : List Record) (r : Record) → Memᴰ r rs → T (struck_by fields r i j a b) → T (struck_by_all fields rs i j a b)
  unfolding struck_by_all either
  struck-i [] r m t = absurd (Memᴰ.not-nil m)
  struck-i (q ∷ rs) r m t = go (Memᴰ.cases_cons m) (λ k. struck-i rs r k t)
    where
      go : (r ≡ q) ⊎ Memᴰ r rs → (Memᴰ r rs → T (struck_by_all fields rs i j a b)) → T (struck_by fields q i j a b || struck_by_all fields rs i j a b)
      go (inl e) f = or_l (struck_by fields q i j a b) _ (rw e at t)
      go (inr k) f = or_r (struck_by fields q i j a b) _ (f k)

  struck-e : (rs : List Record) → T (struck_by_all fields rs i j a b) → (r : Record) × Memᴰ r rs × T (struck_by fields r i j a b)
  unfolding struck_by_all either nothing
  struck-e [] t = absurd t
  struck-e (q ∷ rs) t = go (or_e (struck_by fields q i j a b) (struck_by_all fields rs i j a b) t) (struck-e rs)
    where
      go : T (struck_by fields q i j a b) ⊎ T (struck_by_all fields rs i j a b) → (T (struck_by_all fields rs i j a b) → (r : Record) × Memᴰ r rs × T (struck_by fields r i j a b)) → (r : Record) × Memᴰ r (q ∷ rs) × T (struck_by fields r i j a b)
      go (inl s) f = (q, Memᴰ.head refl, s)
      go (inr s) f = let w = f s in (w.0, Memᴰ.tail w.1, w.2)

  module _ (rs : List Record) where
    -- what is not struck is admitted by every GP
    gaps-admit : (T (struck_by_all fields rs i j a b) → ⊥) → EveryGapAdmits fields rs i j a b
    unfolding struck_by either
    gaps-admit n lo hi = (
      λ m. fine lo hi (day_of fields i a) (day_of fields j b) (λ t. n (struck-i rs (gap i j lo hi) m (or_l (outside fields i j lo hi i j a b) _ (outside-i fields i j lo hi a b t)))),
      λ m. fine lo hi (day_of fields j b) (day_of fields i a) (λ t. n (struck-i rs (gap j i lo hi) m (or_r (outside fields j i lo hi i j a b) _ (outside-i fields j i lo hi b a t)))),
    )
      where
        fine : (lo hi d e : ℕ) → (T (not (admits lo hi d e)) → ⊥) → Apart lo hi d e
        fine lo hi d e f = elim (known (admits lo hi d e)) [ inl t ↦ admits_e lo hi d e t | inr t ↦ absurd (f t) ]

    -- and struck by no PR
    no-strike : (T (struck_by_all fields rs i j a b) → ⊥) → NoStrike rs i j a b
    unfolding struck_by
    no-strike n = (
      λ m. n (struck-i rs (strike i j a b) m (pair_here i j a b)),
      λ m. n (struck-i rs (strike j i b a) m (rw (pair_turn j i b a i j a b) (pair_here j i b a))),
    )

    -- a record that strikes the pair is such a GP or PR
    not-struck : EveryGapAdmits fields rs i j a b → NoStrike rs i j a b → T (struck_by_all fields rs i j a b) → ⊥
    unfolding struck_by either nothing pair_and_mirror
    not-struck g n t = let w = struck-e rs t in go w.0 w.1 w.2
      where
        out : (k l lo hi : ℕ) → Memᴰ (gap k l lo hi) rs → T (outside fields k l lo hi i j a b) ⊎ T (outside fields k l lo hi j i b a) → ⊥
        out k l lo hi m (inl s) =
            let w = outside-e fields k l lo hi i j a b s in
            not_e (admits lo hi (day_of fields i a) (day_of fields j b)) w.2 (admits_i lo hi (day_of fields i a) (day_of fields j b) ((g lo hi).0 (Memᴰ.cast (ap₂ (λ (x y : ℕ). gap x y lo hi) w.0 w.1) m)))
        out k l lo hi m (inr s) =
            let w = outside-e fields k l lo hi j i b a s in
            not_e (admits lo hi (day_of fields j b) (day_of fields i a)) w.2 (admits_i lo hi (day_of fields j b) (day_of fields i a) ((g lo hi).1 (Memᴰ.cast (ap₂ (λ (x y : ℕ). gap x y lo hi) w.0 w.1) m)))

        off : (k l c d : ℕ) → Memᴰ (strike k l c d) rs → T (one_pair k l c d i j a b) ⊎ T (one_pair l k d c i j a b) → ⊥
        off k l c d m (inl s) = let w = pair_e k l c d i j a b s in n.0 (Memᴰ.cast (λ x. strike (w.0 x) (w.1 x) (w.2 x) (w.3 x)) m)
        off k l c d m (inr s) = let w = pair_e l k d c i j a b s in n.1 (Memᴰ.cast (λ x. strike (w.1 x) (w.0 x) (w.3 x) (w.2 x)) m)

        go : (r : Record) → Memᴰ r rs → T (struck_by fields r i j a b) → ⊥
        go (field days) m s = s
        go (gap k l lo hi) m s = out k l lo hi m (or_e (outside fields k l lo hi i j a b) (outside fields k l lo hi j i b a) s)
        go (strike k l c d) m s = off k l c d m (or_e (one_pair k l c d i j a b) (one_pair l k d c i j a b) s)

    -- the opening table

    pub opening_iff : T (opening fields rs i j a b) ↔ (Pairing fields i j a b × EveryGapAdmits fields rs i j a b × NoStrike rs i j a b)
    unfolding opening
    opening_iff = (to, from)
      where
        to : T (opening fields rs i j a b) → Pairing fields i j a b × EveryGapAdmits fields rs i j a b × NoStrike rs i j a b
        to t =
            let e = everything_e (map length fields) i j a b (strike_in (struck_by_all fields rs) (everything (map length fields)) i j a b t) in
            let n = strike_out (struck_by_all fields rs) (everything (map length fields)) i j a b t in
            (record { first = rw (size_of_lem fields i) at e.0; second = rw (size_of_lem fields j) at e.1; same = e.2 }, gaps-admit n, no-strike n)

        from : Pairing fields i j a b × EveryGapAdmits fields rs i j a b × NoStrike rs i j a b → T (opening fields rs i j a b)
        from h =
            strike_i (struck_by_all fields rs) (everything (map length fields)) i j a b
            (everything_i (map length fields) i j a b (rw (size_of_lem fields i) h.0.first) (rw (size_of_lem fields j) h.0.second) h.0.same)
            (not-struck h.1 h.2)

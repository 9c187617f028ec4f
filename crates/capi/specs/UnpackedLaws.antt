-- What was packed is read back, where nothing is cut.
use Rattle.std.specs.Prelude.{◌≡◌, refl, List, [], ◌∷◌, ℕ, ◌/◌, ◌%◌, ◌≤◌, ◌<◌, length, get_or, take}
use Rattle.std.proofs.Common.{ap₂, ◌∙◌, inl, inr, ne_eqb}
use native.Mathlib.Omega.{arith}
use Rattle.refusal.specs.Said.{Said}
use Rattle.capi.specs.Packed.{joined, Parts, parts, packed, wide, packed_said}
use Rattle.capi.specs.Unpacked.{state_in, second_in, values_in, wide_in, counted_in, said_in, Short, Fits}

module _ (k m x y z : ℕ) (hk : k < 256) (hm : m < 256) (hx : x < 65536) (hy : y < 65536) (hz : z < 65536) where
  joined-state : state_in (joined k m x y z) ≡ k
  unfolding joined
  joined-state = omega arith

  joined-second : second_in (joined k m x y z) ≡ m
  unfolding joined
  joined-second = omega arith

  joined-first : joined k m x y z / 65536 % 65536 ≡ x
  unfolding joined
  joined-first = omega arith

  joined-next : joined k m x y z / 4294967296 % 65536 ≡ y
  unfolding joined
  joined-next = omega arith

  joined-last : joined k m x y z / 281474976710656 % 65536 ≡ z
  unfolding joined
  joined-last = omega arith

-- the parts of a packed number

module _ (k : ℕ) (p : Parts) (hk : k < 256) where
  pub packed-state : state_in (packed k p) ≡ k
  packed-state = joined-state k (p.second % 256) (get_or p.values 0 0 % 65536) (get_or p.values 1 0 % 65536) (get_or p.values 2 0 % 65536) hk (omega arith) (omega arith) (omega arith) (omega arith)

  pub packed-second : p.second < 256 → second_in (packed k p) ≡ p.second
  packed-second h = joined-second k (p.second % 256) (get_or p.values 0 0 % 65536) (get_or p.values 1 0 % 65536) (get_or p.values 2 0 % 65536) hk (omega arith) (omega arith) (omega arith) (omega arith) ∙ omega arith

  pub packed-values : Short p.values → values_in (packed k p) ≡ get_or p.values 0 0 ∷ get_or p.values 1 0 ∷ get_or p.values 2 0 ∷ []
  packed-values h = λ i. one i ∷ two i ∷ three i ∷ []
    where
      n : ℕ
      n = packed k p

      one : n / 65536 % 65536 ≡ get_or p.values 0 0
      one = joined-first k (p.second % 256) (get_or p.values 0 0 % 65536) (get_or p.values 1 0 % 65536) (get_or p.values 2 0 % 65536) hk (omega arith) (omega arith) (omega arith) (omega arith) ∙ omega (arith, h.each 0)

      two : n / 4294967296 % 65536 ≡ get_or p.values 1 0
      two = joined-next k (p.second % 256) (get_or p.values 0 0 % 65536) (get_or p.values 1 0 % 65536) (get_or p.values 2 0 % 65536) hk (omega arith) (omega arith) (omega arith) (omega arith) ∙ omega (arith, h.each 1)

      three : n / 281474976710656 % 65536 ≡ get_or p.values 2 0
      three = joined-last k (p.second % 256) (get_or p.values 0 0 % 65536) (get_or p.values 1 0 % 65536) (get_or p.values 2 0 % 65536) hk (omega arith) (omega arith) (omega arith) (omega arith) ∙ omega (arith, h.each 2)

-- a number of 32 bits
pub packed-wide : (m w : ℕ) → w < 4294967296 → wide_in (packed 0 (parts m (wide w))) ≡ w
unfolding joined
packed-wide m w h = omega arith

-- three places hold a short list
spread : (v : List ℕ) → length v ≤ 3 → take (length v) (get_or v 0 0 ∷ get_or v 1 0 ∷ get_or v 2 0 ∷ []) ≡ v
spread [] h = refl
spread (x ∷ []) h = refl
spread (x ∷ y ∷ []) h = refl
spread (x ∷ y ∷ z ∷ []) h = refl
spread (x ∷ y ∷ z ∷ u ∷ v) h = absurd (omega arith)

-- a counted list
pub counted_back : (k : ℕ) (v : List ℕ) → k < 256 → Short v → counted_in (packed k (parts (length v) v)) ≡ v
counted_back k v hk h = ap₂ take (packed-second k (parts (length v) v) hk (omega (arith, h.few))) (packed-values k (parts (length v) v) hk h) ∙ spread v h.few

-- what is said is read back
pub said_back : (f : List ℕ → Parts) (g : ℕ → List ℕ) (P : List ℕ → Type 0) → ((v : List ℕ) → P v → g (packed 0 (f v)) ≡ v) → (s : Said) → Fits P s → said_in g (packed_said f s) ≡ s
said_back f g P back s (inl h) = rw (h.0, packed-state 0 (f s.values) (omega arith), back s.values h.1)
said_back f g P back s (inr h) = rw (ne_eqb s.state 0 (λ z. omega (arith, h.0)), packed-state s.state (parts (length s.values) s.values) h.1, ne_eqb s.state 0 (λ z. omega (arith, h.0)), counted_back s.state s.values h.1 h.2)

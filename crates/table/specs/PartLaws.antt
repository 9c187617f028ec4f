-- A cell lent on by itself and put back: its rows are the new ones, and no other row changes.
use Rattle.std.specs.Prelude.{◌≡◌, ◌⊎◌, List, ◌++◌, ℕ, ◌+◌, ◌-◌, ◌≤◌, ◌<◌, length, take, drop}
use Rattle.std.proofs.Common.{sym, ◌∙◌, inl, inr, arith, length-take-le, get_or-take, get_or-drop, get_or-append-add}
use Rattle.std.proofs.Math.Path.{ap}
use Rattle.std.proofs.Math.ListN.{get_or, get_or-append}
use borrow.Rule.Slice.PartMut.{put_mid, same_len_mid, mid_len}
use Rattle.theory.specs.Limits.{readings_most}
use Rattle.theory.specs.BoundLaws.{lt_or_ge}
use Rattle.table.specs.Layout.{table_length, row_number, row}
use Rattle.table.specs.LayoutLaws.{number_same}
use Rattle.table.specs.Post.{Placed}

-- numbers in the part, and outside it
module _ (at e : ℕ) (t s : List ℕ) (h : at ≤ e) (l : e ≤ length t) (m : length s ≡ e - at) where
  first : length (take at t) ≡ at
  first = length-take-le at t (omega arith)

  pub put_in : (p : ℕ) → p < e - at → get_or (put_mid at (e - at) t s) (at + p) 0 ≡ get_or s p 0
  put_in p g =
      ap (λ (x : ℕ). get_or (put_mid at (e - at) t s) (x + p) 0) (sym first)
      ∙ get_or-append-add (take at t) (s ++ drop (e - at) (drop at t)) p 0
      ∙ get_or-append s (drop (e - at) (drop at t)) 0 p (omega arith)

  pub put-before : (p : ℕ) → p < at → get_or (put_mid at (e - at) t s) p 0 ≡ get_or t p 0
  put-before p g = get_or-append (take at t) (s ++ drop (e - at) (drop at t)) 0 p (omega (arith, first)) ∙ get_or-take at t p 0 g

  after : (p : ℕ) → get_or (put_mid at (e - at) t s) (at + (e - at + p)) 0 ≡ get_or t (at + (e - at + p)) 0
  after p =
      ap (λ (x : ℕ). get_or (put_mid at (e - at) t s) (x + (e - at + p)) 0) (sym first)
      ∙ get_or-append-add (take at t) (s ++ drop (e - at) (drop at t)) (e - at + p) 0
      ∙ ap (λ (x : ℕ). get_or (s ++ drop (e - at) (drop at t)) (x + p) 0) (sym m)
      ∙ get_or-append-add s (drop (e - at) (drop at t)) p 0
      ∙ get_or-drop (e - at) (drop at t) p 0
      ∙ get_or-drop at t (e - at + p) 0

  pub put-after : (p : ℕ) → e ≤ p → get_or (put_mid at (e - at) t s) p 0 ≡ get_or t p 0
  put-after p g = let q : at + (e - at + (p - e)) ≡ p = omega arith in ap (λ (x : ℕ). get_or (put_mid at (e - at) t s) x 0) (sym q) ∙ after (p - e) ∙ ap (λ (x : ℕ). get_or t x 0) q

  pub put-long : length (put_mid at (e - at) t s) ≡ length t
  put-long = same_len_mid at (e - at) t s (m ∙ sym (mid_len at e t l))

-- a cell put back

module _ (n : ℕ) (t : List ℕ) (i j : ℕ) (at : ℕ) (s : List ℕ) (z : length t ≡ table_length n) (hj : j < n) (p : Placed n i j at) (m : length s ≡ at + readings_most - at) where
  end : at + readings_most ≤ length t
  end = omega (arith, p.within, z)

  pub row_there : (a : ℕ) → a < readings_most → row n (put_mid at (at + readings_most - at) t s) i j a ≡ get_or s a 0
  unfolding row
  row_there a h =
      ap (λ (x : ℕ). get_or (put_mid at (at + readings_most - at) t s) (x + a) 0) (sym p.start)
      ∙ put_in at (at + readings_most) t s (omega arith) end m a (omega arith)

  pub row-elsewhere : (k l a : ℕ) → l < n → a < readings_most → ((k ≡ i) × (l ≡ j) → ⊥) → row n (put_mid at (at + readings_most - at) t s) k l a ≡ row n t k l a
  unfolding row
  row-elsewhere k l a hl ha d = go (lt_or_ge (row_number n k l a) at) (lt_or_ge (row_number n k l a) (at + readings_most))
    where
      go : (row_number n k l a < at) ⊎ (at ≤ row_number n k l a) → (row_number n k l a < at + readings_most) ⊎ (at + readings_most ≤ row_number n k l a) → get_or (put_mid at (at + readings_most - at) t s) (row_number n k l a) 0 ≡ get_or t (row_number n k l a) 0
      go (inl g) w = put-before at (at + readings_most) t s (omega arith) end m (row_number n k l a) g
      go (inr g) (inr f) = put-after at (at + readings_most) t s (omega arith) end m (row_number n k l a) f
      go (inr g) (inl f) = absurd (
          let q = row_number n k l a - at in
          let u = number_same n k l a i j q hl ha hj (omega arith) (omega (arith, p.start)) in
          d (u.0, u.1))

-- Texts written one after the other are written as one; where there is room for all of them there is room for each.
use Rattle.std.specs.Prelude.{◌≡◌, refl, List, [], ◌∷◌, ◌++◌, ℕ, zero, suc, ◌+◌, ◌-◌, ◌≤◌, length, set, take, drop}
use Rattle.std.proofs.Common.{sym, ap, subst, ◌∙◌, add-zero, add-suc, suc-add, arith, length-append, take_at}
use Rattle.std.proofs.Math.Nat.{sub-zero, zero-sub, suc-sub-suc}
use Rattle.std.proofs.lemmas.List.Edits.{sets, sets-eq}
use Rattle.std.proofs.Math.Seq.{length-sets}
use Rattle.text.specs.Writing.{Room, Wrote, zeros, Shows}

sets_append : (xs ys l : List ℕ) (i : ℕ) → sets (sets l i xs) (i + length xs) ys ≡ sets l i (xs ++ ys)
sets_append [] ys l i = ap (λ (k : ℕ). sets l k ys) (add-zero i)
sets_append (x ∷ xs) ys l i = ap (λ (k : ℕ). sets (sets (set l i x) (suc i) xs) k ys) (add-suc i (length xs) ∙ sym (suc-add i (length xs))) ∙ sets_append xs ys (set l i x) (suc i)

pub wrote_none : {l : List ℕ} {i : ℕ} → Room l i [] → Wrote l l i i []
wrote_none {i = i} r = record { room = r; holds = refl; ends = sym (add-zero i) }

pub wrote_one : {l : List ℕ} {i b : ℕ} → Room l i (b ∷ []) → Wrote l (set l i b) i (i + 1) (b ∷ [])
wrote_one r = record { room = r; holds = refl; ends = refl }

-- the length stays
pub wrote_length : {l m : List ℕ} {i j : ℕ} {xs : List ℕ} → Wrote l m i j xs → length m ≡ length l
wrote_length {l} {i = i} {xs = xs} w = ap length w.holds ∙ length-sets l i xs

pub wrote_then : {l m o : List ℕ} {i j k : ℕ} {xs ys : List ℕ} → Wrote l m i j xs → Wrote m o j k ys → Wrote l o i k (xs ++ ys)
wrote_then {l} {m} {o} {i} {j} {k} {xs} {ys} v w = record {
  room = record { enough = omega (arith, length-append xs ys, wrote_length v) };
  holds = w.holds ∙ rw (v.holds, v.ends) (sets_append xs ys l i);
  ends = omega (arith, length-append xs ys);
}

pub room-front : {l : List ℕ} {i : ℕ} (xs ys : List ℕ) → Room l i (xs ++ ys) → Room l i xs
room-front xs ys h = record { enough = omega (arith, length-append xs ys) }

pub room_after : {l m : List ℕ} {i j : ℕ} {xs : List ℕ} (ys : List ℕ) → Wrote l m i j xs → Room l i (xs ++ ys) → Room m j ys
room_after {xs = xs} ys w h = record { enough = omega (arith, wrote_length w, length-append xs ys) }

-- what was written stays within

pub wrote_within : {l m : List ℕ} {i j : ℕ} {xs : List ℕ} → Wrote l m i j xs → j ≤ length m
wrote_within w = omega (arith, wrote_length w)

-- what was written at the front can be taken from there
pub wrote_taken : {l m : List ℕ} {j : ℕ} {xs : List ℕ} → Wrote l m 0 j xs → take j m ≡ xs
wrote_taken {l} {m} {j} {xs} w = rw (w.holds, sets-eq xs l 0 w.room.enough) (take_at xs (drop (0 + length xs) l) j (omega arith))

zeros-drop : (k n : ℕ) → drop k (zeros n) ≡ zeros (n - k)
zeros-drop zero n = ap zeros (sym (sub-zero n))
zeros-drop (suc k) zero = ap zeros (sym (zero-sub (suc k)))
zeros-drop (suc k) (suc n) = zeros-drop k n ∙ ap zeros (sym (suc-sub-suc n k))

-- over zeros it stands alone
pub wrote_shows : (n : ℕ) {m : List ℕ} {j : ℕ} {xs : List ℕ} → Wrote (zeros n) m 0 j xs → Shows n xs m j
wrote_shows n {m} {j} {xs} w =
    let left : n - (0 + length xs) ≡ n - length xs = omega arith in
    record {
      holds = w.holds ∙ sets-eq xs (zeros n) 0 w.room.enough ∙ ap (λ (z : List ℕ). xs ++ z) (zeros-drop (0 + length xs) n ∙ ap zeros left);
      counts = omega arith;
    }

-- the same text said in another way

pub wrote_as : {l m : List ℕ} {i j : ℕ} {xs ys : List ℕ} → xs ≡ ys → Wrote l m i j xs → Wrote l m i j ys
wrote_as {l} {m} {i} {j} = subst (Wrote l m i j)

pub room_as : {l : List ℕ} {i : ℕ} {xs ys : List ℕ} → xs ≡ ys → Room l i xs → Room l i ys
room_as {l} {i} = subst (Room l i)

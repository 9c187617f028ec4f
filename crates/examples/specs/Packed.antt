-- Relations of few readings, held in a number so that what a round gives is computed once, and tests over them.
use Rattle.std.specs.Prelude.{Bool, not, ◌&&◌, ◌||◌, ℕ, zero, suc, ◌+◌, ◌*◌, ◌/◌, ◌%◌, ltb}
use Rattle.theory.specs.Bound.{all, any}
use Rattle.theory.specs.Relation.{Rel, round}
use Rattle.theory.specs.Rows.{stands}
use Rattle.theory.specs.Settling.{stable}
use Rattle.theory.specs.Choice.{put}
use Rattle.words.specs.Word.{bit, pack}

-- the pairs of R among n fields of k readings, as the bits of a number
unfoldable pub packed : ℕ → ℕ → Rel → ℕ
packed n k R = pack (n * n * k * k) (λ p. R (p / k / k / n) (p / k / k % n) (p / k % k) (p % k))

-- the relation of such a number
unfoldable pub unpacked : ℕ → ℕ → ℕ → Rel
unpacked n k w i j a b = ltb a k && (ltb b k && bit w (((i * n + j) * k + a) * k + b))

-- w after q rounds
unfoldable pub after : ℕ → ℕ → ℕ → ℕ → ℕ
after n k zero w = w
after n k (suc q) w = packed n k (round n (unpacked n k (after n k q w)))

-- each of r rounds changes something, and a further one does not
unfoldable pub takes : ℕ → ℕ → ℕ → ℕ → Bool
takes n k r w = all r (λ q. not (stable n (unpacked n k (after n k q w)))) && stable n (unpacked n k (after n k r w))

-- the row p is whole, as far as k readings
unfoldable pub whole_in : ℕ → (ℕ → Bool) → (ℕ → Bool) → Bool
whole_in k stand p = all k (λ b2. all b2 (λ b. all b (λ b1. not (p b1 && (p b2 && stand b)) || p b)))

-- row a of cell (i, j) is broken, as far as k readings
unfoldable pub broken_in : ℕ → (ℕ → ℕ) → Rel → ℕ → ℕ → ℕ → Bool
broken_in k size R i j a = not (whole_in k (stands size R j) (R i j a))

-- x is a full reading
unfoldable pub full : ℕ → Rel → (ℕ → ℕ) → Bool
full n R x = all n (λ i. all n (λ j. R i j (x i) (x j)))

-- some full reading is x but for the first m fields
unfoldable pub some_full : ℕ → (ℕ → ℕ) → Rel → ℕ → (ℕ → ℕ) → Bool
some_full n size R zero x = full n R x
some_full n size R (suc m) x = any (size m) (λ a. some_full n size R m (put m a x))

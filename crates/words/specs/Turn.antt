-- A cell of 32 words turned over, in five passes that each exchange one binary digit of the word's number with one of the bit's.
use Rattle.std.specs.Prelude.{◌≡◌, Bool, not, ◌&&◌, List, ℕ, ◌+◌, ◌-◌, ◌*◌, ◌/◌, ◌%◌, ◌<◌, leb, length, get_or}
use Rattle.std.specs.Bool.{xor}
use Rattle.theory.specs.Bound.{all, val}
use Rattle.theory.specs.Limits.{readings_most}
use Rattle.words.specs.Word.{bit, pack}

-- the bits of mask and those k places higher are all bits, each once
unfoldable pub parted : (k mask : ℕ) → Bool
parted k mask = all readings_most (λ c. xor (bit mask c) (leb k c && bit mask (c - k)))

-- the word that bit c of word p comes from in one pass
unfoldable pub from_word : (mask p c : ℕ) → ℕ
from_word mask p c = p / 2 + val (not (bit mask c)) * 16

-- and the bit there
unfoldable pub from_bit : (k mask p c : ℕ) → ℕ
from_bit k mask p c = (c + p % 2 * k) - val (not (bit mask c)) * k

-- out is the cell after the pass with distance k and that mask
pub record Exchanged (k mask : ℕ) (cell out : List ℕ) : Type 0 where
  pub long : length out ≡ readings_most
  pub words : (p : ℕ) → p < readings_most → get_or out p 0 ≡ pack readings_most (λ c. bit (get_or cell (from_word mask p c) 0) (from_bit k mask p c))

-- out is the cell turned over
pub record Turned (cell out : List ℕ) : Type 0 where
  pub long : length out ≡ readings_most
  pub words : (a : ℕ) → a < readings_most → get_or out a 0 ≡ pack readings_most (λ b. bit (get_or cell b 0) a)

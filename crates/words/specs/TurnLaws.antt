-- What a cell turned over is: bit b of word a is bit a of word b, and no other list is one.
use Rattle.std.specs.Prelude.{◌≡◌, List, ℕ, ◌<◌, get_or}
use Rattle.std.proofs.Common.{sym, ap, ◌∙◌, arith, ext_get_or}
use Rattle.theory.specs.Limits.{readings_most}
use Rattle.words.specs.Word.{bit}
use Rattle.words.specs.WordLaws.{bit-pack}
use Rattle.words.specs.Turn.{Turned}

pub turned_bit : {cell out : List ℕ} → Turned cell out → (a b : ℕ) → a < readings_most → b < readings_most → bit (get_or out a 0) b ≡ bit (get_or cell b 0) a
turned_bit {cell} {out} t a b ha hb = ap (λ (w : ℕ). bit w b) (t.words a ha) ∙ bit-pack 32 (λ c. bit (get_or cell c 0) a) b hb

pub turned_is_one : {cell out other : List ℕ} → Turned cell out → Turned cell other → out ≡ other
turned_is_one {cell} {out} {other} t u =
    ext_get_or 0 out other (t.long ∙ sym u.long) (λ a l. t.words a (omega (arith, t.long)) ∙ sym (u.words a (omega (arith, t.long))))

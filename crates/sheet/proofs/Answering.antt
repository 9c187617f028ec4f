-- What the judge pass has let through is written: the answer and the lent buffers.
use mathlib.Core.Path.{◌≡◌, refl, sym, ap, ap₂, ◌∙◌, subst}
use mathlib.Core.Logic.{inl, inr}
use mathlib.Core.List.{List, [], ◌∷◌, ◌++◌, map}
use Prim.Native.Nat.{ℕ, ◌*◌, ◌≤◌}
use native.Mathlib.Omega.{arith}
use native.Mathlib.Nat.{mul-le-mul}
use lib.ListN.{length, take, drop, length-map}
use lib.Seq.{length-take-le}
use Rattle.std.specs.Prelude.{Ok}
use Rattle.refusal.specs.Said.{Said, says}
use Rattle.theory.specs.Limits.{fields_most, readings_most}
use Rattle.calendar.specs.DateText.{separator}
use Rattle.table.specs.Layout.{table_length, words}
use Rattle.table.specs.LayoutLaws.{length-words}
use Rattle.scan.specs.Sheet.{Record, fields_of, Scanned, whole, faulty, scan}
use Rattle.scan.specs.Answer.{scan_says}
use Rattle.sheet.specs.Opening.{words_most, days_of, over, opening, opens, Reads}
use Rattle.sheet.specs.Writing.{records, fields, Judged, Opens}
use Rattle.sheet.specs.BufferLaws.{length-days}
use Rattle.sheet.specs.ReadingLaws.{faulty_number}
use Rattle.sheet.specs.Terms.{records_in}
use Rattle.sheet.proofs.Filling.{fields-good, fields_few}

head : {m n : ℕ} → says 0 (m ∷ []) ≡ says 0 (n ∷ []) → m ≡ n
head {m} {n} e = let f : m ∷ [] ≡ n ∷ [] = ap (λ (x : Said). x.values) e in cc f

pub scan_judged : {sheet : List ℕ} {n : ℕ} → says 0 (n ∷ []) ≡ scan_says (scan separator sheet) → Judged sheet n
scan_judged {sheet} {n} e = go (scan separator sheet) refl
  where
    go : (s : Scanned) → scan separator sheet ≡ s → Judged sheet n
    go (whole rs) w = let same : records sheet ≡ rs = ap records_in w in record { whole = w ∙ ap whole (sym same); count = ap (λ (x : List Record). length (fields_of x)) same ∙ sym (head (e ∙ ap scan_says w)) }
    go (faulty s) w = absurd (let z : 0 ≡ s.state = ap (λ (x : Said). x.state) (e ∙ ap scan_says w) in elim (faulty_number separator sheet s w) [ inl f ↦ omega arith | inr f ↦ omega arith ])

-- the front of a buffer written over
front : (k : ℕ) (new new' old : List ℕ) → new ≡ new' → length new' ≡ k → new ++ drop k old ≡ over new' old
front k new new' old e l = ap₂ (λ (x : List ℕ) (y : ℕ). x ++ drop y old) e (sym l)

module _ {sheet : List ℕ} {n : ℕ} (j : Judged sheet n) where
  pub n_few : n ≤ fields_most
  n_few = omega (arith, (fields-good sheet j.whole).few, j.count)

  count-sizes : length (map length (fields sheet)) ≡ n
  count-sizes = length-map (fields sheet) length ∙ j.count

  pub table_few : table_length n ≤ words_most
  table_few = omega (arith, mul-le-mul n_few n_few)

  -- the parts lent to the write pass are as long as it asks
  pub parts-long : (sizes days table : List ℕ) (t : ℕ) → n ≤ length sizes → n * readings_most ≤ length days → t ≤ length table → t ≡ table_length n → Judged sheet (length (take n sizes)) × (length (take (n * readings_most) days) ≡ length (take n sizes) * readings_most) × (length (take t table) ≡ table_length (length (take n sizes)))
  parts-long sizes days table t f g h e =
      let z : length (take n sizes) ≡ n = length-take-le n sizes f in
      (subst (Judged sheet) (sym z) j, length-take-le (n * readings_most) days g ∙ ap (λ (k : ℕ). k * readings_most) (sym z), length-take-le t table h ∙ e ∙ ap table_length (sym z))

  pub opened : (sizes days table : List ℕ) {z d t : List ℕ} (k : ℕ) → k ≡ table_length n → Opens sheet z d t → Reads (opens (records sheet) sizes days table) (Ok n) (z ++ drop n sizes) (d ++ drop (n * readings_most) days) (t ++ drop k table)
  opened sizes days table {z} {d} {t} k ek o = record {
    answers = ap (λ (x : ℕ). says 0 (x ∷ [])) (sym j.count);
    leaves_sizes = front n z (map length (fields sheet)) sizes o.written.of_sizes count-sizes;
    leaves_days = front (n * readings_most) d (days_of (fields sheet)) days o.written.of_days (omega (arith, length-days (fields sheet) (fields_few sheet j.whole), j.count));
    leaves_table =
        front k t (words (length (fields sheet)) (opening (fields sheet) (records sheet))) table
        (o.table ∙ ap (λ (x : ℕ). words x (opening (fields sheet) (records sheet))) (ap length o.written.of_sizes ∙ length-map (fields sheet) length))
        (length-words (length (fields sheet)) (opening (fields sheet) (records sheet)) ∙ ap table_length j.count ∙ sym ek);
  }

-- What an answer of reading tells: which checks passed, and what the lent buffers hold.
use Rattle.std.specs.Prelude.{◌≡◌, refl, ◌↔◌, ◌⊎◌, Bool, true, false, ◌&&◌, List, [], ◌∷◌, ◌++◌, map, ℕ, zero, suc, ◌≤◌, ◌<◌, get_or, take, Ok}
use Rattle.std.proofs.Common.{sym, ap, ◌∙◌, true≢false, arith}
use Rattle.std.proofs.Math.Logic.{inl, inr}
use Rattle.std.proofs.Math.Dec.{leb}
use Rattle.std.proofs.Math.ListN.{length}
use Rattle.std.proofs.lemmas.List.{length-map}
use borrow.Author.Tests.{leb-true, leb-false, le-leb}
use Rattle.theory.specs.Limits.{fields_most}
use Rattle.theory.specs.BoundLaws.{lt_or_ge}
use Rattle.refusal.specs.Said.{Said, says}
use Rattle.table.specs.Layout.{table_length, words}
use Rattle.table.specs.LayoutLaws.{length-words}
use Rattle.scan.specs.Answer.{scan_says}
use Rattle.scan.specs.Sheet.{Record, told, Step, more, done, stop, step_at, Scanned, whole, faulty, onward, scan_from, scan}
use Rattle.scan.specs.SheetLaws.{step_number}
use Rattle.sheet.specs.BufferLaws.{over_front}
use Rattle.sheet.specs.Terms.{LongEnough, TooShort, records_in, records_of, fields_in}
use Rattle.sheet.specs.Opening.{opening, sheet_most, days_most, words_most, over, Outcome, refuses, opens, after_scan, lent, reading, Reads}

-- the scan

-- a fault's number is 1 or comes after 14
faulty_from : (sep : ℕ → Bool) (k : ℕ) (s : List ℕ) (rs : List Record) (at : ℕ) (q : Said) → scan_from sep k s rs at ≡ faulty q → (q.state ≡ 1) ⊎ (15 ≤ q.state)
unfolding scan_from
faulty_from sep zero s rs at q e = let g : says 15 (at ∷ []) ≡ q = cc e in rw (← g) (inr (omega arith))
faulty_from sep (suc k) s rs at q e = go (step_at sep (told rs) s at) refl e (λ r n. faulty_from sep k s (rs ++ r ∷ []) n q)
  where
    go : (x : Step) → step_at sep (told rs) s at ≡ x → onward rs (λ r n. scan_from sep k s (rs ++ r ∷ []) n) x ≡ faulty q → ((r : Record) (n : ℕ) → scan_from sep k s (rs ++ r ∷ []) n ≡ faulty q → (q.state ≡ 1) ⊎ (15 ≤ q.state)) → (q.state ≡ 1) ⊎ (15 ≤ q.state)
    go (more r n) d f g = g r n f
    go done d f g = absurd (cc f)
    go (stop p) d f g = let h : p ≡ q = cc f in rw (← h) (step_number sep (told rs) s at p d)

pub faulty_number : (sep : ℕ → Bool) (s : List ℕ) (q : Said) → scan sep s ≡ faulty q → (q.state ≡ 1) ⊎ (15 ≤ q.state)
unfolding scan
faulty_number sep s q = faulty_from sep (suc (length s)) s [] 0 q

-- so it is no other number
fault-not : (sep : ℕ → Bool) (s : List ℕ) (q : Said) → scan sep s ≡ faulty q → (k : ℕ) → k < 15 → (k ≡ 1 → ⊥) → q.state ≡ k → ⊥
fault-not sep s q e k h n d = elim (faulty_number sep s q e) [ inl f ↦ n (sym d ∙ f) | inr f ↦ omega arith ]

-- the buffers

module _ (sizes days table : List ℕ) where
  both : (a b : Bool) → (a && b) ≡ true → (a ≡ true) × (b ≡ true)
  both true b e = (refl, e)
  both false b e = absurd (true≢false (sym e))

  pub lent-long : lent sizes days table ≡ true → LongEnough sizes days table
  unfolding lent
  lent-long e =
      let f = both (leb fields_most (length sizes)) (leb days_most (length days) && leb words_most (length table)) e in
      let g = both (leb days_most (length days)) (leb words_most (length table)) f.1 in
      record {
        enough_sizes = leb-true fields_most (length sizes) f.0;
        enough_days = leb-true days_most (length days) g.0;
        enough_words = leb-true words_most (length table) g.1;
      }

  pub lent-short : lent sizes days table ≡ false → TooShort sizes days table
  unfolding lent
  lent-short e = go (lt_or_ge (length sizes) fields_most) (lt_or_ge (length days) days_most) (lt_or_ge (length table) words_most)
    where
      go : (length sizes < fields_most) ⊎ (fields_most ≤ length sizes) → (length days < days_most) ⊎ (days_most ≤ length days) → (length table < words_most) ⊎ (words_most ≤ length table) → TooShort sizes days table
      go (inl h) _ _ = inl h
      go (inr _) (inl h) _ = inr (inl h)
      go (inr _) (inr _) (inl h) = inr (inr h)
      go (inr f) (inr g) (inr h) = absurd (true≢false (sym (rw (le-leb fields_most (length sizes) f, le-leb days_most (length days) g, le-leb words_most (length table) h)) ∙ e))

  pub not-both : LongEnough sizes days table → TooShort sizes days table → ⊥
  not-both l (inl h) = omega (arith, l.enough_sizes)
  not-both l (inr (inl h)) = omega (arith, l.enough_days)
  not-both l (inr (inr h)) = omega (arith, l.enough_words)

-- reading

module _ (sep : ℕ → Bool) (sheet sizes days table : List ℕ) where
  -- 13 and 14 pass, and the records are rs
  pub record Whole (rs : List Record) : Type 0 where
    pub long : LongEnough sizes days table
    pub short : length sheet ≤ sheet_most
    pub scanned : scan sep sheet ≡ whole rs

  pub reading_13 : lent sizes days table ≡ false → reading sep sheet sizes days table ≡ refuses (says 13 []) sizes days table
  unfolding reading
  reading_13 e = rw e

  pub reading_14 : lent sizes days table ≡ true → leb (length sheet) sheet_most ≡ false → reading sep sheet sizes days table ≡ refuses (says 14 []) sizes days table
  unfolding reading
  reading_14 e f = rw (e, f)

  pub reading-scan : lent sizes days table ≡ true → leb (length sheet) sheet_most ≡ true → reading sep sheet sizes days table ≡ after_scan (scan sep sheet) sizes days table
  unfolding reading
  reading-scan e f = rw (e, f)

  -- how a reading ends: what it says and leaves, by the first check that fails
  pub data Ends : Outcome → Type 0 where
    short : lent sizes days table ≡ false → Ends (refuses (says 13 []) sizes days table)
    long : lent sizes days table ≡ true → leb (length sheet) sheet_most ≡ false → Ends (refuses (says 14 []) sizes days table)
    fault : lent sizes days table ≡ true → leb (length sheet) sheet_most ≡ true → (q : Said) → scan sep sheet ≡ faulty q → Ends (refuses q sizes days table)
    opened : (rs : List Record) → Whole rs → Ends (opens rs sizes days table)

  pub reading_ends : Ends (reading sep sheet sizes days table)
  reading_ends = first (lent sizes days table) refl
    where
      third : lent sizes days table ≡ true → leb (length sheet) sheet_most ≡ true → (x : Scanned) → scan sep sheet ≡ x → Ends (reading sep sheet sizes days table)
      third e f (whole rs) g = rw (reading-scan e f ∙ ap (λ (x : Scanned). after_scan x sizes days table) g) (opened rs (record { long = lent-long sizes days table e; short = leb-true (length sheet) sheet_most f; scanned = g }))
      third e f (faulty q) g = rw (reading-scan e f ∙ ap (λ (x : Scanned). after_scan x sizes days table) g) (fault e f q g)

      second : lent sizes days table ≡ true → (b : Bool) → leb (length sheet) sheet_most ≡ b → Ends (reading sep sheet sizes days table)
      second e true f = third e f (scan sep sheet) refl
      second e false f = rw (reading_14 e f) (long e f)

      first : (b : Bool) → lent sizes days table ≡ b → Ends (reading sep sheet sizes days table)
      first true e = second e (leb (length sheet) sheet_most) refl
      first false e = rw (reading_13 e) (short e)

  -- 13 and 14 exactly when they should be, else what the scan says
  pub ends_13 : (o : Outcome) → Ends o → (o.said ≡ says 13 []) ↔ TooShort sizes days table
  ends_13 o (short e) = (λ d. lent-short sizes days table e, λ h. refl)
  ends_13 o (long e f) = (λ d. absurd (omega (arith, ap (λ (s : Said). s.state) d)), λ h. absurd (not-both sizes days table (lent-long sizes days table e) h))
  ends_13 o (fault e f q g) = (λ d. absurd (fault-not sep sheet q g 13 (omega arith) (λ x. omega arith) (ap (λ (s : Said). s.state) d)), λ h. absurd (not-both sizes days table (lent-long sizes days table e) h))
  ends_13 o (opened rs w) = (λ d. absurd (omega (arith, ap (λ (s : Said). s.state) d)), λ h. absurd (not-both sizes days table w.long h))

  pub ends_14 : (o : Outcome) → Ends o → (o.said ≡ says 14 []) ↔ (LongEnough sizes days table × (sheet_most < length sheet))
  ends_14 o (short e) = (λ d. absurd (omega (arith, ap (λ (s : Said). s.state) d)), λ h. absurd (not-both sizes days table h.0 (lent-short sizes days table e)))
  ends_14 o (long e f) = (λ d. (lent-long sizes days table e, leb-false (length sheet) sheet_most f), λ h. refl)
  ends_14 o (fault e f q g) = (λ d. absurd (fault-not sep sheet q g 14 (omega arith) (λ x. omega arith) (ap (λ (s : Said). s.state) d)), λ h. absurd (omega (arith, h.1, leb-true (length sheet) sheet_most f)))
  ends_14 o (opened rs w) = (λ d. absurd (omega (arith, ap (λ (s : Said). s.state) d)), λ h. absurd (omega (arith, h.1, w.short)))

  pub ends_scanned : (o : Outcome) → Ends o → LongEnough sizes days table → length sheet ≤ sheet_most → o.said ≡ scan_says (scan sep sheet)
  ends_scanned o (short e) l h = absurd (not-both sizes days table l (lent-short sizes days table e))
  ends_scanned o (long e f) l h = absurd (omega (arith, leb-false (length sheet) sheet_most f))
  ends_scanned o (fault e f q g) l h = sym (ap scan_says g)
  ends_scanned o (opened rs w) l h = sym (ap scan_says w.scanned)

  -- a refusal writes nothing
  pub ends_refused : (o : Outcome) → Ends o → (1 ≤ o.said.state) → (o.sizes ≡ sizes) × (o.days ≡ days) × (o.table ≡ table)
  ends_refused o (short e) h = (refl, refl, refl)
  ends_refused o (long e f) h = (refl, refl, refl)
  ends_refused o (fault e f q g) h = (refl, refl, refl)
  ends_refused o (opened rs w) h = absurd (omega arith)

  -- a whole sheet opens
  pub reading-whole : (rs : List Record) → Whole rs → reading sep sheet sizes days table ≡ opens rs sizes days table
  reading-whole rs w = reading-scan (holds (lent sizes days table) refl) (le-leb (length sheet) sheet_most w.short) ∙ ap (λ (x : Scanned). after_scan x sizes days table) w.scanned
    where
      holds : (b : Bool) → lent sizes days table ≡ b → lent sizes days table ≡ true
      holds true e = e
      holds false e = absurd (not-both sizes days table w.long (lent-short sizes days table e))

  -- a sheet that is answered with n fields is whole, and has so many
  pub record OpenedAs (n : ℕ) : Type 0 where
    pub whole : Whole (records_of sep sheet)
    pub count : n ≡ length (fields_in sep sheet)

  ends-opened : (o : Outcome) → Ends o → (n : ℕ) → says 0 (n ∷ []) ≡ o.said → OpenedAs n
  ends-opened o (short e) n d = absurd (omega (arith, ap (λ (s : Said). s.state) d))
  ends-opened o (long e f) n d = absurd (omega (arith, ap (λ (s : Said). s.state) d))
  ends-opened o (fault e f q g) n d = absurd (fault-not sep sheet q g 0 (omega arith) (λ x. omega arith) (sym (ap (λ (s : Said). s.state) d)))
  ends-opened o (opened rs w) n d =
      let e : records_of sep sheet ≡ rs = ap records_in w.scanned in
      record { whole = rw e w; count = rw e (ap (λ (s : Said). get_or s.values 0 0) d) }

  module _ {n : ℕ} {s d t : List ℕ} (r : Reads (reading sep sheet sizes days table) (Ok n) s d t) where
    pub reads_opened : OpenedAs n
    reads_opened = ends-opened (reading sep sheet sizes days table) reading_ends n r.answers

    -- and what it leaves
    pub reads_leaves : Reads (opens (records_of sep sheet) sizes days table) (Ok n) s d t
    reads_leaves = rw (reading-whole (records_of sep sheet) reads_opened.whole) at r

    pub opened-sizes : take n s ≡ map length (fields_in sep sheet)
    opened-sizes = ap (take n) reads_leaves.leaves_sizes ∙ over_front n (map length (fields_in sep sheet)) sizes (length-map (fields_in sep sheet) length ∙ sym reads_opened.count)

    pub opened-table : take (table_length n) t ≡ words n (opening (fields_in sep sheet) (records_of sep sheet))
    opened-table =
        let R = opening (fields_in sep sheet) (records_of sep sheet) in
        ap (take (table_length n)) (reads_leaves.leaves_table ∙ ap (λ (m : ℕ). over (words m R) table) (sym reads_opened.count))
        ∙ over_front (table_length n) (words n R) table (length-words n R)

-- No value that reading a sheet can give is cut: an offset lies in the sheet, which has at most 4,096 bytes.
use Rattle.std.specs.Prelude.{◌≡◌, refl, Bool, cond, not, ◌&&◌, ℕ, zero, suc, ◌+◌, ◌*◌, ◌≤◌, ◌<◌, T, eqb, ltb, length, drop}
use Rattle.std.proofs.Common.{subst, inl, inr, arith, leb→le}
use Rattle.std.proofs.Math.Bool.{true, false}
use mathlib.Core.List.{List, [], ◌∷◌, ◌++◌}
use Rattle.std.proofs.Math.Dec.{leb, eqb-suc-zero}
use Rattle.std.proofs.Math.ListN.{take}
use Rattle.theory.specs.Limits.{fields_most, readings_most}
use Rattle.refusal.specs.Said.{Said, says}
use Rattle.calendar.specs.Ascending.{ascending}
use Rattle.calendar.specs.DateText.{date_length, short_length, means}
use Rattle.calendar.specs.DateAnswers.{date_says}
use Rattle.table.specs.Layout.{tabulate}
use Rattle.scan.specs.declared.mark.Mark.{Mark}
use Rattle.scan.specs.declared.mark.Mark.TheVariants.{Date, Short, Days, Gap, Strike, End, Unknown}
use Rattle.scan.specs.Answer.{scan_says}
use Rattle.scan.specs.Sheet.{byte_at, number_at, raised, Record, field, gap, strike, fields_of, Told, told, Step, more, done, stop, check, adds, early, date_at, days_at, gap_right, gap_at, strike_right, strike_at, end_at, mark_of, by_mark, step_at, Scanned, whole, faulty, onward, scan_from, scan}
use Rattle.scan.specs.SheetLaws.{step_forward}
use Rattle.scan.specs.WholeLaws.{whole-good}
use Rattle.sheet.specs.Opening.{sheet_most, lent, after_scan, refuses, reading}
use Rattle.capi.specs.Unpacked.{Fits}
use Rattle.capi.specs.FitLaws.{none_short, one_short, fits_refusal, OfOne, OfCount, date-fits}

-- a step's refusal fits
abbrev StopFits : Step → Type 0
StopFits x = (q : Said) → x ≡ stop q → Fits OfOne q

fits_more : (r : Record) (n : ℕ) → StopFits (more r n)
fits_more r n q e = absurd (let z : ◌≡◌ {A = ℕ} 0 1 = cc e in omega arith)

fits-done : StopFits done
fits-done q e = absurd (let z : ◌≡◌ {A = ℕ} 0 1 = cc e in omega arith)

fits_said : (p : Said) → Fits OfOne p → StopFits (stop p)
fits_said p h q e = let g : p ≡ q = cc e in subst (Fits OfOne) g h

module _ (sep : ℕ → Bool) (t : Told) (s : List ℕ) (at : ℕ) (h : at < 65536) where
  fits-stop : (k : ℕ) → 1 ≤ k → k < 256 → Fits OfOne (says k (at ∷ []))
  fits-stop k a b = fits_refusal OfOne k (at ∷ []) a b (one_short h)

  fits-check : (b : Bool) (k : ℕ) (x : Step) → 1 ≤ k → k < 256 → StopFits x → StopFits (check b k at x)
  fits-check true k x a b f = f
  fits-check false k x a b f = fits_said (says k (at ∷ [])) (fits-stop k a b)

  fits-text : (k : ℕ) (r : Record) (n : ℕ) → k < 256 → StopFits (cond (eqb k 0) (more r n) (stop (says k (at ∷ []))))
  fits-text zero r n b = fits_more r n
  fits-text (suc k) r n b = rw (eqb-suc-zero k) (fits_said (says (suc k) (at ∷ [])) (fits-stop (suc k) (omega arith) b))

  fits-date : (size : ℕ) → StopFits (date_at sep size s at)
  unfolding date_at
  fits-date size =
      let text = take size (drop (at + 2) s) in
      fits-check (leb (at + 2 + size) (length s)) 15 _ (omega arith) (omega arith)
      (fits-text (date_says sep text).state (field (means sep text)) (at + 2 + size) (state-small (date_says sep text) (date-fits sep text)))
    where
      state-small : (p : Said) → Fits OfCount p → p.state < 256
      state-small p (inl e) = omega (arith, e.0)
      state-small p (inr e) = e.1

  fits-days : StopFits (days_at s at)
  unfolding days_at
  fits-days =
      let k = byte_at s (at + 2) in
      let l = tabulate k (λ p. number_at s (at + 3 + 2 * p)) in
      fits-check (leb (at + 3) (length s)) 15 _ (omega arith) (omega arith)
      (fits-check (leb 1 k && leb k readings_most) 21 _ (omega arith) (omega arith)
      (fits-check (leb (at + 3 + 2 * k) (length s)) 15 _ (omega arith) (omega arith)
      (fits-check (ascending l && early l) 21 _ (omega arith) (omega arith)
      (fits_more (field l) (at + 3 + 2 * k)))))

  fits-gap : StopFits (gap_at t.sizes s at)
  unfolding gap_at
  fits-gap =
      let i = byte_at s (at + 2) in
      let j = byte_at s (at + 3) in
      let lo = raised (number_at s (at + 4)) in
      let hi = raised (number_at s (at + 6)) in
      fits-check (leb (at + 8) (length s)) 15 _ (omega arith) (omega arith)
      (fits-check (gap_right t.sizes i j lo hi) 22 _ (omega arith) (omega arith)
      (fits_more (gap i j lo hi) (at + 8)))

  fits-strike : StopFits (strike_at t.sizes s at)
  unfolding strike_at
  fits-strike =
      let i = byte_at s (at + 2) in
      let j = byte_at s (at + 3) in
      let a = byte_at s (at + 4) in
      let b = byte_at s (at + 5) in
      fits-check (leb (at + 6) (length s)) 15 _ (omega arith) (omega arith)
      (fits-check (strike_right t.sizes i j a b) 22 _ (omega arith) (omega arith)
      (fits_more (strike i j a b) (at + 6)))

  fits-end : StopFits (end_at t.sizes s at)
  unfolding end_at
  fits-end = go (ltb 0 (length t.sizes))
    where
      go : (b : Bool) → StopFits (cond b (check (eqb (length s) (at + 2)) 23 at done) (stop (says 1 [])))
      go true = fits-check (eqb (length s) (at + 2)) 23 done (omega arith) (omega arith) fits-done
      go false = fits_said (says 1 []) (fits_refusal OfOne 1 [] (omega arith) (omega arith) none_short)

  fits-added : (x : Step) → StopFits x → StopFits (adds t at x)
  fits-added x f =
      fits-check (not t.late) 17 _ (omega arith) (omega arith)
      (fits-check (ltb (length t.sizes) fields_most) 18 x (omega arith) (omega arith) f)

  fits-mark : (m : Mark) → StopFits (by_mark sep m t s at)
  fits-mark Date = fits-added (date_at sep date_length s at) (fits-date date_length)
  fits-mark Short = fits-added (date_at sep short_length s at) (fits-date short_length)
  fits-mark Days = fits-added (days_at s at) fits-days
  fits-mark Gap = fits-gap
  fits-mark Strike = fits-strike
  fits-mark End = fits-end
  fits-mark Unknown = fits_said (says 16 (at ∷ [])) (fits-stop 16 (omega arith) (omega arith))

  fits-step : StopFits (step_at sep t s at)
  unfolding step_at
  fits-step = fits-check (leb (at + 2) (length s)) 15 _ (omega arith) (omega arith) (fits-mark (mark_of (number_at s at)))

-- the refusal of a scan fits
abbrev FaultFits : Scanned → Type 0
FaultFits (whole rs) = T true
FaultFits (faulty q) = Fits OfOne q

fault_from : (sep : ℕ → Bool) (k : ℕ) (s : List ℕ) (rs : List Record) (at : ℕ) → length s < 65536 → at ≤ length s → FaultFits (scan_from sep k s rs at)
unfolding scan_from
fault_from sep zero s rs at f h = fits-stop sep (told rs) s at (omega arith) 15 (omega arith) (omega arith)
fault_from sep (suc k) s rs at f h = go (step_at sep (told rs) s at) refl (fits-step sep (told rs) s at (omega arith)) (λ r n. fault_from sep k s (rs ++ r ∷ []) n f)
  where
    go : (x : Step) → step_at sep (told rs) s at ≡ x → StopFits x → ((r : Record) (n : ℕ) → n ≤ length s → FaultFits (scan_from sep k s (rs ++ r ∷ []) n)) → FaultFits (onward rs (λ r next. scan_from sep k s (rs ++ r ∷ []) next) x)
    go (more r n) e g on = on r n (step_forward sep (told rs) s at r n e).1
    go done e g on = tt
    go (stop q) e g on = g q refl

-- what a scan says fits
pub scan-fits : (sep : ℕ → Bool) (s : List ℕ) → length s < 65536 → Fits OfOne (scan_says (scan sep s))
unfolding scan
scan-fits sep s f = go (scan sep s) refl (fault_from sep (suc (length s)) s [] 0 f (omega arith))
  where
    go : (x : Scanned) → scan sep s ≡ x → FaultFits x → Fits OfOne (scan_says x)
    go (whole rs) e g = inl (refl, (length (fields_of rs), refl, omega (arith, (whole-good sep s rs e).few)))
    go (faulty q) e g = g

pub opened-fits : (sep : ℕ → Bool) (sheet sizes days table : List ℕ) → Fits OfOne (reading sep sheet sizes days table).said
unfolding reading
opened-fits sep sheet sizes days table = go (lent sizes days table) (leb (length sheet) sheet_most) (leb→le (length sheet) sheet_most)
  where
    said : (x : Scanned) → Fits OfOne (scan_says x) → Fits OfOne (after_scan x sizes days table).said
    said (whole rs) f = f
    said (faulty q) f = f

    go : (a b : Bool) → (T b → length sheet ≤ sheet_most) → Fits OfOne (cond a (cond b (after_scan (scan sep sheet) sizes days table) (refuses (says 14 []) sizes days table)) (refuses (says 13 []) sizes days table)).said
    go true true h = said (scan sep sheet) (scan-fits sep sheet (omega (arith, h tt)))
    go true false h = fits_refusal OfOne 14 [] (omega arith) (omega arith) none_short
    go false b h = fits_refusal OfOne 13 [] (omega arith) (omega arith) none_short

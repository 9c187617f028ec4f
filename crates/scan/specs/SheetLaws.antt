-- What stands at an offset, by inversion; the scan step by step, without counting; the records before an offset.
use Rattle.std.specs.Prelude.{◌≡◌, ◌⊎◌, Bool, not, ◌&&◌, List, [], ◌∷◌, ◌++◌, ltb, eqb, drop}
use Rattle.std.proofs.Math.Path.{refl, ap}
use Rattle.std.proofs.Common.{sym, ◌∙◌, inr, ltb-true, leb-true, eq-eqb, ne_eqb}
use Rattle.std.proofs.Math.Logic.{inl}
use Rattle.std.proofs.Math.Bool.{true, false, cond}
use Prim.Native.Nat.{ℕ, zero, suc, ◌+◌, ◌-◌, ◌*◌, ◌≤◌, ◌<◌}
use native.Mathlib.Omega.{arith}
use Rattle.std.proofs.Math.Dec.{leb, eqb-suc-zero}
use Rattle.std.proofs.Math.ListN.{length, take}
use Rattle.std.proofs.lemmas.Bool.{not-true}
use Rattle.refusal.specs.Said.{Said, says}
use Rattle.theory.specs.Limits.{fields_most, readings_most}
use Rattle.calendar.specs.Ascending.{ascending}
use Rattle.calendar.specs.DateText.{date_length, short_length, shaped_date, means}
use Rattle.calendar.specs.DateAnswers.{days_say, date_says}
use Rattle.table.specs.Layout.{tabulate}
use Rattle.scan.specs.declared.mark.Mark.{Mark}
use Rattle.scan.specs.declared.mark.Mark.TheVariants.{Date, Short, Days, Gap, Strike, End, Unknown}
use Rattle.scan.specs.Sheet.{byte_at, number_at, raised, Record, field, gap, strike, Told, told, Step, more, done, stop, check, adds, early, date_at, days_at, gap_right, gap_at, strike_right, strike_at, end_at, mark_of, by_mark, step_at, Scanned, whole, faulty, onward, scan_from, scan, beyond, before_from, before, step_of}

-- checks

-- what comes after a check that let a record or the end pass
pub check_more : (b : Bool) (k at : ℕ) (s : Step) (r : Record) (n : ℕ) → check b k at s ≡ more r n → (b ≡ true) × (s ≡ more r n)
check_more true k at s r n e = (refl, e)
check_more false k at s r n e = absurd (cc)

pub check_done : (b : Bool) (k at : ℕ) (s : Step) → check b k at s ≡ done → (b ≡ true) × (s ≡ done)
check_done true k at s e = (refl, e)
check_done false k at s e = absurd (cc)

-- what a record that stands is, and what lets it stand

pub record DateStands (sep : ℕ → Bool) (size : ℕ) (s : List ℕ) (at : ℕ) (r : Record) (n : ℕ) : Type 0 where
  pub fits : at + 2 + size ≤ length s
  pub shown : (date_says sep (take size (drop (at + 2) s))).state ≡ 0
  pub is : r ≡ field (means sep (take size (drop (at + 2) s)))
  pub next : n ≡ at + 2 + size

pub date-stands : (sep : ℕ → Bool) (size : ℕ) (s : List ℕ) (at : ℕ) (r : Record) (n : ℕ) → date_at sep size s at ≡ more r n → DateStands sep size s at r n
unfolding date_at
date-stands sep size s at r n e =
    let c = check_more (leb (at + 2 + size) (length s)) 15 at _ r n e in
    let d = go (date_says sep (take size (drop (at + 2) s))).state c.1 in
    record { fits = leb-true (at + 2 + size) (length s) c.0; shown = d.0; is = d.1; next = d.2 }
  where
    go : (k : ℕ) → cond (eqb k 0) (more (field (means sep (take size (drop (at + 2) s)))) (at + 2 + size)) (stop (says k (at ∷ []))) ≡ more r n → (k ≡ 0) × (r ≡ field (means sep (take size (drop (at + 2) s)))) × (n ≡ at + 2 + size)
    go zero f = (refl, cc, cc)
    go (suc k) f = let g = rw (eqb-suc-zero k) at f in absurd (cc)

pub record DaysStand (s : List ℕ) (at : ℕ) (r : Record) (n : ℕ) : Type 0 where
  pub some : 1 ≤ byte_at s (at + 2)
  pub few : byte_at s (at + 2) ≤ readings_most
  pub fits : at + 3 + 2 * byte_at s (at + 2) ≤ length s
  pub rise : ascending (tabulate (byte_at s (at + 2)) (λ k. number_at s (at + 3 + 2 * k))) ≡ true
  pub in_time : early (tabulate (byte_at s (at + 2)) (λ k. number_at s (at + 3 + 2 * k))) ≡ true
  pub is : r ≡ field (tabulate (byte_at s (at + 2)) (λ k. number_at s (at + 3 + 2 * k)))
  pub next : n ≡ at + 3 + 2 * byte_at s (at + 2)

both : (a b : Bool) → (a && b) ≡ true → (a ≡ true) × (b ≡ true)
both true b e = (refl, e)
both false b e = absurd (cc)

pub days_stand : (s : List ℕ) (at : ℕ) (r : Record) (n : ℕ) → days_at s at ≡ more r n → DaysStand s at r n
unfolding days_at
days_stand s at r n e =
    let c = check_more (leb (at + 3) (length s)) 15 at _ r n e in
    let d = check_more (leb 1 (byte_at s (at + 2)) && leb (byte_at s (at + 2)) readings_most) 21 at _ r n c.1 in
    let f = check_more (leb (at + 3 + 2 * byte_at s (at + 2)) (length s)) 15 at _ r n d.1 in
    let l = tabulate (byte_at s (at + 2)) (λ k. number_at s (at + 3 + 2 * k)) in
    let g = check_more (ascending l && early l) 21 at _ r n f.1 in
    let h = both (leb 1 (byte_at s (at + 2))) (leb (byte_at s (at + 2)) readings_most) d.0 in
    let i = both (ascending l) (early l) g.0 in
    let m = g.1 in
    record {
      some = leb-true 1 (byte_at s (at + 2)) h.0;
      few = leb-true (byte_at s (at + 2)) readings_most h.1;
      fits = leb-true (at + 3 + 2 * byte_at s (at + 2)) (length s) f.0;
      rise = i.0;
      in_time = i.1;
      is = cc m;
      next = cc m;
    }

pub record GapStands (z s : List ℕ) (at : ℕ) (r : Record) (n : ℕ) : Type 0 where
  pub fits : at + 8 ≤ length s
  pub right : gap_right z (byte_at s (at + 2)) (byte_at s (at + 3)) (raised (number_at s (at + 4))) (raised (number_at s (at + 6))) ≡ true
  pub is : r ≡ gap (byte_at s (at + 2)) (byte_at s (at + 3)) (raised (number_at s (at + 4))) (raised (number_at s (at + 6)))
  pub next : n ≡ at + 8

pub gap_stands : (z s : List ℕ) (at : ℕ) (r : Record) (n : ℕ) → gap_at z s at ≡ more r n → GapStands z s at r n
unfolding gap_at
gap_stands z s at r n e =
    let c = check_more (leb (at + 8) (length s)) 15 at _ r n e in
    let d = check_more (gap_right z (byte_at s (at + 2)) (byte_at s (at + 3)) (raised (number_at s (at + 4))) (raised (number_at s (at + 6)))) 22 at _ r n c.1 in
    let m = d.1 in
    record { fits = leb-true (at + 8) (length s) c.0; right = d.0; is = cc m; next = cc m }

pub record StrikeStands (z s : List ℕ) (at : ℕ) (r : Record) (n : ℕ) : Type 0 where
  pub fits : at + 6 ≤ length s
  pub right : strike_right z (byte_at s (at + 2)) (byte_at s (at + 3)) (byte_at s (at + 4)) (byte_at s (at + 5)) ≡ true
  pub is : r ≡ strike (byte_at s (at + 2)) (byte_at s (at + 3)) (byte_at s (at + 4)) (byte_at s (at + 5))
  pub next : n ≡ at + 6

pub strike-stands : (z s : List ℕ) (at : ℕ) (r : Record) (n : ℕ) → strike_at z s at ≡ more r n → StrikeStands z s at r n
unfolding strike_at
strike-stands z s at r n e =
    let c = check_more (leb (at + 6) (length s)) 15 at _ r n e in
    let d = check_more (strike_right z (byte_at s (at + 2)) (byte_at s (at + 3)) (byte_at s (at + 4)) (byte_at s (at + 5))) 22 at _ r n c.1 in
    let m = d.1 in
    record { fits = leb-true (at + 6) (length s) c.0; right = d.0; is = cc m; next = cc m }

-- EN is no record
pub end_no_more : (z s : List ℕ) (at : ℕ) (r : Record) (n : ℕ) → end_at z s at ≡ more r n → ⊥
unfolding end_at
end_no_more z s at r n = go (ltb 0 (length z))
  where
    go : (b : Bool) → cond b (check (eqb (length s) (at + 2)) 23 at done) (stop (says 1 [])) ≡ more r n → ⊥
    go true e = let m = (check_more (eqb (length s) (at + 2)) 23 at done r n e).1 in cc m
    go false e = cc

-- no record is the end

pub date_no_end : (sep : ℕ → Bool) (size : ℕ) (s : List ℕ) (at : ℕ) → date_at sep size s at ≡ done → ⊥
unfolding date_at
date_no_end sep size s at e = go (date_says sep (take size (drop (at + 2) s))).state (check_done (leb (at + 2 + size) (length s)) 15 at _ e).1
  where
    go : (k : ℕ) → cond (eqb k 0) (more (field (means sep (take size (drop (at + 2) s)))) (at + 2 + size)) (stop (says k (at ∷ []))) ≡ done → ⊥
    go zero f = cc
    go (suc k) f = let g = rw (eqb-suc-zero k) at f in cc

pub days_no_end : (s : List ℕ) (at : ℕ) → days_at s at ≡ done → ⊥
unfolding days_at
days_no_end s at e =
    let k = byte_at s (at + 2) in
    let l = tabulate k (λ p. number_at s (at + 3 + 2 * p)) in
    let c = check_done (leb (at + 3) (length s)) 15 at _ e in
    let d = check_done (leb 1 k && leb k readings_most) 21 at _ c.1 in
    let f = check_done (leb (at + 3 + 2 * k) (length s)) 15 at _ d.1 in
    let g = (check_done (ascending l && early l) 21 at (more (field l) (at + 3 + 2 * k)) f.1).1 in
    cc g

pub gap_no_end : (z s : List ℕ) (at : ℕ) → gap_at z s at ≡ done → ⊥
unfolding gap_at
gap_no_end z s at e =
    let i = byte_at s (at + 2) in
    let j = byte_at s (at + 3) in
    let lo = raised (number_at s (at + 4)) in
    let hi = raised (number_at s (at + 6)) in
    let c = check_done (leb (at + 8) (length s)) 15 at _ e in
    let g = (check_done (gap_right z i j lo hi) 22 at (more (gap i j lo hi) (at + 8)) c.1).1 in
    cc g

pub strike_no_end : (z s : List ℕ) (at : ℕ) → strike_at z s at ≡ done → ⊥
unfolding strike_at
strike_no_end z s at e =
    let i = byte_at s (at + 2) in
    let j = byte_at s (at + 3) in
    let a = byte_at s (at + 4) in
    let b = byte_at s (at + 5) in
    let c = check_done (leb (at + 6) (length s)) 15 at _ e in
    let g = (check_done (strike_right z i j a b) 22 at (more (strike i j a b) (at + 6)) c.1).1 in
    cc g

pub adds-done : (t : Told) (at : ℕ) (x : Step) → adds t at x ≡ done → x ≡ done
adds-done t at x e =
    (check_done (ltb (length t.sizes) fields_most) 18 at x (check_done (not t.late) 17 at _ e).1).1

-- EN ends a sheet of some field
pub end_some : (z s : List ℕ) (at : ℕ) → end_at z s at ≡ done → 1 ≤ length z
unfolding end_at
end_some z s at = go (ltb 0 (length z)) refl
  where
    go : (b : Bool) → ltb 0 (length z) ≡ b → cond b (check (eqb (length s) (at + 2)) 23 at done) (stop (says 1 [])) ≡ done → 1 ≤ length z
    go true h e = omega (arith, ltb-true 0 (length z) h)
    go false h e = absurd (cc)

-- a step

-- the end, by its mark
pub step_done : (sep : ℕ → Bool) (t : Told) (s : List ℕ) (at : ℕ) → step_at sep t s at ≡ done → (at + 2 ≤ length s) × (by_mark sep (mark_of (number_at s at)) t s at ≡ done)
unfolding step_at
step_done sep t s at e =
    let c = check_done (leb (at + 2) (length s)) 15 at (by_mark sep (mark_of (number_at s at)) t s at) e in
    (leb-true (at + 2) (length s) c.0, c.1)

-- the record that stands, by its mark
pub step_more : (sep : ℕ → Bool) (t : Told) (s : List ℕ) (at : ℕ) (r : Record) (n : ℕ) → step_at sep t s at ≡ more r n → (at + 2 ≤ length s) × (by_mark sep (mark_of (number_at s at)) t s at ≡ more r n)
unfolding step_at
step_more sep t s at r n e =
    let c = check_more (leb (at + 2) (length s)) 15 at (by_mark sep (mark_of (number_at s at)) t s at) r n e in
    (leb-true (at + 2) (length s) c.0, c.1)

-- DT, DS and FD stand in time, and with room for a field
pub adds_more : (t : Told) (at : ℕ) (s : Step) (r : Record) (n : ℕ) → adds t at s ≡ more r n → (t.late ≡ false) × (length t.sizes < fields_most) × (s ≡ more r n)
adds_more t at s r n e =
    let c = check_more (not t.late) 17 at _ r n e in
    let d = check_more (ltb (length t.sizes) fields_most) 18 at s r n c.1 in
    (not-true t.late c.0, ltb-true (length t.sizes) fields_most d.0, d.1)

-- a record has two bytes at the least, all of them in the sheet
pub step_forward : (sep : ℕ → Bool) (t : Told) (s : List ℕ) (at : ℕ) (r : Record) (n : ℕ) → step_at sep t s at ≡ more r n → (at + 2 ≤ n) × (n ≤ length s)
step_forward sep t s at r n e = go (mark_of (number_at s at)) (step_more sep t s at r n e).1
  where
    go : (m : Mark) → by_mark sep m t s at ≡ more r n → (at + 2 ≤ n) × (n ≤ length s)
    go Date f = omega (arith, date-stands sep date_length s at r n (adds_more t at _ r n f).2)
    go Short f = omega (arith, date-stands sep short_length s at r n (adds_more t at _ r n f).2)
    go Days f = omega (arith, days_stand s at r n (adds_more t at _ r n f).2)
    go Gap f = omega (arith, gap_stands t.sizes s at r n f)
    go Strike f = omega (arith, strike-stands t.sizes s at r n f)
    go End f = absurd (end_no_more t.sizes s at r n f)
    go Unknown f = absurd (cc f)

-- a fault's number is 1 or comes after 14, so that none is taken for a result or for a check before the scan

-- a fault at an offset: its number, and the offset for a place or none
pub record Fault (at : ℕ) (q : Said) : Type 0 where
  pub number : (q.state ≡ 1) ⊎ (15 ≤ q.state)
  pub most : q.state ≤ 23
  pub place : (q.values ≡ []) ⊎ (q.values ≡ at ∷ [])

-- if the step stops, then at such a fault
abbrev Faults : ℕ → Step → Type 0
Faults at x = (q : Said) → x ≡ stop q → Fault at q

faults_more : (at : ℕ) (r : Record) (n : ℕ) → Faults at (more r n)
faults_more at r n q e = absurd (cc e)

faults_done : (at : ℕ) → Faults at done
faults_done at q e = absurd (cc e)

fault_here : (k at : ℕ) → 15 ≤ k → k ≤ 23 → Fault at (says k (at ∷ []))
fault_here k at h l = record { number = inr h; most = l; place = inr refl }

faults_stop : (at : ℕ) (p : Said) → Fault at p → Faults at (stop p)
faults_stop at p f q e = let g : p ≡ q = cc e in rw (← g) f

faults_check : (b : Bool) (k at : ℕ) (x : Step) → 15 ≤ k → k ≤ 23 → Faults at x → Faults at (check b k at x)
faults_check true k at x h l f = f
faults_check false k at x h l f = faults_stop at (says k (at ∷ [])) (fault_here k at h l)

-- a date text is refused with 19 or 20
date-number : (sep : ℕ → Bool) (text : List ℕ) → ((date_says sep text).state ≡ 0) ⊎ (15 ≤ (date_says sep text).state) × ((date_says sep text).state ≤ 23)
unfolding date_says
date-number sep text = go (shaped_date sep text) (means sep text)
  where
    go : (b : Bool) (l : List ℕ) → ((cond b (days_say l) (says 19 [])).state ≡ 0) ⊎ (15 ≤ (cond b (days_say l) (says 19 [])).state) × ((cond b (days_say l) (says 19 [])).state ≤ 23)
    go true [] = inr (omega arith, omega arith)
    go true (x ∷ l) = inl refl
    go false l = inr (omega arith, omega arith)

module _ (sep : ℕ → Bool) (t : Told) (s : List ℕ) (at : ℕ) where
  faults-adds : (x : Step) → Faults at x → Faults at (adds t at x)
  faults-adds x f =
      faults_check (not t.late) 17 at _ (omega arith) (omega arith)
      (faults_check (ltb (length t.sizes) fields_most) 18 at x (omega arith) (omega arith) f)

  faults-text : (k : ℕ) (r : Record) (n : ℕ) → (k ≡ 0) ⊎ (15 ≤ k) × (k ≤ 23) → Faults at (cond (eqb k 0) (more r n) (stop (says k (at ∷ []))))
  faults-text zero r n h = faults_more at r n
  faults-text (suc k) r n (inl h) = absurd (omega arith)
  faults-text (suc k) r n (inr h) = rw (eqb-suc-zero k) (faults_stop at (says (suc k) (at ∷ [])) (fault_here (suc k) at h.0 h.1))

  faults-date : (size : ℕ) → Faults at (date_at sep size s at)
  unfolding date_at
  faults-date size =
      let text = take size (drop (at + 2) s) in
      faults_check (leb (at + 2 + size) (length s)) 15 at _ (omega arith) (omega arith)
      (faults-text (date_says sep text).state (field (means sep text)) (at + 2 + size) (date-number sep text))

  faults-days : Faults at (days_at s at)
  unfolding days_at
  faults-days =
      let k = byte_at s (at + 2) in
      let l = tabulate k (λ p. number_at s (at + 3 + 2 * p)) in
      faults_check (leb (at + 3) (length s)) 15 at _ (omega arith) (omega arith)
      (faults_check (leb 1 k && leb k readings_most) 21 at _ (omega arith) (omega arith)
      (faults_check (leb (at + 3 + 2 * k) (length s)) 15 at _ (omega arith) (omega arith)
      (faults_check (ascending l && early l) 21 at _ (omega arith) (omega arith)
      (faults_more at (field l) (at + 3 + 2 * k)))))

  faults-gap : Faults at (gap_at t.sizes s at)
  unfolding gap_at
  faults-gap =
      let i = byte_at s (at + 2) in
      let j = byte_at s (at + 3) in
      let lo = raised (number_at s (at + 4)) in
      let hi = raised (number_at s (at + 6)) in
      faults_check (leb (at + 8) (length s)) 15 at _ (omega arith) (omega arith)
      (faults_check (gap_right t.sizes i j lo hi) 22 at _ (omega arith) (omega arith)
      (faults_more at (gap i j lo hi) (at + 8)))

  faults-strike : Faults at (strike_at t.sizes s at)
  unfolding strike_at
  faults-strike =
      let i = byte_at s (at + 2) in
      let j = byte_at s (at + 3) in
      let a = byte_at s (at + 4) in
      let b = byte_at s (at + 5) in
      faults_check (leb (at + 6) (length s)) 15 at _ (omega arith) (omega arith)
      (faults_check (strike_right t.sizes i j a b) 22 at _ (omega arith) (omega arith)
      (faults_more at (strike i j a b) (at + 6)))

  faults-end : Faults at (end_at t.sizes s at)
  unfolding end_at
  faults-end = go (ltb 0 (length t.sizes))
    where
      go : (b : Bool) → Faults at (cond b (check (eqb (length s) (at + 2)) 23 at done) (stop (says 1 [])))
      go true = faults_check (eqb (length s) (at + 2)) 23 at done (omega arith) (omega arith) (faults_done at)
      go false = faults_stop at (says 1 []) (record { number = inl refl; most = omega arith; place = inl refl })

  faults-mark : (m : Mark) → Faults at (by_mark sep m t s at)
  faults-mark Date = faults-adds (date_at sep date_length s at) (faults-date date_length)
  faults-mark Short = faults-adds (date_at sep short_length s at) (faults-date short_length)
  faults-mark Days = faults-adds (days_at s at) faults-days
  faults-mark Gap = faults-gap
  faults-mark Strike = faults-strike
  faults-mark End = faults-end
  faults-mark Unknown = faults_stop at (says 16 (at ∷ [])) (fault_here 16 at (omega arith) (omega arith))

  pub step_fault : Faults at (step_at sep t s at)
  unfolding step_at
  step_fault =
      faults_check (leb (at + 2) (length s)) 15 at (by_mark sep (mark_of (number_at s at)) t s at) (omega arith) (omega arith)
      (faults-mark (mark_of (number_at s at)))

  pub step_number : (q : Said) → step_at sep t s at ≡ stop q → (q.state ≡ 1) ⊎ (15 ≤ q.state)
  step_number q e = (step_fault q e).number

-- the scan

module _ (sep : ℕ → Bool) (s : List ℕ) where
  -- the steps that are enough from an offset on
  abbrev pub scan_on : List Record → ℕ → Scanned
  scan_on rs at = scan_from sep (suc (length s - at)) s rs at

  pub scan_on_lem : scan sep s ≡ scan_on [] 0
  unfolding scan
  scan_on_lem = let e : length s - 0 ≡ length s = omega arith in rw e

  -- more steps than enough change nothing
  enough : (k l : ℕ) (rs : List Record) (at : ℕ) → length s - at < k → length s - at < l → scan_from sep k s rs at ≡ scan_from sep l s rs at
  unfolding scan_from
  enough zero l rs at h i = absurd (omega arith)
  enough (suc k) zero rs at h i = absurd (omega arith)
  enough (suc k) (suc l) rs at h i =
      go (step_at sep (told rs) s at) refl (λ r n e f. enough k l (rs ++ r ∷ []) n e f)
    where
      go : (x : Step) → step_at sep (told rs) s at ≡ x → ((r : Record) (n : ℕ) → length s - n < k → length s - n < l → scan_from sep k s (rs ++ r ∷ []) n ≡ scan_from sep l s (rs ++ r ∷ []) n) → onward rs (λ r n. scan_from sep k s (rs ++ r ∷ []) n) x ≡ onward rs (λ r n. scan_from sep l s (rs ++ r ∷ []) n) x
      go (more r n) e f = let w = step_forward sep (told rs) s at r n e in f r n (omega arith) (omega arith)
      go done e f = refl
      go (stop q) e f = refl

  -- one step of it
  scan_step : (rs : List Record) (at : ℕ) (x : Step) → step_at sep (told rs) s at ≡ x → scan_on rs at ≡ onward rs (λ r n. scan_from sep (length s - at) s (rs ++ r ∷ []) n) x
  unfolding scan_from
  scan_step rs at x e = ap (onward rs (λ r n. scan_from sep (length s - at) s (rs ++ r ∷ []) n)) e

  pub scan_more : (rs : List Record) (at : ℕ) (r : Record) (n : ℕ) → step_at sep (told rs) s at ≡ more r n → scan_on rs at ≡ scan_on (rs ++ r ∷ []) n
  scan_more rs at r n e =
      let w = step_forward sep (told rs) s at r n e in
      scan_step rs at (more r n) e
      ∙ enough (length s - at) (suc (length s - n)) (rs ++ r ∷ []) n (omega arith) (omega arith)

  pub scan-done : (rs : List Record) (at : ℕ) → step_at sep (told rs) s at ≡ done → scan_on rs at ≡ whole rs
  scan-done rs at e = scan_step rs at done e

  pub scan_stop : (rs : List Record) (at : ℕ) (q : Said) → step_at sep (told rs) s at ≡ stop q → scan_on rs at ≡ faulty q
  scan_stop rs at q e = scan_step rs at (stop q) e

  -- a sheet that is whole goes on with a record or is at its end
  pub data Going (rs : List Record) (at : ℕ) (all : List Record) : Type 0 where
    goes : (r : Record) (n : ℕ) → step_at sep (told rs) s at ≡ more r n → scan_on (rs ++ r ∷ []) n ≡ whole all → Going rs at all
    over : step_at sep (told rs) s at ≡ done → rs ≡ all → Going rs at all

  pub going : (rs : List Record) (at : ℕ) (all : List Record) → scan_on rs at ≡ whole all → Going rs at all
  going rs at all w = go (step_at sep (told rs) s at) refl
    where
      go : (x : Step) → step_at sep (told rs) s at ≡ x → Going rs at all
      go (more r n) e = goes r n e (sym (scan_more rs at r n e) ∙ w)
      go done e = over e (let f = sym (scan-done rs at e) ∙ w in cc f)
      go (stop q) e = absurd (let f = sym (scan_stop rs at q e) ∙ w in cc f)

  -- the records before an offset

  -- the scan reaches an offset, after these records
  pub data Reached : List Record → ℕ → Type 0 where
    start : Reached [] 0
    after : {rs : List Record} {at : ℕ} (r : Record) (n : ℕ) → Reached rs at → step_at sep (told rs) s at ≡ more r n → Reached (rs ++ r ∷ []) n

  abbrev before_on : List Record → ℕ → ℕ → List Record
  before_on rs here at = before_from sep (suc (length s - here)) s rs here at

  search-enough : (k l : ℕ) (rs : List Record) (here at : ℕ) → length s - here < k → length s - here < l → before_from sep k s rs here at ≡ before_from sep l s rs here at
  unfolding before_from
  search-enough zero l rs here at h i = absurd (omega arith)
  search-enough (suc k) zero rs here at h i = absurd (omega arith)
  search-enough (suc k) (suc l) rs here at h i =
      ap (cond (eqb here at) rs) (go (step_at sep (told rs) s here) refl (λ r n e f. search-enough k l (rs ++ r ∷ []) n at e f))
    where
      go : (x : Step) → step_at sep (told rs) s here ≡ x → ((r : Record) (n : ℕ) → length s - n < k → length s - n < l → before_from sep k s (rs ++ r ∷ []) n at ≡ before_from sep l s (rs ++ r ∷ []) n at) → beyond rs (λ r n. before_from sep k s (rs ++ r ∷ []) n at) x ≡ beyond rs (λ r n. before_from sep l s (rs ++ r ∷ []) n at) x
      go (more r n) e f = let w = step_forward sep (told rs) s here r n e in f r n (omega arith) (omega arith)
      go done e f = refl
      go (stop q) e f = refl

  search-here : (rs : List Record) (at : ℕ) → before_on rs at at ≡ rs
  unfolding before_from
  search-here rs at = rw (eq-eqb at at refl)

  search-more : (rs : List Record) (here at : ℕ) (r : Record) (n : ℕ) → (here ≡ at → ⊥) → step_at sep (told rs) s here ≡ more r n → before_on rs here at ≡ before_on (rs ++ r ∷ []) n at
  unfolding before_from
  search-more rs here at r n d e =
      let w = step_forward sep (told rs) s here r n e in
      ap (λ (b : Bool). cond b rs (beyond rs (λ r' n'. before_from sep (length s - here) s (rs ++ r' ∷ []) n' at) (step_at sep (told rs) s here))) (ne_eqb here at d)
      ∙ ap (beyond rs (λ r' n'. before_from sep (length s - here) s (rs ++ r' ∷ []) n' at)) e
      ∙ search-enough (length s - here) (suc (length s - n)) (rs ++ r ∷ []) n at (omega arith) (omega arith)

  search-on : {rs : List Record} {here : ℕ} → Reached rs here → (at : ℕ) → here ≤ at → before sep s at ≡ before_on rs here at
  unfolding before
  search-on start at h = let e : length s - 0 ≡ length s = omega arith in rw e
  search-on (after {rs = rs} {at = here} r n p e) at h =
      let w = step_forward sep (told rs) s here r n e in
      search-on p at (omega arith) ∙ search-more rs here at r n (λ d. omega arith) e

  -- what the scan carries is what comes before
  pub before-reached : {rs : List Record} {at : ℕ} → Reached rs at → before sep s at ≡ rs
  before-reached {rs} {at} p = search-on p at (omega arith) ∙ search-here rs at

  pub step_reached : {rs : List Record} {at : ℕ} → Reached rs at → step_of sep s at ≡ step_at sep (told rs) s at
  step_reached {rs} {at} p = ap (λ (l : List Record). step_at sep (told l) s at) (before-reached p)

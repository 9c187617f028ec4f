-- The write pass over GP and PR: at each turn the table stands for the opening table of the records so far.
use mathlib.Core.Path.{◌≡◌, refl, sym, ap, ap₂, ◌∙◌, subst}
use mathlib.Core.Bool.{true}
use mathlib.Core.List.{List, [], ◌∷◌, ◌++◌, map}
use Prim.Native.Nat.{ℕ, ◌+◌, ◌-◌, ◌*◌, ◌≤◌, ◌<◌}
use native.Mathlib.Omega.{arith}
use lib.Dec.{T, ltb, ltb→lt}
use lib.ListN.{length, get_or, length-map, length-append}
use Rattle.theory.specs.Limits.{fields_most, readings_most}
use Rattle.theory.specs.BoundLaws.{and_l, and_r}
use Rattle.theory.specs.Relation.{Agree}
use Rattle.theory.specs.Strike.{strike as without}
use Rattle.theory.proofs.StrikeLaws.{strike_in}
use Rattle.calendar.specs.DateText.{date_length, short_length, separator}
use Rattle.table.specs.Layout.{Sized, rel, words, size_of}
use Rattle.table.specs.LayoutLaws.{Fit, Narrow, rel-words, length-words, words_same, words-rel}
use Rattle.table.specs.Strike.{pair_and_mirror, Struck}
use Rattle.table.specs.StrikeLaws.{length-struck}
use Rattle.table.specs.Shape.{GoodSizes}
use Rattle.scan.specs.Sheet.{number_at, Record, field, gap, strike, fields_of, told, more, done, date_at, days_at as listAt, gap_right, strike_right, mark_of, by_mark, whole}
use Rattle.scan.specs.RecordLaws.{fields_field, fields_pair, told-sizes}
use Rattle.scan.specs.SheetLaws.{gap_no_end, strike_no_end, adds_more, date-stands, days_stand, gap_stands, strike-stands, end_no_more, step_more, step_done, scan_on, Going, goes, over, going, GapStands, StrikeStands}
use Rattle.scan.specs.WholeLaws.{whole_some, count_grows, fields_fixed}
use Rattle.scan.specs.Judging.{ReadsInterval, ReadsPair}
use Rattle.scan.specs.declared.mark.Mark.{Mark}
use Rattle.scan.specs.declared.mark.Mark.TheVariants.{Date, Short, Days, Gap, Strike, End, Unknown}
use Rattle.scan.specs.declared.record.Interval.{Interval}
use Rattle.scan.specs.declared.record.Pair.{Pair}
use Rattle.sheet.specs.Opening.{struck_by, outside, everything, opening, days_of}
use Rattle.sheet.specs.Writing.{days_at, TwoFields, CellNarrowed, records, fields, Judged, FieldsTo, FieldsWritten, RulesTo}
use Rattle.sheet.specs.OpeningLaws.{size_of_lem, good-sizes, everything_e}
use Rattle.sheet.specs.BufferLaws.{length-days}
use Rattle.sheet.proofs.Filling.{days_of_field, fields-good, fields_few}
use Rattle.sheet.proofs.Strikes.{Inside, opening_more, opening_none, opening-inside, narrow-stands, gap_stands as both-stand, without_agree, agree_on}

-- all fields are written

pub fields_at_end : {sheet sizes days : List ℕ} {n at : ℕ} → Judged sheet n → FieldsTo sheet sizes days n at → FieldsTo sheet sizes days (length sizes) at
fields_at_end {sheet} {sizes} {days} {n} {at} j f = subst (λ (k : ℕ). FieldsTo sheet sizes days k at) (sym (f.all_sizes ∙ j.count)) f

module _ {sheet sizes days : List ℕ} {at : ℕ} (f : FieldsTo sheet sizes days (length sizes) at) where
  same : fields_of f.before ≡ fields sheet
  same = sym (fields_fixed separator sheet f.before at (records sheet) f.up_to.on (f.count ∙ f.all_sizes))

  pub fields-written : FieldsWritten sheet sizes days
  fields-written = record {
    of_sizes = sym (lib.Seq.take_all (length sizes) sizes (omega arith)) ∙ f.holds_sizes ∙ ap (map length) same;
    of_days = sym (lib.Seq.take_all (length sizes * readings_most) days (omega (arith, f.all_days))) ∙ f.holds_days ∙ ap days_of same;
  }

  pub sizes-good : GoodSizes sizes
  sizes-good = rw fields-written.of_sizes (good-sizes (fields sheet) (whole_some separator sheet (records sheet) f.up_to.whole) (fields-good sheet f.up_to.whole))

-- the wide bits of everything are none
everything-narrow : (n : ℕ) (sizes : List ℕ) → ((i : ℕ) → i < n → size_of sizes i ≤ readings_most) → Narrow n (everything sizes)
everything-narrow n sizes f i j a b hi hj t = let u = everything_e sizes i j a b t in omega (arith, u.0, u.1, f i hi, f j hj)

-- the table of everything, before the first rule
pub rules_start : {sheet sizes days t : List ℕ} {at : ℕ} → FieldsTo sheet sizes days (length sizes) at → t ≡ words (length sizes) (everything sizes) → RulesTo sheet sizes days t at
rules_start {sheet} {sizes} {days} {t} f e = record {
  before = f.before;
  up_to = f.up_to;
  same = same f;
  written = fields-written f;
  long = ap length e ∙ length-words (length sizes) (everything sizes);
  stands =
      agree_on (λ i j a b hi hj. ap (λ (l : List ℕ). rel (length sizes) l i j a b) e ∙ rel-words (length sizes) (everything sizes) (everything-narrow (length sizes) sizes (λ i h. ((sizes-good f).each i h).1)) i j a b hi hj)
      (agree_on (λ i j a b hi hj. ap (λ (l : List ℕ). everything l i j a b) (fields-written f).of_sizes) (opening_none (fields sheet) f.before f.none));
}

-- what stands at the offset

module _ {sheet sizes days t : List ℕ} {at : ℕ} (r : RulesTo sheet sizes days t at) where
  onward : Going separator sheet r.before at (records sheet)
  onward = going separator sheet r.before at (records sheet) r.up_to.on

  pub rule_there : at + 2 ≤ length sheet
  rule_there = go onward
    where
      go : Going separator sheet r.before at (records sheet) → at + 2 ≤ length sheet
      go (goes q m e v) = (step_more separator (told r.before) sheet at q m e).0
      go (over e v) = (step_done separator (told r.before) sheet at e).0

  -- a record of a mark that is not the end's stands there
  record Here (m : Mark) : Type 0 where
    says : Record
    next : ℕ
    step : by_mark separator m (told r.before) sheet at ≡ more says next
    on : scan_on separator sheet (r.before ++ says ∷ []) next ≡ whole (records sheet)

  here : (m : Mark) → mark_of (number_at sheet at) ≡ m → (by_mark separator m (told r.before) sheet at ≡ done → ⊥) → Here m
  here m mark no_end = go onward
    where
      go : Going separator sheet r.before at (records sheet) → Here m
      go (goes q k e v) = record {
        says = q;
        next = k;
        step = subst (λ (x : Mark). by_mark separator x (told r.before) sheet at ≡ more q k) mark (step_more separator (told r.before) sheet at q k e).1;
        on = v;
      }
      go (over e v) = absurd (no_end (subst (λ (x : Mark). by_mark separator x (told r.before) sheet at ≡ done) mark (step_done separator (told r.before) sheet at e).1))

  told_is : (told r.before).sizes ≡ sizes
  told_is = told-sizes r.before ∙ ap (map length) r.same ∙ sym r.written.of_sizes

  count-is : length sizes ≡ length (fields sheet)
  count-is = ap length r.written.of_sizes ∙ length-map (fields sheet) length

  few : length sizes ≤ fields_most
  few = omega (arith, (fields-good sheet r.up_to.whole).few, count-is)

  pub rules_sized : Sized (length sizes) t
  rules_sized = record { few = few; long = r.long }

  size_is : (i : ℕ) → get_or sizes i 0 ≡ length (get_or (fields sheet) i [])
  unfolding size_of
  size_is i = ap (λ (l : List ℕ). get_or l i 0) r.written.of_sizes ∙ size_of_lem (fields sheet) i

  inside : Inside (length sizes) (size_of sizes) (rel (length sizes) t)
  inside i j a b hi hj v =
      subst (λ (l : List ℕ). (a < size_of l i) × (b < size_of l j)) (sym r.written.of_sizes)
      (opening-inside (fields sheet) r.before i j a b (subst T (r.stands i j a b hi hj) v))

  pub days-room : (i k : ℕ) → i < length sizes → k ≡ get_or sizes i 0 → i * readings_most + k ≤ length days
  days-room i k h e =
      let m = fields_few sheet r.up_to.whole i (omega (arith, count-is)) in
      omega (arith, e, size_is i, m, ap length r.written.of_days ∙ length-days (fields sheet) (fields_few sheet r.up_to.whole), count-is)

  days-are : (i k : ℕ) → i < length sizes → k ≡ get_or sizes i 0 → days_at days i k ≡ get_or (fields sheet) i []
  days-are i k h e =
      ap₂ (λ (l : List ℕ) (m : ℕ). days_at l i m) r.written.of_days (e ∙ size_is i)
      ∙ days_of_field (fields sheet) (fields_few sheet r.up_to.whole) i (omega (arith, count-is))

  two_fields : (i j : ℕ) {d f : List ℕ} {k l : ℕ} → i < length sizes → j < length sizes → k ≡ get_or sizes i 0 → d ≡ days_at days i k → l ≡ get_or sizes j 0 → f ≡ days_at days j l → TwoFields d f
  two_fields i j {d} {f} {k} {l} hi hj ek ed el ef =
      let x = (fields-good sheet r.up_to.whole).each i (omega (arith, count-is)) in
      let y = (fields-good sheet r.up_to.whole).each j (omega (arith, count-is)) in
      rw (ed ∙ days-are i k hi ek, ef ∙ days-are j l hj el) (record { first_few = x.few; second_few = y.few; first_rise = x.rise; second_rise = y.rise })

  -- GP

  module _ (mark : mark_of (number_at sheet at) ≡ Gap) where
    gap-next : Here Gap
    gap-next = here Gap mark (gap_no_end (told r.before).sizes sheet at)

    gap-there : GapStands (told r.before).sizes sheet at gap-next.says gap-next.next
    gap-there = gap_stands (told r.before).sizes sheet at gap-next.says gap-next.next gap-next.step

    pub interval_there : at + 8 ≤ length sheet
    interval_there = gap-there.fits

  module _ (mark : mark_of (number_at sheet at) ≡ Gap) {g : Interval} (reads : ReadsInterval sheet at g) where
    right : gap_right sizes g.i g.j g.lo g.hi ≡ true
    right = rw (reads.i, reads.j, reads.lo, reads.hi, ← told_is) (gap-there mark).right

    is-gap : gap g.i g.j g.lo g.hi ≡ (gap-next mark).says
    is-gap = rw (reads.i, reads.j, reads.lo, reads.hi) (sym (gap-there mark).is)

    on-gap : scan_on separator sheet (r.before ++ gap g.i g.j g.lo g.hi ∷ []) (at + 8) ≡ whole (records sheet)
    on-gap = ap₂ (λ (x : Record) (k : ℕ). scan_on separator sheet (r.before ++ x ∷ []) k) is-gap (sym (gap-there mark).next) ∙ (gap-next mark).on

    ordered : T (gap_right sizes g.i g.j g.lo g.hi)
    ordered = rw right tt

    pub first_in : g.i < length sizes
    unfolding gap_right
    first_in = ltb→lt g.i (length sizes) (and_l (ltb g.i (length sizes)) _ ordered)

    pub second_in_lem : g.j < length sizes
    unfolding gap_right
    second_in_lem = ltb→lt g.j (length sizes) (and_l (ltb g.j (length sizes)) _ (and_r (ltb g.i (length sizes)) _ ordered))

    pub low : g.lo ≤ 65536
    low = omega (arith, reads.lo)

    pub high : g.hi ≤ 65536
    high = omega (arith, reads.hi)

    pub two : {d f : List ℕ} {k l : ℕ} → k ≡ get_or sizes g.i 0 → d ≡ days_at days g.i k → l ≡ get_or sizes g.j 0 → f ≡ days_at days g.j l → TwoFields d f
    two = two_fields g.i g.j first_in second_in_lem

    pub two_turned : {d f : List ℕ} {k l : ℕ} → k ≡ get_or sizes g.i 0 → d ≡ days_at days g.i k → l ≡ get_or sizes g.j 0 → f ≡ days_at days g.j l → TwoFields f d
    two_turned ek ed el ef = two_fields g.j g.i second_in_lem first_in el ef ek ed

    module _ {d f : List ℕ} {k l : ℕ} (ek : k ≡ get_or sizes g.i 0) (ed : d ≡ days_at days g.i k) (el : l ≡ get_or sizes g.j 0) (ef : f ≡ days_at days g.j l) {u v : List ℕ} (c : CellNarrowed (length sizes) t g.i g.j d f g.lo g.hi u) (c' : CellNarrowed (length sizes) u g.j g.i f d (65536 - g.hi) (65536 - g.lo) v) where
      is-first : d ≡ get_or (fields sheet) g.i []
      is-first = ed ∙ days-are g.i k first_in ek

      is-second : f ≡ get_or (fields sheet) g.j []
      is-second = ef ∙ days-are g.j l second_in_lem el

      each-size : (i : ℕ) → size_of sizes i ≡ length (get_or (fields sheet) i [])
      unfolding size_of
      each-size = size_is

      once : Agree (length sizes) (rel (length sizes) u) (without (outside (fields sheet) g.i g.j g.lo g.hi) (rel (length sizes) t))
      once = narrow-stands (length sizes) t u g.i g.j (fields sheet) g.lo g.hi first_in second_in_lem (size_of sizes) (each-size g.i) (each-size g.j) (rw (is-first, is-second) at c) inside

      inside-once : Inside (length sizes) (size_of sizes) (rel (length sizes) u)
      inside-once i j a b hi hj x = inside i j a b hi hj (strike_in _ (rel (length sizes) t) i j a b (subst T (once i j a b hi hj) x))

      twice : Agree (length sizes) (rel (length sizes) v) (without (outside (fields sheet) g.j g.i (65536 - g.hi) (65536 - g.lo)) (rel (length sizes) u))
      twice = narrow-stands (length sizes) u v g.j g.i (fields sheet) (65536 - g.hi) (65536 - g.lo) second_in_lem first_in (size_of sizes) (each-size g.j) (each-size g.i) (rw (is-first, is-second) at c') inside-once

      pub gap_applied : RulesTo sheet sizes days v (at + 8)
      gap_applied = record {
        before = r.before ++ gap g.i g.j g.lo g.hi ∷ [];
        up_to = record { whole = r.up_to.whole; on = on-gap };
        same = fields_pair r.before (gap g.i g.j g.lo g.hi) refl ∙ r.same;
        written = r.written;
        long = c'.long ∙ c.long ∙ r.long;
        stands =
            opening_more (fields sheet) r.before (gap g.i g.j g.lo g.hi)
            (both-stand (fields sheet) g.i g.j g.lo g.hi low high (opening (fields sheet) r.before) (rel (length sizes) u)
            (agree_on once (without_agree (outside (fields sheet) g.i g.j g.lo g.hi) r.stands))
            twice);
      }

  -- PR

  module _ (mark : mark_of (number_at sheet at) ≡ Strike) where
    strike-next : Here Strike
    strike-next = here Strike mark (strike_no_end (told r.before).sizes sheet at)

    strike-there : StrikeStands (told r.before).sizes sheet at strike-next.says strike-next.next
    strike-there = strike-stands (told r.before).sizes sheet at strike-next.says strike-next.next strike-next.step

    pub pair_there : at + 6 ≤ length sheet
    pair_there = strike-there.fits

  module _ (mark : mark_of (number_at sheet at) ≡ Strike) {p : Pair} (reads : ReadsPair sheet at p) where
    allowed : strike_right sizes p.i p.j p.a p.b ≡ true
    allowed = rw (reads.i, reads.j, reads.a, reads.b, ← told_is) (strike-there mark).right

    is-strike : strike p.i p.j p.a p.b ≡ (strike-next mark).says
    is-strike = rw (reads.i, reads.j, reads.a, reads.b) (sym (strike-there mark).is)

    on-strike : scan_on separator sheet (r.before ++ strike p.i p.j p.a p.b ∷ []) (at + 6) ≡ whole (records sheet)
    on-strike = ap₂ (λ (x : Record) (k : ℕ). scan_on separator sheet (r.before ++ x ∷ []) k) is-strike (sym (strike-there mark).next) ∙ (strike-next mark).on

    -- the pair is one of the sheet's fields and readings
    pub pair_in : (p.i < length sizes) × (p.j < length sizes) × (p.a < readings_most) × (p.b < readings_most)
    unfolding strike_right
    pair_in =
        let z = length sizes in
        let t0 : T (strike_right sizes p.i p.j p.a p.b) = rw allowed tt in
        let t1 = and_r (ltb p.i z) _ t0 in
        let t2 = and_r (ltb p.j z) _ t1 in
        let t3 = and_r (ltb p.a (get_or sizes p.i 0)) _ t2 in
        let hi = ltb→lt p.i z (and_l (ltb p.i z) _ t0) in
        let hj = ltb→lt p.j z (and_l (ltb p.j z) _ t1) in
        let ha = ltb→lt p.a (get_or sizes p.i 0) (and_l (ltb p.a (get_or sizes p.i 0)) _ t2) in
        let hb = ltb→lt p.b (get_or sizes p.j 0) (and_l (ltb p.b (get_or sizes p.j 0)) _ t3) in (
          hi,
          hj,
          omega (arith, ha, size_is p.i, fields_few sheet r.up_to.whole p.i (omega (arith, hi, count-is))),
          omega (arith, hb, size_is p.j, fields_few sheet r.up_to.whole p.j (omega (arith, hj, count-is))),
        )

    pub strike_applied : {u : List ℕ} → Struck (length sizes) t p.i p.j p.a p.b u → RulesTo sheet sizes days u (at + 6)
    unfolding struck_by
    strike_applied {u} s = record {
      before = r.before ++ strike p.i p.j p.a p.b ∷ [];
      up_to = record { whole = r.up_to.whole; on = on-strike };
      same = fields_pair r.before (strike p.i p.j p.a p.b) refl ∙ r.same;
      written = r.written;
      long = ap length s.words ∙ length-struck (length sizes) t p.i p.j p.a p.b ∙ r.long;
      stands =
          opening_more (fields sheet) r.before (strike p.i p.j p.a p.b)
          (agree_on s.stands (without_agree (pair_and_mirror p.i p.j p.a p.b) r.stands));
    }

  -- EN

  no_field : (d : List ℕ) (m : ℕ) → scan_on separator sheet (r.before ++ field d ∷ []) m ≡ whole (records sheet) → ⊥
  no_field d m v =
      let e = ap length (fields_field r.before d) ∙ length-append (fields_of r.before) (d ∷ []) in
      omega (arith, count_grows separator sheet (r.before ++ field d ∷ []) m (records sheet) v, e, ap length r.same)

  pub rules_done : {m : Mark} → m ≡ mark_of (number_at sheet at) → (m ≡ Gap → ⊥) → (m ≡ Strike → ⊥) → r.before ≡ records sheet
  rules_done {m} em g s = go onward
    where
      as-field : (q : Record) (k : ℕ) {d : List ℕ} → q ≡ field d → scan_on separator sheet (r.before ++ q ∷ []) k ≡ whole (records sheet) → ⊥
      as-field q k {d} e v = no_field d k (ap (λ (x : Record). scan_on separator sheet (r.before ++ x ∷ []) k) (sym e) ∙ v)

      no_more : (x : Mark) → (x ≡ Gap → ⊥) → (x ≡ Strike → ⊥) → (q : Record) (k : ℕ) → by_mark separator x (told r.before) sheet at ≡ more q k → scan_on separator sheet (r.before ++ q ∷ []) k ≡ whole (records sheet) → ⊥
      no_more Date g s q k e v = as-field q k (date-stands separator date_length sheet at q k (adds_more (told r.before) at (date_at separator date_length sheet at) q k e).2).is v
      no_more Short g s q k e v = as-field q k (date-stands separator short_length sheet at q k (adds_more (told r.before) at (date_at separator short_length sheet at) q k e).2).is v
      no_more Days g s q k e v = as-field q k (days_stand sheet at q k (adds_more (told r.before) at (listAt sheet at) q k e).2).is v
      no_more Gap g s q k e v = g refl
      no_more Strike g s q k e v = s refl
      no_more End g s q k e v = end_no_more (told r.before).sizes sheet at q k e
      no_more Unknown g s q k e v = cc e

      go : Going separator sheet r.before at (records sheet) → r.before ≡ records sheet
      go (goes q k e v) = absurd (no_more m g s q k (subst (λ (x : Mark). by_mark separator x (told r.before) sheet at ≡ more q k) (sym em) (step_more separator (told r.before) sheet at q k e).1) v)
      go (over e v) = v

  pub table-opened : Fit t → r.before ≡ records sheet → t ≡ words (length sizes) (opening (fields sheet) (records sheet))
  table-opened fit e =
      sym (words-rel (length sizes) t r.long fit)
      ∙ words_same (length sizes) (rel (length sizes) t) (opening (fields sheet) (records sheet))
      (agree_on r.stands (λ i j a b hi hj. ap (λ (l : List Record). opening (fields sheet) l i j a b) e))

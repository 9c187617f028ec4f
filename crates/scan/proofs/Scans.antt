-- The judge pass: at each turn its state is what the records so far have said, and the scan goes on from there.
use mathlib.Core.Path.{◌≡◌, refl, sym, ap, ◌∙◌}
use mathlib.Core.Bool.{Bool, true, false}
use mathlib.Core.List.{List, [], ◌∷◌, ◌++◌}
use Prim.Native.Nat.{ℕ, ◌+◌, ◌≤◌, ◌<◌}
use native.Mathlib.Numerals.{add-one}
use native.Mathlib.Omega.{arith}
use lib.ListN.{length, set, take, replicate, length-set, length-map}
use lib.Seq.{length-take-le, take-suc-set}
use Rattle.refusal.specs.Said.{Said, says}
use Rattle.theory.specs.Limits.{fields_most}
use Rattle.calendar.specs.DateText.{date_length, short_length}
use Rattle.scan.specs.Sheet.{Record, field, gap, strike, fields_of, Told, told, Step, more, done, stop, date_at, days_at, by_mark, number_at, mark_of, step_at, scan}
use Rattle.scan.specs.RecordLaws.{is_pair, told_field, told_pair, told-sizes}
use Rattle.scan.specs.declared.mark.Mark.{Mark}
use Rattle.scan.specs.declared.mark.Mark.TheVariants.{Date, Short, Days, Gap, Strike, End, Unknown}
use Rattle.scan.specs.SheetLaws.{adds_more, gap_stands, strike-stands, end_no_more, step_more, step_forward, scan_on, scan_on_lem, scan_more, scan-done, scan_stop}
use Rattle.scan.specs.Answer.{scan_says}
use Rattle.scan.specs.Judging.{adds, rules, ends, stops, gist}

-- what a step is, by its gist

pub gist-adds : (x : Step) (k n : ℕ) → adds k n ≡ gist x → (d : List ℕ) × (x ≡ more (field d) n) × (length d ≡ k)
gist-adds (more (field d) m) k n e = (d, cc e, cc e)
gist-adds (more (gap i j lo hi) m) k n e = absurd (cc)
gist-adds (more (strike i j a b) m) k n e = absurd (cc)
gist-adds done k n e = absurd (cc)
gist-adds (stop q) k n e = absurd (cc)

pub gist_rules : (x : Step) (n : ℕ) → rules n ≡ gist x → (r : Record) × (x ≡ more r n) × (is_pair r ≡ true)
gist_rules (more (field d) m) n e = absurd (cc)
gist_rules (more (gap i j lo hi) m) n e = (gap i j lo hi, cc e, refl)
gist_rules (more (strike i j a b) m) n e = (strike i j a b, cc e, refl)
gist_rules done n e = absurd (cc)
gist_rules (stop q) n e = absurd (cc)

pub gist_ends : (x : Step) → ends ≡ gist x → x ≡ done
gist_ends (more (field d) m) e = absurd (cc)
gist_ends (more (gap i j lo hi) m) e = absurd (cc)
gist_ends (more (strike i j a b) m) e = absurd (cc)
gist_ends done e = refl
gist_ends (stop q) e = absurd (cc)

pub gist-stops : (x : Step) (q : Said) → stops q ≡ gist x → x ≡ stop q
gist-stops (more (field d) m) q e = absurd (cc)
gist-stops (more (gap i j lo hi) m) q e = absurd (cc)
gist-stops (more (strike i j a b) m) q e = absurd (cc)
gist-stops done q e = absurd (cc)
gist-stops (stop p) q e = cc e

-- the state, n fields with their sizes and whether a GP or PR came, is what the records before at have said
pub record Judging (sep : ℕ → Bool) (s : List ℕ) (at n : ℕ) (late : Bool) (sizes : List ℕ) : Type 0 where
  pub records : List Record
  pub on : scan sep s ≡ scan_on sep s records at
  pub said : told records ≡ record { sizes = take n sizes; late = late }
  pub within : at ≤ length s
  pub few : n ≤ fields_most
  pub long : length sizes ≡ fields_most

pub judging_start : (sep : ℕ → Bool) (s : List ℕ) → Judging sep s 0 0 false (replicate fields_most 0)
unfolding told fields_of Rattle.scan.specs.Sheet.any_pair
judging_start sep s = record { records = []; on = scan_on_lem sep s; said = refl; within = omega arith; few = omega arith; long = refl }

module _ {sep : ℕ → Bool} {s : List ℕ} {at n : ℕ} {late : Bool} {sizes : List ℕ} (i : Judging sep s at n late sizes) where
  abbrev state : Told
  state = record { sizes = take n sizes; late = late }

  -- the step that is judged
  abbrev here : Step
  here = step_at sep state s at

  same : step_at sep (told i.records) s at ≡ here
  same = ap (λ (t : Told). step_at sep t s at) i.said

  length-told : length (take n sizes) ≡ n
  length-told = length-take-le n sizes (omega (arith, i.few, i.long))

  -- DT, DS and FD

  module _ (k next : ℕ) (e : adds k next ≡ gist (step_at sep (record { sizes = take n sizes; late = late }) s at)) where
    found : (d : List ℕ) × (here ≡ more (field d) next) × (length d ≡ k)
    found = gist-adds here k next e

    pub field_room : n < fields_most
    field_room = go (mark_of (number_at s at)) (step_more sep state s at (field found.0) next found.1).1
      where
        go : (m : Mark) → by_mark sep m state s at ≡ more (field found.0) next → n < fields_most
        go Date f = omega (arith, (adds_more state at (date_at sep date_length s at) (field found.0) next f).1, length-told)
        go Short f = omega (arith, (adds_more state at (date_at sep short_length s at) (field found.0) next f).1, length-told)
        go Days f = omega (arith, (adds_more state at (days_at s at) (field found.0) next f).1, length-told)
        go Gap f = absurd (let p = (gap_stands (take n sizes) s at (field found.0) next f).is in cc p)
        go Strike f = absurd (let p = (strike-stands (take n sizes) s at (field found.0) next f).is in cc p)
        go End f = absurd (end_no_more (take n sizes) s at (field found.0) next f)
        go Unknown f = absurd (cc f)

    pub field_forward : (at + 2 ≤ next) × (next ≤ length s)
    field_forward = step_forward sep _ s at (field found.0) next found.1

    sizes-on : (told i.records).sizes ++ length found.0 ∷ [] ≡ take (n + 1) (set sizes n k)
    sizes-on =
        ap (λ (t : Told). t.sizes ++ length found.0 ∷ []) i.said
        ∙ ap (λ (l : ℕ). take n sizes ++ l ∷ []) found.2
        ∙ sym (ap (λ (m : ℕ). take m (set sizes n k)) (add-one n) ∙ take-suc-set sizes n k (omega (arith, field_room, i.long)))

    pub field_again : Judging sep s next (n + 1) late (set sizes n k)
    field_again = record {
      records = i.records ++ field found.0 ∷ [];
      on = i.on ∙ scan_more sep s i.records at (field found.0) next (same ∙ found.1);
      said =
          told_field i.records found.0
          ∙ (λ x. record { sizes = sizes-on x; late = (i.said x).late });
      within = field_forward.1;
      few = omega (arith, field_room);
      long = length-set sizes n k ∙ i.long;
    }

  -- GP and PR

  module _ (next : ℕ) (e : rules next ≡ gist (step_at sep (record { sizes = take n sizes; late = late }) s at)) where
    ruled : (r : Record) × (here ≡ more r next) × (is_pair r ≡ true)
    ruled = gist_rules here next e

    pub rule_forward : (at + 2 ≤ next) × (next ≤ length s)
    rule_forward = step_forward sep _ s at ruled.0 next ruled.1

    pub rule_again : Judging sep s next n true sizes
    rule_again = record {
      records = i.records ++ ruled.0 ∷ [];
      on = i.on ∙ scan_more sep s i.records at ruled.0 next (same ∙ ruled.1);
      said = told_pair i.records ruled.0 ruled.2 ∙ (λ x. record { sizes = (i.said x).sizes; late = true });
      within = rule_forward.1;
      few = i.few;
      long = i.long;
    }

  -- the end, and a fault

  pub scanned-whole : ends ≡ gist (step_at sep (record { sizes = take n sizes; late = late }) s at) → says 0 (n ∷ []) ≡ scan_says (scan sep s)
  scanned-whole e =
      ap (λ (k : ℕ). says 0 (k ∷ []))
      (sym length-told ∙ ap (λ (t : Told). length t.sizes) (sym i.said) ∙ ap length (told-sizes i.records) ∙ length-map (fields_of i.records) length)
      ∙ ap scan_says (sym (i.on ∙ scan-done sep s i.records at (same ∙ gist_ends here e)))

  pub scanned_faulty : (q : Said) → stops q ≡ gist (step_at sep (record { sizes = take n sizes; late = late }) s at) → q ≡ scan_says (scan sep s)
  scanned_faulty q e = ap scan_says (sym (i.on ∙ scan_stop sep s i.records at q (same ∙ gist-stops here q e)))

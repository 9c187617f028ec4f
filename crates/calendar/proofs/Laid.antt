-- A text's places in order, by tests of one place and of two.
use mathlib.Core.Path.{◌≡◌, sym, subst, ◌∙◌}
use mathlib.Core.Bool.{Bool, true, ◌&&◌}
use mathlib.Core.List.{List}
use Prim.Native.Nat.{ℕ}
use native.Mathlib.Omega.{arith}
use lib.Dec.{T, leb, eqb, eqb→eq, eqb_refl}
use lib.ListN.{length, get_or}
use Rattle.theory.specs.Bound.{all}
use Rattle.theory.specs.BoundLaws.{and_i, and_l, and_r, all_i, all_e, T_ext}
use Rattle.calendar.specs.Calendar.{first_year, last_year}
use Rattle.calendar.specs.DateText.{date_length, short_length, digit, fits_at, laid_out, shaped_long, year_in}
use Rattle.calendar.specs.WritingLaws.{eight_places, two_more}

-- what a test that was passed has tested
pub passed : {a b : Bool} → a ≡ b → a ≡ true → T b
passed e h = subst T (sym h ∙ e) tt

-- two digits in a row
abbrev pair : List ℕ → ℕ → ℕ → Bool
pair text i j = digit (get_or text i 0) && digit (get_or text j 0)

module _ (sep : ℕ → Bool) (text : List ℕ) where
  abbrev f : ℕ → Bool
  f = fits_at sep text

  -- the first eight places: the separator, again, and three pairs of digits
  pub front_is : all short_length (fits_at sep text)
      ≡ (sep (get_or text 2 0) && (eqb (get_or text 5 0) (get_or text 2 0) && (pair text 0 1 && (pair text 3 4 && pair text 6 7))))
  unfolding fits_at
  front_is = T_ext _ _ there back
    where
      there : T (all short_length f) → T (sep (get_or text 2 0) && (eqb (get_or text 5 0) (get_or text 2 0) && (pair text 0 1 && (pair text 3 4 && pair text 6 7))))
      there h =
          let at = all_e short_length f h in
          and_i (sep (get_or text 2 0)) _ (and_l (sep (get_or text 2 0)) _ (at 2 (omega arith)))
          (and_i (eqb (get_or text 5 0) (get_or text 2 0)) _ (and_r (sep (get_or text 5 0)) _ (at 5 (omega arith)))
          (and_i (pair text 0 1) _ (and_i (f 0) (f 1) (at 0 (omega arith)) (at 1 (omega arith)))
          (and_i (pair text 3 4) _ (and_i (f 3) (f 4) (at 3 (omega arith)) (at 4 (omega arith)))
          (and_i (f 6) (f 7) (at 6 (omega arith)) (at 7 (omega arith))))))

      back : T (sep (get_or text 2 0) && (eqb (get_or text 5 0) (get_or text 2 0) && (pair text 0 1 && (pair text 3 4 && pair text 6 7)))) → T (all short_length f)
      back h =
          let s : T (sep (get_or text 2 0)) = and_l (sep (get_or text 2 0)) _ h in
          let again = and_r (sep (get_or text 2 0)) _ h in
          let e : get_or text 5 0 ≡ get_or text 2 0 = eqb→eq (get_or text 5 0) (get_or text 2 0) (and_l (eqb (get_or text 5 0) (get_or text 2 0)) _ again) in
          let first = and_r (eqb (get_or text 5 0) (get_or text 2 0)) _ again in
          let next = and_r (pair text 0 1) _ first in
          let same : T (f 2) = and_i (sep (get_or text 2 0)) _ s (eqb_refl (get_or text 2 0)) in
          eight_places f (and_l (pair text 0 1) _ first) same (and_l (pair text 3 4) _ next) (rw e same) (and_r (pair text 3 4) _ next)

  -- a text with a year of four digits: its length, the first eight places, two digits more, and a year of the century
  pub long_is : shaped_long sep text
      ≡ (eqb (length text) date_length && (all short_length (fits_at sep text) && (pair text 8 9 && (leb first_year (year_in text) && leb (year_in text) last_year))))
  unfolding shaped_long laid_out fits_at
  long_is = T_ext _ _ there back
    where
      there : T (shaped_long sep text) → T (eqb (length text) date_length && (all short_length f && (pair text 8 9 && (leb first_year (year_in text) && leb (year_in text) last_year))))
      there h =
          let laid = and_l (laid_out sep date_length text) _ h in
          let at = all_e date_length f (and_r (eqb (length text) date_length) _ laid) in
          and_i (eqb (length text) date_length) _ (and_l (eqb (length text) date_length) _ laid)
          (and_i (all short_length f) _ (all_i short_length f (λ i l. at i (omega arith)))
          (and_i (pair text 8 9) _ (and_i (f 8) (f 9) (at 8 (omega arith)) (at 9 (omega arith)))
          (and_r (laid_out sep date_length text) _ h)))

      back : T (eqb (length text) date_length && (all short_length f && (pair text 8 9 && (leb first_year (year_in text) && leb (year_in text) last_year)))) → T (shaped_long sep text)
      back h =
          let front = and_r (eqb (length text) date_length) _ h in
          let rest = and_r (all short_length f) _ front in
          and_i (laid_out sep date_length text) _
          (and_i (eqb (length text) date_length) _ (and_l (eqb (length text) date_length) _ h) (two_more short_length f (and_l (all short_length f) _ front) (and_l (pair text 8 9) _ rest)))
          (and_r (pair text 8 9) _ rest)

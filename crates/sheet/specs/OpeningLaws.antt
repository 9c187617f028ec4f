-- The opening table is well formed, and the words written for it are a good table.
use Rattle.std.specs.Prelude.{◌≡◌, refl, ◌&&◌, ◌||◌, List, [], ◌∷◌, map, ℕ, zero, suc, ◌≤◌, ◌<◌, length, get_or}
use Rattle.std.proofs.Common.{sym, ap₂, lt→ltb}
use Rattle.std.proofs.Math.Bool.{Bool, not, or_comm}
use Rattle.std.proofs.Math.Dec.{T, eqb, ltb, eqb→eq, eqb_refl, ltb→lt}
use Rattle.std.proofs.lemmas.List.{length-map}
use Rattle.theory.specs.BoundLaws.{and_i, and_l, and_r, imp_by, imp_use, T_ext}
use Rattle.theory.specs.Relation.{WellFormed, Agree}
use Rattle.theory.proofs.RelationLaws.{pair_small}
use Rattle.theory.proofs.AgreeLaws.{agree_sym, agree_wf}
use Rattle.theory.specs.Strike.{nothing, either}
use Rattle.theory.proofs.StrikeLaws.{strike_wf}
use Rattle.table.specs.Layout.{rel, words, size_of}
use Rattle.table.specs.LayoutLaws.{length-words, rel-words}
use Rattle.table.specs.Shape.{GoodSizes, GoodTable}
use Rattle.table.specs.StrikeLaws.{pair_turn}
use Rattle.scan.specs.Sheet.{Record, field, gap, strike}
use Rattle.scan.specs.WholeLaws.{GoodFields}
use Rattle.sheet.specs.Opening.{outside, struck_by, struck_by_all, everything, opening}

-- sizes

-- a field's size is the number of its days
pub size_of_lem : (fields : List (List ℕ)) (i : ℕ) → size_of (map length fields) i ≡ length (get_or fields i [])
unfolding size_of
size_of_lem [] i = refl
size_of_lem (d ∷ fields) zero = refl
size_of_lem (d ∷ fields) (suc i) = size_of_lem fields i

pub good-sizes : (fields : List (List ℕ)) → 1 ≤ length fields → GoodFields fields → GoodSizes (map length fields)
good-sizes fields h g = record {
  some = rw (length-map fields length) h;
  few = rw (length-map fields length) g.few;
  each = λ i l. let f = g.each i (rw (length-map fields length) at l) in rw (size_of_lem fields i) (f.some, f.few);
}

-- everything

module _ (sizes : List ℕ) (i j a b : ℕ) where
  pub everything_i : a < size_of sizes i → b < size_of sizes j → (i ≡ j → a ≡ b) → T (everything sizes i j a b)
  unfolding everything
  everything_i ha hb d =
      and_i (ltb a (size_of sizes i)) _ (lt→ltb a (size_of sizes i) ha)
      (and_i (ltb b (size_of sizes j)) _ (lt→ltb b (size_of sizes j) hb)
      (imp_by (eqb i j) (eqb a b) (λ t. rw (d (eqb→eq i j t)) (eqb_refl b))))

  pub everything_e : T (everything sizes i j a b) → (a < size_of sizes i) × (b < size_of sizes j) × (i ≡ j → a ≡ b)
  unfolding everything
  everything_e t =
      let x : Bool = ltb a (size_of sizes i) in
      let y : Bool = ltb b (size_of sizes j) in
      let z : Bool = not (eqb i j) || eqb a b in
      let s : T (y && z) = and_r x (y && z) t in (
        ltb→lt a (size_of sizes i) (and_l x (y && z) t),
        ltb→lt b (size_of sizes j) (and_l y z s),
        λ e. eqb→eq a b (imp_use (eqb i j) (eqb a b) (and_r y z s) (rw e (eqb_refl j))),
      )

everything-turn : (sizes : List ℕ) (i j a b : ℕ) → T (everything sizes i j a b) → T (everything sizes j i b a)
everything-turn sizes i j a b t = let e = everything_e sizes i j a b t in everything_i sizes j i b a e.1 e.0 (λ q. sym (e.2 (sym q)))

pub everything-formed : (fields : List (List ℕ)) → GoodFields fields → WellFormed (length fields) (size_of (map length fields)) (everything (map length fields))
everything-formed fields g =
    let sizes = map length fields in
    record {
      small = λ i h. rw (size_of_lem fields i) (g.each i h).few;
      inside = λ i j a b hi hj t. let e = everything_e sizes i j a b t in (e.0, e.1);
      same = λ i a b hi t. (everything_e sizes i i a b t).2 refl;
      turn = λ i j a b hi hj. T_ext (everything sizes i j a b) (everything sizes j i b a) (everything-turn sizes i j a b) (everything-turn sizes j i b a);
    }

-- what is struck

-- a record strikes a pair together with its mirror
struck-turn : (fields : List (List ℕ)) (r : Record) (i j a b : ℕ) → struck_by fields r i j a b ≡ struck_by fields r j i b a
unfolding struck_by nothing either
struck-turn fields (field days) i j a b = refl
struck-turn fields (gap k l lo hi) i j a b = or_comm (outside fields k l lo hi i j a b) (outside fields k l lo hi j i b a)
struck-turn fields (strike k l c d) i j a b = pair_turn k l c d i j a b

pub struck-all-turn : (fields : List (List ℕ)) (rs : List Record) (i j a b : ℕ) → struck_by_all fields rs i j a b ≡ struck_by_all fields rs j i b a
unfolding struck_by_all nothing either
struck-all-turn fields [] i j a b = refl
struck-all-turn fields (r ∷ rs) i j a b = ap₂ ◌||◌ (struck-turn fields r i j a b) (struck-all-turn fields rs i j a b)

-- the opening table

pub opening-formed : (fields : List (List ℕ)) (rs : List Record) → GoodFields fields → WellFormed (length fields) (size_of (map length fields)) (opening fields rs)
unfolding opening
opening-formed fields rs g = strike_wf (struck_by_all fields rs) (λ i j a b hi hj. struck-all-turn fields rs i j a b) (everything-formed fields g)

-- its words stand for it
pub opening-words : (fields : List (List ℕ)) (rs : List Record) → GoodFields fields → Agree (length fields) (rel (length fields) (words (length fields) (opening fields rs))) (opening fields rs)
opening-words fields rs g = rel-words (length fields) (opening fields rs) (λ i j a b hi hj. pair_small (opening-formed fields rs g) i j a b hi hj)

-- and pass the checks of a table
pub opening-good : (fields : List (List ℕ)) (rs : List Record) → 1 ≤ length fields → GoodFields fields → GoodTable (map length fields) (words (length fields) (opening fields rs))
opening-good fields rs h g =
    let n = length fields in
    let R = opening fields rs in
    record {
      good = good-sizes fields h g;
      long = rw (length-map fields length) (length-words n R);
      formed = rw (length-map fields length) (agree_wf n R (rel n (words n R)) (agree_sym n (rel n (words n R)) R (opening-words fields rs g)) (opening-formed fields rs g));
    }

-- When reading a date text answers what, and that its answer is determined.
use Rattle.std.specs.Prelude.{◌≡◌, refl, ◌↔◌, ◌⊎◌, Bool, true, false, cond, ℕ, ◌≤◌, ◌<◌, T, length, get_or, take, Result, Ok, Err}
use Rattle.std.proofs.Common.{sym, ap, ◌∙◌, inl, inr, arith}
use mathlib.Core.List.Memᴰ
use mathlib.Core.List.{List, [], ◌∷◌, Memᴰ}
use Rattle.std.proofs.Math.ListN.{get_or-append}
use Rattle.std.proofs.Math.Seq.{take-append_seam}
use Rattle.refusal.specs.declared.Refusal.{Refusal}
use Rattle.refusal.specs.declared.Refusal.TheVariants.{Shapeless, Unreal}
use Rattle.refusal.specs.Said.{Said, says, refused}
use Rattle.refusal.specs.RefusalLaws.{numbered}
use Rattle.refusal.proofs.Determined.{refused_determines, answer_determined}
use Rattle.calendar.specs.declared.Days.{Days}
use Rattle.calendar.specs.Calendar.{last_day}
use Rattle.calendar.specs.Numbering.{day_upto}
use Rattle.calendar.specs.DateText.{dates_most, shaped_date, days_of, shown, means, Writing, Reading}
use Rattle.calendar.specs.DateTextLaws.{shaped_iff, shaped_means, means_shaped, means_iff}
use Rattle.calendar.specs.DateAnswers.{padded, days_in, days_say, date_says, ReadsDate}
use Rattle.calendar.specs.DaysFound.{Answers, Refuses}

-- what is said, by cases of the shape and of the list of days

says_19 : (b : Bool) (l : List ℕ) → (T b → ⊥) → cond b (days_say l) (says 19 []) ≡ says 19 []
says_19 true l f = absurd (f tt)
says_19 false l f = refl

only_19 : (b : Bool) (l : List ℕ) → cond b (days_say l) (says 19 []) ≡ says 19 [] → T b → ⊥
only_19 true [] e t = omega (arith, ap (λ (s : Said). s.state) e)
only_19 true (n ∷ l) e t = omega (arith, ap (λ (s : Said). s.state) e)
only_19 false l e t = t

says_20 : (b : Bool) (l : List ℕ) → T b → ((n : ℕ) → Memᴰ n l → ⊥) → cond b (days_say l) (says 19 []) ≡ says 20 []
says_20 true [] t f = refl
says_20 true (n ∷ l) t f = absurd (f n (Memᴰ.head refl))
says_20 false l t f = absurd t

only_20 : (b : Bool) (l : List ℕ) → cond b (days_say l) (says 19 []) ≡ says 20 [] → T b × ((n : ℕ) → Memᴰ n l → ⊥)
only_20 true [] e = (tt, λ n m. Memᴰ.not-nil m)
only_20 true (n ∷ l) e = absurd (omega (arith, ap (λ (s : Said). s.state) e))
only_20 false l e = absurd (omega (arith, ap (λ (s : Said). s.state) e))

says_0 : (b : Bool) (l : List ℕ) (n : ℕ) → T b → Memᴰ n l → cond b (days_say l) (says 19 []) ≡ says 0 (length l ∷ [])
says_0 true [] n t m = absurd (Memᴰ.not-nil m)
says_0 true (x ∷ l) n t m = refl
says_0 false l n t m = absurd t

only_0 : (b : Bool) (l : List ℕ) → cond b (days_say l) (says 19 []) ≡ says 0 (length l ∷ []) → (n : ℕ) × Memᴰ n l
only_0 true [] e = absurd (omega (arith, ap (λ (s : Said). s.state) e))
only_0 true (x ∷ l) e = (x, Memᴰ.head refl)
only_0 false l e = absurd (omega (arith, ap (λ (s : Said). s.state) e))

-- 19 exactly when the text is the writing of no two numbers of two digits with a year of the century
pub shapeless_iff : (sep : ℕ → Bool) (text : List ℕ) → (date_says sep text ≡ says 19 []) ↔ (Writing sep text → ⊥)
unfolding date_says
shapeless_iff sep text = (λ e w. only_19 (shaped_date sep text) (means sep text) e ((shaped_iff sep text).1 w), λ f. says_19 (shaped_date sep text) (means sep text) (λ t. f ((shaped_iff sep text).0 t)))

-- 20 exactly when it is such a writing, and that of no real date
pub unreal_iff : (sep : ℕ → Bool) (text : List ℕ) → (date_says sep text ≡ says 20 []) ↔ (Writing sep text × ((n : ℕ) → Reading sep text n → ⊥))
unfolding date_says
unreal_iff sep text = (there, λ w. says_20 (shaped_date sep text) (means sep text) ((shaped_iff sep text).1 w.0) (λ n m. w.1 n ((means_iff sep text n).0 m)))
  where
    there : cond (shaped_date sep text) (days_say (means sep text)) (says 19 []) ≡ says 20 [] → Writing sep text × ((n : ℕ) → Reading sep text n → ⊥)
    there e = let w = only_20 (shaped_date sep text) (means sep text) e in ((shaped_iff sep text).0 w.0, λ n r. w.1 n ((means_iff sep text n).1 r))

-- the number of its days exactly when it is the writing of a real date
pub meant_iff : (sep : ℕ → Bool) (text : List ℕ) → (date_says sep text ≡ says 0 (length (means sep text) ∷ [])) ↔ ((n : ℕ) × Reading sep text n)
unfolding date_says
meant_iff sep text = (there, λ w. let m = (means_iff sep text w.0).1 w.1 in says_0 (shaped_date sep text) (means sep text) w.0 (means_shaped sep text w.0 m) m)
  where
    there : cond (shaped_date sep text) (days_say (means sep text)) (says 19 []) ≡ says 0 (length (means sep text) ∷ []) → (n : ℕ) × Reading sep text n
    there e = let w = only_0 (shaped_date sep text) (means sep text) e in (w.0, (means_iff sep text w.0).0 w.1)

-- every day lies in the century
pub means_within : (sep : ℕ → Bool) (text : List ℕ) (n : ℕ) → Memᴰ n (means sep text) → n ≤ last_day
means_within sep text n m = let r = (means_iff sep text n).0 m in rw (← r.number) (day_upto r.meant r.of_century)

-- no day is lost among the zeros
pub padded-front : (k : ℕ) (l : List ℕ) → take (length l) (padded k l) ≡ l
padded-front k l = take-append_seam l _

-- and each stands at its place
pub padded_at : (k : ℕ) (l : List ℕ) (i : ℕ) → i < length l → get_or (padded k l) i 0 ≡ get_or l i 0
padded_at k l i h = get_or-append l _ 0 i h

-- how an answer is reached

pub reads_shaped : (sep : ℕ → Bool) (text : List ℕ) (r : Result Days Refusal) → T (shaped_date sep text) → Answers (days_of (shown text)) r → ReadsDate sep text r
unfolding date_says
reads_shaped sep text r h a = record {
  said = rw (shaped_means sep text h) (a.said ∙ go (shaped_date sep text) h);
  days = rw (shaped_means sep text h) a.days;
}
  where
    go : (b : Bool) → T b → days_say (days_of (shown text)) ≡ cond b (days_say (days_of (shown text))) (says 19 [])
    go true t = refl
    go false t = absurd t

pub reads_shapeless : (sep : ℕ → Bool) (text : List ℕ) (r : Result Days Refusal) → shaped_date sep text ≡ false → Refuses Shapeless r → ReadsDate sep text r
unfolding date_says means
reads_shapeless sep text r e a = record { said = rw e a.said; days = rw e a.days }

-- what an answer tells

tells_days : (b : Bool) (l : List ℕ) (c : ℕ) → says 0 (c ∷ []) ≡ cond b (days_say l) (says 19 []) → T b × (c ≡ length l) × (1 ≤ c)
tells_days true [] c e = absurd (omega (arith, ap (λ (s : Said). s.state) e))
tells_days true (x ∷ l) c e = let d = ap (λ (s : Said). get_or s.values 0 0) e in (tt, d, omega arith)
tells_days false l c e = absurd (omega (arith, ap (λ (s : Said). s.state) e))

tells_refusal : (b : Bool) (l : List ℕ) (q : Refusal) → refused q ≡ cond b (days_say l) (says 19 []) → ((T b → ⊥) × (q ≡ Shapeless)) ⊎ (T b × (l ≡ []) × (q ≡ Unreal))
tells_refusal true [] q e = inr (tt, refl, refused_determines q Unreal e)
tells_refusal true (x ∷ l) q e = absurd (omega (arith, ap (λ (s : Said). s.state) e, numbered q))
tells_refusal false l q e = inl (λ t. t, refused_determines q Shapeless e)

-- an answer of days: the text has the shape, and means so many, and these
pub reads_days : (sep : ℕ → Bool) (text : List ℕ) (r : Result Days Refusal) → ReadsDate sep text r → (d : Days) → r ≡ Ok d → T (shaped_date sep text) × (d.count ≡ length (means sep text)) × (1 ≤ d.count) × (d.days ≡ padded dates_most (means sep text))
unfolding date_says
reads_days sep text r h d e =
    let t = tells_days (shaped_date sep text) (means sep text) d.count (rw e at h.said) in
    (t.0, t.1, t.2, rw e at h.days)

-- a refusal: 19 without the shape, 20 with it and no day
pub reads_refused : (sep : ℕ → Bool) (text : List ℕ) (r : Result Days Refusal) → ReadsDate sep text r → (q : Refusal) → r ≡ Err q → ((T (shaped_date sep text) → ⊥) × (q ≡ Shapeless)) ⊎ (T (shaped_date sep text) × (means sep text ≡ []) × (q ≡ Unreal))
unfolding date_says
reads_refused sep text r h q e = tells_refusal (shaped_date sep text) (means sep text) q (rw e at h.said)

-- an answer is determined by what it says and its days

-- two lists of days alike
same_days : {d e : Days} → d.count ≡ e.count → d.days ≡ e.days → d ≡ e
same_days p q = λ i. record { count = p i; days = q i }

pub reads_unique : (sep : ℕ → Bool) (text : List ℕ) (r s : Result Days Refusal) → ReadsDate sep text r → ReadsDate sep text s → r ≡ s
reads_unique sep text r s a b = answer_determined (λ d. says 0 (d.count ∷ [])) (λ d. refl) r s one (a.said ∙ sym b.said)
  where
    one : (d e : Days) → r ≡ Ok d → s ≡ Ok e → says 0 (d.count ∷ []) ≡ says 0 (e.count ∷ []) → d ≡ e
    one d e p q h = same_days (ap (λ (x : Said). get_or x.values 0 0) h) (sym (ap days_in p) ∙ a.days ∙ sym b.days ∙ ap days_in q)

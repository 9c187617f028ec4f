-- What reading a date text answers, in the paper's numbers (01, "Dates and sheets", "Numbers given back").
use Rattle.std.specs.Prelude.{◌≡◌, Bool, cond, List, [], ◌∷◌, ◌++◌, ℕ, ◌-◌, length, replicate, Result, Ok, Err}
use Rattle.refusal.specs.declared.Refusal.{Refusal}
use Rattle.refusal.specs.Said.{Said, says, said_by}
use Rattle.calendar.specs.declared.Days.{Days}
use Rattle.calendar.specs.DateText.{dates_most, shaped_date, means}

-- the list, then zeros, k entries in all
abbrev pub padded : ℕ → List ℕ → List ℕ
padded k l = l ++ replicate (k - length l) 0

-- 0 and the number of days, or the refusal's number
abbrev pub said_date : Result Days Refusal → Said
said_date = said_by (λ d. says 0 (d.count ∷ []))

-- the days of an answer: a refusal has none
abbrev pub days_in : Result Days Refusal → List ℕ
days_in (Ok d) = d.days
days_in (Err r) = padded dates_most []

-- 20 where a text of the shape means no day
abbrev pub days_say : List ℕ → Said
days_say [] = says 20 []
days_say (n ∷ l) = says 0 (length (n ∷ l) ∷ [])

-- 19 where the shape or the year is wrong
unfoldable pub date_says : (ℕ → Bool) → List ℕ → Said
date_says sep text = cond (shaped_date sep text) (days_say (means sep text)) (says 19 [])

-- r is the answer to a text: what is said of it, and its days
pub record ReadsDate (sep : ℕ → Bool) (text : List ℕ) (r : Result Days Refusal) : Type 0 where
  pub said : said_date r ≡ date_says sep text
  pub days : days_in r ≡ padded dates_most (means sep text)

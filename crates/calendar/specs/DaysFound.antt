-- The days found in a text so far, and the answer made of them: what the inner functions promise one another.
use Rattle.std.specs.Prelude.{◌≡◌, List, [], ℕ, ◌<◌, T, length, take, Result}
use Rattle.refusal.specs.declared.Refusal.{Refusal}
use Rattle.refusal.specs.Said.{refused}
use Rattle.calendar.specs.declared.Days.{Days}
use Rattle.calendar.specs.Ascending.{ascending}
use Rattle.calendar.specs.DateText.{dates_most}
use Rattle.calendar.specs.DateAnswers.{padded, said_date, days_in, days_say}

-- f keeps the days l
pub record Holds (l : List ℕ) (f : Days) : Type 0 where
  pub count : f.count ≡ length l
  pub days : f.days ≡ padded dates_most l

-- the days that f keeps
abbrev pub held : Days → List ℕ
held f = take f.count f.days

-- f keeps its days in order, and has a place left
pub record Room (f : Days) : Type 0 where
  pub holds : Holds (held f) f
  pub in_order : T (ascending (held f))
  pub left : f.count < dates_most

-- r is the answer of a text of the shape that means the days l
pub record Answers (l : List ℕ) (r : Result Days Refusal) : Type 0 where
  pub said : said_date r ≡ days_say l
  pub days : days_in r ≡ padded dates_most l

-- r refuses a text
pub record Refuses (why : Refusal) (r : Result Days Refusal) : Type 0 where
  pub said : said_date r ≡ refused why
  pub days : days_in r ≡ padded dates_most []

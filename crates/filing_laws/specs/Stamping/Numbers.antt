-- Of the numbers of loads and commits.
use Rattle.std.specs.Prelude.{◌≡◌, ◌↔◌, ℕ, ◌<◌, max, Bool, true, cond, List, [], ◌∷◌, ◌++◌, Option, Some, None, option_and_then, nat_lt}
use Rattle.std.specs.List.{list_any, range_with_len, reduce}
use Rattle.filing_model.specs.Sessions.Things.{Thing}
use Rattle.filing_model.specs.Histories.History.{Entry, History, opens, base_of, repository}
use Rattle.filing_model.specs.Histories.Touches.{touches, number_in, last_touch}
use Rattle.filing_model.specs.Histories.Lawful.{IsLawful}
use Rattle.filing_model.specs.Histories.Versions.{counts}

-- the entry is one of the history, and these are the ones before it
pub record IsEntryOf (h : History) (e : Entry) (older : History) : Type 0 where
  pub newer : History
  pub place : h ≡ newer ++ e ∷ older

-- the numbers of the accepted loads and commits, in order
abbrev pub numbers : History → List ℕ
numbers [] = []
numbers (e ∷ older) = numbers older ++ cond (counts e.reply) (number_in e.reply ∷ []) []

-- they are 1, 2, 3 and so on, as many as the repository counts
abbrev pub NumbersRiseByOne : Type 0
NumbersRiseByOne = (h : History) → IsLawful h → numbers h ≡ range_with_len 1 (repository h).count

-- each is the count of the repository that its load or commit leaves
abbrev pub EachNumberIsTheCount : Type 0
EachNumberIsTheCount = (h : History) (e : Entry) (older : History) → IsLawful h → IsEntryOf h e older
    → counts e.reply ≡ true → number_in e.reply ≡ (repository (e ∷ older)).count

-- ---- later than an opening

-- whether the session's opening is among the entries
abbrev pub has_opening : ℕ → History → Bool
has_opening s h = list_any (opens s) h

-- a load or a commit comes after a session's opening exactly where its number is greater than that of the repository at the opening
abbrev pub NumbersTellWhatIsLater : Type 0
NumbersTellWhatIsLater =
    (h : History) (s : ℕ) (e : Entry) (older : History) → IsLawful h → has_opening s h ≡ true → IsEntryOf h e older
    → counts e.reply ≡ true
    → (has_opening s older ≡ true) ↔ ((base_of s h).count < number_in e.reply)

-- ---- touches

-- the numbers of the entries that pass a test
abbrev pub numbers_where : (Entry → History → Bool) → History → List ℕ
numbers_where test [] = []
numbers_where test (e ∷ older) =
    cond (test e older) (number_in e.reply ∷ numbers_where test older) (numbers_where test older)

-- the numbers of all loads and commits that touched the thing
abbrev pub touch_numbers : Thing → History → List ℕ
touch_numbers t = numbers_where (λ e older. touches e older t)

-- the greatest of them, which is a thing's stamp
abbrev pub greatest_touch : Thing → History → Option ℕ
greatest_touch t h = reduce max (touch_numbers t h)

-- it is that of the newest: each load or commit that touches a thing gives it a new stamp, and every other entry leaves its stamp
abbrev pub EachTouchIsTheGreatest : Type 0
EachTouchIsTheGreatest = (h : History) (e : Entry) (t : Thing) → IsLawful (e ∷ h)
    → greatest_touch t (e ∷ h) ≡ cond (touches e h t) (Some (number_in e.reply)) (greatest_touch t h)

-- the number where it is greater than this one
abbrev pub above : ℕ → Option ℕ → Option ℕ
above n o = option_and_then (λ m. cond (nat_lt n m) (Some m) None) o

-- a thing was touched since a session's opening exactly where its stamp is greater than the number of the repository at the opening, and the stamp is then the number of its last touch
abbrev pub StampsTellTheLastTouch : Type 0
StampsTellTheLastTouch = (h : History) (s : ℕ) (t : Thing) → IsLawful h
    → last_touch s t h ≡ above (base_of s h).count (greatest_touch t h)

-- Of the marks that commits leave, from which the stamps of ranges are read.
use Rattle.std.specs.Prelude.{◌≡◌, ◌↔◌, ℕ, ◌≤◌, max, Bool, true, false, cond, ◌&&◌, List, ◌∷◌, Option, Some, None, is_some, MatchOption}
use Rattle.std.specs.List.{reduce}
use Rattle.std.specs.Option.{option_eq, option_map_or}
use Rattle.filing_model.specs.Common.Text.{Text, text_eq}
use Rattle.filing_model.specs.Oim.Dimensions.{concept_of, period_of}
use Rattle.filing_model.specs.Oim.Facts.{Fact}
use Rattle.filing_model.specs.Sessions.Repository.{Repository}
use Rattle.filing_model.specs.Sessions.Calls.{PageQuery}
use Rattle.filing_model.specs.Sessions.Queries.{is_asked}
use Rattle.filing_model.specs.Sessions.Replies as reply
use Rattle.filing_model.specs.Sessions.Replies.{Reply}
use Rattle.filing_model.specs.Sessions.Things.{Range}
use Rattle.filing_model.specs.Sessions.Changes.{Change, change_at}
use Rattle.filing_model.specs.Histories.History.{Entry, History, repository}
use Rattle.filing_model.specs.Histories.Touches.{passes_at, is_within, net_change_of, touches, number_in}
use Rattle.filing_model.specs.Histories.Lawful.{IsLawful}
use Rattle.filing_laws.specs.Stamping.Numbers.{numbers_where, greatest_touch}

-- where the fact of an identifier stands for pages: in a report, under a concept and a period or none
pub record Mark : Type 0 where
  pub report : Text
  pub concept : Text
  pub period : Option Text
  pub id : Text

-- whether a fact has the concept and exactly that period or none
abbrev pub stands_at : Mark → Fact → Bool
stands_at mark fact =
    option_eq text_eq (Some mark.concept) (concept_of fact.dims) && option_eq text_eq mark.period (period_of fact.dims)

-- whether a change leaves the mark: the identifier is changed, and its fact stands there before or after
abbrev pub is_marked : Repository → Repository → Change → Mark → Bool
is_marked before after change mark =
    is_some (change_at change mark.report mark.id) && passes_at (stands_at mark) before after mark.report mark.id

abbrev pub is_marked_by : Entry → History → Mark → Bool
is_marked_by e older mark =
    option_map_or (λ s. is_marked (repository older) (repository (e ∷ older)) (net_change_of s older) mark)
    e.session false

-- a commit leaves the marks of its net change. No other entry leaves any
abbrev pub marks_with : Reply → Entry → History → Mark → Bool
marks_with (reply.Committed n) e older mark = is_marked_by e older mark
marks_with _ e older mark = false

abbrev pub marks : Entry → History → Mark → Bool
marks e older mark = marks_with e.reply e older mark

-- the numbers of all commits that left the mark
abbrev pub mark_numbers : Mark → History → List ℕ
mark_numbers mark = numbers_where (λ e older. marks e older mark)

-- the greatest of them, which is the mark's stamp
abbrev pub greatest_mark : Mark → History → Option ℕ
greatest_mark mark h = reduce max (mark_numbers mark h)

-- it is that of the newest
abbrev pub EachMarkIsTheGreatest : Type 0
EachMarkIsTheGreatest =
    (h : History) (e : Entry) (mark : Mark) → IsLawful (e ∷ h)
    → greatest_mark mark (e ∷ h) ≡ cond (marks e h mark) (Some (number_in e.reply)) (greatest_mark mark h)

-- ---- ranges

-- the mark is of the range's report and concept, of a period that passes its filter, and of an identifier within its ends
pub record LiesIn (name : Text) (query : PageQuery) (upto : Option Text) (mark : Mark) : Type 0 where
  pub report : mark.report ≡ name
  pub concept : mark.concept ≡ query.concept
  pub period : is_asked query.period mark.period ≡ true
  pub within : is_within query.after upto mark.id ≡ true

-- an entry leaves a mark that lies in the range
pub record IsMarkedIn (e : Entry) (older : History) (name : Text) (query : PageQuery) (upto : Option Text)
    : Type 0 where
  pub mark : Mark
  pub lies : LiesIn name query upto mark
  pub left : marks e older mark ≡ true

-- an entry touches a range exactly where it leaves a mark in it
abbrev pub RangesAreTouchedByMarks : Type 0
RangesAreTouchedByMarks =
    (e : Entry) (older : History) (name : Text) (query : PageQuery) (upto : Option Text)
    → (touches e older (Range name query upto) ≡ true) ↔ IsMarkedIn e older name query upto

-- the number is the greatest stamp of a mark in the range
pub record IsGreatestIn (h : History) (name : Text) (query : PageQuery) (upto : Option Text) (n : ℕ) : Type 0 where
  pub mark : Mark
  pub lies : LiesIn name query upto mark
  pub is : greatest_mark mark h ≡ Some n
  pub most : (other : Mark) (k : ℕ) → LiesIn name query upto other → greatest_mark other h ≡ Some k → k ≤ n

-- no mark in the range has a stamp
abbrev pub HasNoMarkIn : History → Text → PageQuery → Option Text → Type 0
HasNoMarkIn h name query upto = (mark : Mark) → LiesIn name query upto mark → greatest_mark mark h ≡ None

-- what the stamp of a range is by the marks in it
abbrev pub IsStampIn : History → Text → PageQuery → Option Text → Option ℕ → Type 0
IsStampIn h name query upto stamp =
    MatchOption stamp (HasNoMarkIn h name query upto) (IsGreatestIn h name query upto)

-- the stamp of a range is the greatest of those of the marks in it, and it has none exactly where they have none
abbrev pub EachRangeHasTheGreatestOfItsMarks : Type 0
EachRangeHasTheGreatestOfItsMarks =
    (h : History) (name : Text) (query : PageQuery) (upto : Option Text) (stamp : Option ℕ) → IsLawful h
    → (greatest_touch (Range name query upto) h ≡ stamp) ↔ IsStampIn h name query upto stamp

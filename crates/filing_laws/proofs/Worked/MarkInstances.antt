-- The laws of marks at worked histories: each premise is met there, and what the law says of it computes.
use Rattle.std.proofs.Common.{◌≡◌, refl, ◌≤◌, List, [], ◌∷◌, ◌++◌, Option, Some, None, take, true, false}
use Rattle.std.specs.Prelude.{codes}
use Rattle.filing_model.specs.Common.Text.{Text}
use Rattle.filing_model.specs.Sessions.Calls.{Any, Without, Exactly}
use Rattle.filing_model.specs.Sessions.Replies.{Committed}
use Rattle.filing_model.specs.Sessions.Things.{Range}
use Rattle.filing_model.specs.Histories.History.{Entry, Commit, History}
use Rattle.filing_model.specs.Histories.Touches.{touches}
use Rattle.filing_model.proofs.Examples.Setting.{Line, raw, amend, query, adds, removes, commits, played}
use Rattle.filing_model.proofs.Examples.Histories.{r1, loads}
use Rattle.filing_model.proofs.Examples.Ranges.{with_periods}
use Rattle.filing_laws.specs.Stamping.Numbers.{greatest_touch}
use Rattle.filing_laws.specs.Stamping.Marks.{Mark, marks, greatest_mark, LiesIn, IsMarkedIn, IsGreatestIn, HasNoMarkIn}
use Rattle.filing_laws.proofs.Stamping.TouchedRanges.{ranges_are_touched_by_marks}
use Rattle.filing_laws.proofs.Stamping.MarkStamps.{each_mark_is_the_greatest, each_range_has_the_greatest_of_its_marks}
use Rattle.filing_laws.proofs.Worked.Instances.{played_is_lawful}

-- a report with a fact a without a period and a fact b of 2024 is loaded. The second commit removes a, and the third b
abbrev removing_lines : List Line
removing_lines =
    loads with_periods ∷ amend ∷ amend ∷ removes 1 r1 (codes "a") ∷ removes 2 r1 (codes "b") ∷ commits 1 ∷ commits 2 ∷ []

abbrev removed : History
removed = played removing_lines

abbrev half_removed : History
half_removed = played (take 6 removing_lines)

abbrev last_commit : Entry
last_commit = record { session = Some 2; step = Commit; reply = Committed 3 }

abbrev first_commit : Entry
first_commit = record { session = Some 1; step = Commit; reply = Committed 2 }

abbrev none_removed : History
none_removed = played (take 5 removing_lines)

-- then a fact c without a period is added
abbrev adding_lines : List Line
adding_lines = removing_lines ++ amend ∷ adds 3 r1 (codes "c") (raw (codes "x")) ∷ commits 3 ∷ []

abbrev added : History
added = played adding_lines

abbrev mark_of : Text → Option Text → Mark
mark_of id period = record { report = r1; concept = codes "ex:Name"; period = period; id = id }

-- ---- marks

pub last_commit_is_last : removed ≡ last_commit ∷ half_removed
last_commit_is_last = refl

pub last_commit_marks_b : marks last_commit half_removed (mark_of (codes "b") (Some (codes "2024"))) ≡ true
last_commit_marks_b = refl

-- its fact has no other period, and is not without one
pub last_commit_marks_one_period : marks last_commit half_removed (mark_of (codes "b") None) ≡ false
last_commit_marks_one_period = refl

-- a fact that stands there, but was not changed, is not marked
pub first_commit_does_not_mark_b : marks first_commit none_removed (mark_of (codes "b") (Some (codes "2024"))) ≡ false
first_commit_does_not_mark_b = refl

pub last_commit_does_not_mark_a : marks last_commit half_removed (mark_of (codes "a") None) ≡ false
last_commit_does_not_mark_a = refl

pub stamp_of_b : greatest_mark (mark_of (codes "b") (Some (codes "2024"))) removed ≡ Some 3
stamp_of_b = each_mark_is_the_greatest half_removed last_commit (mark_of (codes "b") (Some (codes "2024"))) (played_is_lawful removing_lines)

pub stamp_of_a : greatest_mark (mark_of (codes "a") None) removed ≡ Some 2
stamp_of_a = each_mark_is_the_greatest half_removed last_commit (mark_of (codes "a") None) (played_is_lawful removing_lines)

-- what was added is marked too
pub stamp_of_c : greatest_mark (mark_of (codes "c") None) added ≡ Some 4
stamp_of_c = each_mark_is_the_greatest (played (take 9 adding_lines)) (record { session = Some 3; step = Commit; reply = Committed 4 }) (mark_of (codes "c") None) (played_is_lawful adding_lines)

-- a load marks nothing
pub load_leaves_no_mark : greatest_mark (mark_of (codes "a") None) none_removed ≡ None
load_leaves_no_mark = refl

-- ---- ranges

pub b_lies_in_any_period : LiesIn r1 (query Any None) None (mark_of (codes "b") (Some (codes "2024")))
b_lies_in_any_period = record { report = refl; concept = refl; period = refl; within = refl }

pub a_lies_in_any_period : LiesIn r1 (query Any None) None (mark_of (codes "a") None)
a_lies_in_any_period = record { report = refl; concept = refl; period = refl; within = refl }

-- a range holds its end, and not the identifier that it goes on after
pub b_lies_up_to_itself : LiesIn r1 (query (Exactly (codes "2024")) None) (Some (codes "b")) (mark_of (codes "b") (Some (codes "2024")))
b_lies_up_to_itself = record { report = refl; concept = refl; period = refl; within = refl }

pub b_does_not_lie_behind_itself : ¬ LiesIn r1 (query Any (Some (codes "b"))) None (mark_of (codes "b") (Some (codes "2024")))
b_does_not_lie_behind_itself lies = let apart : false ≡ true = lies.within in cc

pub b_does_not_lie_up_to_a : ¬ LiesIn r1 (query Any None) (Some (codes "a")) (mark_of (codes "b") (Some (codes "2024")))
b_does_not_lie_up_to_a lies = let apart : false ≡ true = lies.within in cc

pub b_does_not_lie_without_a_period : ¬ LiesIn r1 (query Without None) None (mark_of (codes "b") (Some (codes "2024")))
b_does_not_lie_without_a_period lies = let apart : false ≡ true = lies.period in cc

pub last_commit_touches_any_period : touches last_commit half_removed (Range r1 (query Any None) None) ≡ true
last_commit_touches_any_period =
    (ranges_are_touched_by_marks last_commit half_removed r1 (query Any None) None).1
    (record { mark = mark_of (codes "b") (Some (codes "2024")); lies = b_lies_in_any_period; left = refl })

-- what lies behind the end of a range was not touched, so no mark was left before it
pub last_commit_marks_nothing_up_to_a : ¬ IsMarkedIn last_commit half_removed r1 (query Any None) (Some (codes "a"))
last_commit_marks_nothing_up_to_a is =
    let touched : false ≡ true = (ranges_are_touched_by_marks last_commit half_removed r1 (query Any None) (Some (codes "a"))).1 is in
    cc

pub any_period_was_touched_last_by_3 : IsGreatestIn removed r1 (query Any None) None 3
any_period_was_touched_last_by_3 = (each_range_has_the_greatest_of_its_marks removed r1 (query Any None) None (Some 3) (played_is_lawful removing_lines)).0 refl

-- the mark of a lies in it too, and its stamp is no greater
pub a_was_marked_no_later : 2 ≤ 3
a_was_marked_no_later = any_period_was_touched_last_by_3.most (mark_of (codes "a") None) 2 a_lies_in_any_period stamp_of_a

pub up_to_a_was_touched_last_by_2 : IsGreatestIn removed r1 (query Any None) (Some (codes "a")) 2
up_to_a_was_touched_last_by_2 = (each_range_has_the_greatest_of_its_marks removed r1 (query Any None) (Some (codes "a")) (Some 2) (played_is_lawful removing_lines)).0 refl

pub behind_a_was_touched_last_by_3 : IsGreatestIn removed r1 (query Any (Some (codes "a"))) None 3
behind_a_was_touched_last_by_3 = (each_range_has_the_greatest_of_its_marks removed r1 (query Any (Some (codes "a"))) None (Some 3) (played_is_lawful removing_lines)).0 refl

pub without_a_period_was_touched_last_by_2 : IsGreatestIn removed r1 (query Without None) None 2
without_a_period_was_touched_last_by_2 = (each_range_has_the_greatest_of_its_marks removed r1 (query Without None) None (Some 2) (played_is_lawful removing_lines)).0 refl

pub then_touched_last_by_4 : IsGreatestIn added r1 (query Without None) None 4
then_touched_last_by_4 = (each_range_has_the_greatest_of_its_marks added r1 (query Without None) None (Some 4) (played_is_lawful adding_lines)).0 refl

pub another_period_has_no_mark : HasNoMarkIn removed r1 (query (Exactly (codes "2023")) None) None
another_period_has_no_mark = (each_range_has_the_greatest_of_its_marks removed r1 (query (Exactly (codes "2023")) None) None None (played_is_lawful removing_lines)).0 refl

-- so the stamp of the range is told by its marks alone
pub stamp_of_another_period : greatest_touch (Range r1 (query (Exactly (codes "2023")) None) None) removed ≡ None
stamp_of_another_period = (each_range_has_the_greatest_of_its_marks removed r1 (query (Exactly (codes "2023")) None) None None (played_is_lawful removing_lines)).1 another_period_has_no_mark

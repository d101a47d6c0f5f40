-- The laws of numbers at worked histories: each premise is met there, and what the law says of them computes.
use Rattle.std.proofs.Common.{◌≡◌, refl, arith, ◌<◌, [], ◌∷◌, Some, None, take, true}
use Rattle.std.specs.Prelude.{codes}
use Rattle.filing_model.specs.Sessions.Replies.{Committed, Opened}
use Rattle.filing_model.specs.Sessions.Things.{Id}
use Rattle.filing_model.specs.Histories.History.{Entry, Open, Commit, History, base_of, repository}
use Rattle.filing_model.specs.declared.kind.Kind.TheVariants.{Amend}
use Rattle.filing_model.specs.Histories.Touches.{last_touch}
use Rattle.filing_model.proofs.Examples.Setting.{played}
use Rattle.filing_model.proofs.Examples.Histories.{r1, earliest_thing_lines, no_net_change_lines}
use Rattle.filing_laws.specs.Stamping.Numbers.{IsEntryOf, numbers, has_opening, greatest_touch}
use Rattle.filing_laws.proofs.Stamping.RisingNumbers.{numbers_rise_by_one, each_number_is_the_count, numbers_tell_what_is_later}
use Rattle.filing_laws.proofs.Stamping.Stamps.{each_touch_is_the_greatest, stamps_tell_the_last_touch}
use Rattle.filing_laws.proofs.Worked.Instances.{played_is_lawful}

-- a load and three commits, of which the first changes f2, and both others f1. Session 1 opened before them all, session 3 after the first, and session 4 after the second
abbrev touched : History
touched = played earliest_thing_lines

pub touched_counts : numbers touched ≡ 1 ∷ 2 ∷ 3 ∷ 4 ∷ []
touched_counts = numbers_rise_by_one touched (played_is_lawful earliest_thing_lines)

pub stamp_of_f1 : greatest_touch (Id r1 (codes "f1")) touched ≡ Some 4
stamp_of_f1 = refl

pub stamp_of_f2 : greatest_touch (Id r1 (codes "f2")) touched ≡ Some 2
stamp_of_f2 = refl

pub first_opened_at : (base_of 1 touched).count ≡ 1
first_opened_at = refl

pub third_opened_at : (base_of 3 touched).count ≡ 2
third_opened_at = refl

-- the stamp 4 is above 1, so f1 was touched since the first opening, and last by number 4
pub f1_was_touched : last_touch 1 (Id r1 (codes "f1")) touched ≡ Some 4
f1_was_touched = stamps_tell_the_last_touch touched 1 (Id r1 (codes "f1")) (played_is_lawful earliest_thing_lines)

-- the stamp 2 is not above 2, so f2 was not touched since the third
pub f2_was_not_touched : last_touch 3 (Id r1 (codes "f2")) touched ≡ None
f2_was_not_touched = stamps_tell_the_last_touch touched 3 (Id r1 (codes "f2")) (played_is_lawful earliest_thing_lines)

-- ---- one commit, after both openings of a history

abbrev opened_twice : History
opened_twice = played (take 6 no_net_change_lines)

abbrev second_commit : Entry
second_commit = record { session = Some 2; step = Commit; reply = Committed 2 }

abbrev whole : History
whole = played no_net_change_lines

pub second_commit_is_there : IsEntryOf whole second_commit opened_twice
second_commit_is_there = record { newer = record { session = Some 1; step = Commit; reply = Committed 3 } ∷ []; place = refl }

pub second_commit_has_the_count : 2 ≡ (repository (second_commit ∷ opened_twice)).count
second_commit_has_the_count = each_number_is_the_count whole second_commit opened_twice (played_is_lawful no_net_change_lines) second_commit_is_there refl

pub first_opened_before_it : has_opening 1 opened_twice ≡ true
first_opened_before_it = (numbers_tell_what_is_later whole 1 second_commit opened_twice (played_is_lawful no_net_change_lines) refl second_commit_is_there refl).1 (omega arith)

-- the commit of an amendment whose net change is empty leaves every stamp
pub second_commit_leaves_stamps : greatest_touch (Id r1 (codes "g")) (second_commit ∷ opened_twice) ≡ None
second_commit_leaves_stamps = each_touch_is_the_greatest opened_twice second_commit (Id r1 (codes "g")) (played_is_lawful (take 7 no_net_change_lines))

-- ---- a commit before an opening

abbrev reader_opened : History
reader_opened = played (take 6 earliest_thing_lines)

abbrev first_change : Entry
first_change = record { session = Some 2; step = Commit; reply = Committed 2 }

abbrev third_opened : History
third_opened = played (take 8 earliest_thing_lines)

pub first_change_is_there : IsEntryOf third_opened first_change reader_opened
first_change_is_there = record { newer = record { session = Some 3; step = Open Amend; reply = Opened } ∷ []; place = refl }

-- the number 2 is not greater than the count at the third opening, so the commit does not come after that
pub third_did_not_open_before_it : ¬ (has_opening 3 reader_opened ≡ true)
third_did_not_open_before_it early =
    let greater : 2 < 2 = (numbers_tell_what_is_later third_opened 3 first_change reader_opened (played_is_lawful (take 8 earliest_thing_lines)) refl first_change_is_there refl).0 early in
    absurd (omega arith)

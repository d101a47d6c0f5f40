-- The law of serial validation at worked histories: write skew, a snapshot, and duplicates that are disallowed at a commit. Each premise is met there, and what the law says of them computes.
use Rattle.std.proofs.Common.{◌≡◌, ◌∙◌, ap, sym, refl, List, [], ◌∷◌, ◌++◌, All, Some, None, true, take}
use Rattle.std.proofs.lemmas.Option.{same_Some}
use Rattle.std.specs.Prelude.{codes}
use Rattle.filing_model.specs.Sessions.Repository.{Repository, nothing, with_report, with_fact_at}
use Rattle.filing_model.specs.Sessions.Calls as call
use Rattle.filing_model.specs.Sessions.Replies.{Reply, Absent, Found, Cell, Staged, Disallowed, Opened, Closed, Committed, Conflict}
use Rattle.filing_model.specs.Sessions.Things as thing
use Rattle.filing_model.specs.Sessions.Sessions.{Committing, Closing, Unended, solo, repository_obeys}
use Rattle.filing_model.specs.Histories.History.{Entry, Commit, History, Unknown, Live, Ended, status_of, calls_of, base_of, repository}
use Rattle.filing_model.specs.Histories.Lawful.{after_step}
use Rattle.filing_model.specs.declared.kind.Kind.TheVariants.{Review, Amend}
use Rattle.filing_model.specs.declared.duplicates.Allowed.TheVariants.{Never}
use Rattle.filing_model.specs.declared.duplicates.Class.TheVariants.{Empty, Complete}
use Rattle.filing_model.proofs.Examples.Setting.{report_with, raw_of, fact, fact_of, of_concept}
use Rattle.filing_model.specs.Common.TextMap.{empty}
use Rattle.filing_model.proofs.Examples.Histories.{r1, blank, write_skew_lines, snapshot_lines, no_duplicates_before, no_duplicates_lines, refused_leaves_nothing_lines}
use Rattle.filing_laws.specs.Histories.NextReply.{MayBeTaken}
use Rattle.filing_laws.specs.Histories.Played.{played, steps_of}
use Rattle.filing_laws.specs.Serial.WholeRuns.{all_replies_of, ending_of, before_commit, IsCommitted, without, Loading, Running, after_turns, turns_of, IsSerial}
use Rattle.filing_laws.proofs.Histories.PlayedHistories.{played_are_the_lawful}
use Rattle.filing_laws.proofs.Serial.LawfulIsSerial.{each_order_of_steps_is_serial, each_lawful_history_is_serial}

-- ---- write skew: each session reads the cell into which the other writes. The first is committed, and the second is told a conflict

abbrev skewed : History
skewed = played write_skew_lines

skewed_is_serial : IsSerial skewed
skewed_is_serial = each_order_of_steps_is_serial write_skew_lines

-- so it is by way of its being lawful
skewed_is_serial_as_lawful : IsSerial skewed
skewed_is_serial_as_lawful = each_lawful_history_is_serial skewed (played_are_the_lawful.lawful write_skew_lines)

abbrev loaded : Repository
loaded = with_report nothing r1 blank

abbrev first_left : Repository
first_left = record (with_fact_at loaded r1 (codes "b") (Some (fact_of (codes "ex:B") (codes "1")))) { count = 2 }

abbrev first_calls : List call.Call
first_calls = call.Cell r1 (of_concept (codes "ex:A")) ∷ call.Add r1 (codes "b") (raw_of (codes "ex:B") (codes "1")) ∷ []

pub first_was_committed : IsCommitted 1 skewed
first_was_committed = (2, refl)

pub first_ran_whole : (solo Amend loaded first_calls Committing).replies ≡ Opened ∷ Cell Empty [] ∷ Staged ∷ Committed 2 ∷ []
first_ran_whole = sym (skewed_is_serial.committed 1 first_was_committed).replies

pub first_left_its_result : (solo Amend loaded first_calls Committing).result ≡ first_left
first_left_its_result = sym (skewed_is_serial.committed 1 first_was_committed).effect

-- the second was told alone, at its opening, all but the conflict
pub second_ended_by_a_commit : ending_of 2 skewed ≡ Committing
second_ended_by_a_commit = refl

pub second_replied_as_at_its_opening : (r : Reply)
    × (Opened ∷ Cell Empty [] ∷ Staged ∷ Conflict 2 (thing.Cell r1 (of_concept (codes "ex:B"))) ∷ []
    ≡ (solo Amend loaded (calls_of 2 skewed) Unended).replies ++ r ∷ [])
second_replied_as_at_its_opening = skewed_is_serial.opened 2

pub second_was_not_committed : ¬ IsCommitted 2 skewed
second_was_not_committed (n, told) = let differ : Some (Conflict 2 (thing.Cell r1 (of_concept (codes "ex:B")))) ≡ Some (Committed n) = told in cc

pub second_left_nothing : repository (without 2 skewed) ≡ first_left
second_left_nothing = skewed_is_serial.refused.sessions 2 second_was_not_committed

abbrev before_conflict : History
before_conflict = played (take 8 write_skew_lines)

abbrev conflict : Entry
conflict = record { session = Some 2; step = Commit; reply = Conflict 2 (thing.Cell r1 (of_concept (codes "ex:B"))) }

pub conflict_changed_nothing : first_left ≡ repository before_conflict
conflict_changed_nothing = skewed_is_serial.refused.entries conflict before_conflict (record { newer = []; place = refl }) refl

pub skewed_versions_obey : All (λ c. repository_obeys c ≡ true) (nothing ∷ loaded ∷ first_left ∷ [])
skewed_versions_obey = skewed_is_serial.versions

pub skewed_turns : turns_of skewed ≡ Loading r1 blank ∷ Running first_calls ∷ []
skewed_turns = refl

pub skewed_in_turn : first_left ≡ after_turns nothing (Loading r1 blank ∷ Running first_calls ∷ [])
skewed_in_turn = skewed_is_serial.repository.sequential

pub skewed_newest : Some first_left ≡ Some (repository skewed)
skewed_newest = skewed_is_serial.repository.newest

pub stranger_was_told_nothing : all_replies_of 3 skewed ≡ []
stranger_was_told_nothing = skewed_is_serial.opened 3

-- ---- a snapshot: a review that opened before a commit reads the old fact after it, and commits, which closes it. A later one, which has not ended, reads the new fact

abbrev seen : History
seen = played snapshot_lines

seen_is_serial : IsSerial seen
seen_is_serial = each_order_of_steps_is_serial snapshot_lines

abbrev reads_f1 : List call.Call
reads_f1 = call.Get r1 (codes "f1") ∷ []

pub review_replied_as_at_its_opening : (solo Review (base_of 1 seen) reads_f1 Committing).replies ≡ Opened ∷ Found (fact (codes "old")) ∷ Closed ∷ []
review_replied_as_at_its_opening = sym (seen_is_serial.opened 1)

pub later_review_replied_as_at_its_opening : (solo Review (base_of 3 seen) reads_f1 Unended).replies ≡ Opened ∷ Found (fact (codes "new")) ∷ []
later_review_replied_as_at_its_opening = sym (seen_is_serial.opened 3)

pub amendment_was_committed : IsCommitted 2 seen
amendment_was_committed = (2, refl)

pub amendment_ran_whole : (solo Amend (before_commit 2 seen) (calls_of 2 seen) Committing).replies ≡ Opened ∷ Staged ∷ Staged ∷ Committed 2 ∷ []
amendment_ran_whole = sym (seen_is_serial.committed 2 amendment_was_committed).replies

pub review_was_not_committed : ¬ IsCommitted 1 seen
review_was_not_committed (n, told) = let differ : Some Closed ≡ Some (Committed n) = told in cc

pub review_left_nothing : repository (without 1 seen) ≡ repository seen
review_left_nothing = seen_is_serial.refused.sessions 1 review_was_not_committed

pub review_that_goes_on_left_nothing : repository (without 3 seen) ≡ repository seen
review_that_goes_on_left_nothing = seen_is_serial.refused.sessions 3 (λ p. let differ : None ≡ Some (Committed p.0) = p.1 in cc)

-- ---- allowed duplicates at the commit: two sessions add the same fact where none may stand twice, and the second is disallowed

abbrev single : History
single = played no_duplicates_lines

single_is_serial : IsSerial single
single_is_serial = each_order_of_steps_is_serial no_duplicates_lines

abbrev a_alone : Repository
a_alone = record (with_fact_at (with_report nothing r1 (report_with Never empty)) r1 (codes "a") (Some (fact (codes "x")))) { count = 2 }

pub adder_was_committed : IsCommitted 1 single
adder_was_committed = (2, refl)

pub adder_left_its_result : (solo Amend (before_commit 1 single) (calls_of 1 single) Committing).result ≡ a_alone
adder_left_its_result = sym (single_is_serial.committed 1 adder_was_committed).effect

pub duplicate_was_not_committed : ¬ IsCommitted 2 single
duplicate_was_not_committed (n, told) = let differ : Some (Disallowed r1 Complete (codes "a" ∷ codes "b" ∷ [])) ≡ Some (Committed n) = told in cc

pub duplicate_replied_as_at_its_opening : (r : Reply)
    × (Opened ∷ Staged ∷ Disallowed r1 Complete (codes "a" ∷ codes "b" ∷ []) ∷ []
    ≡ (solo Amend (base_of 2 single) (calls_of 2 single) Unended).replies ++ r ∷ [])
duplicate_replied_as_at_its_opening = single_is_serial.opened 2

pub duplicate_left_nothing : repository (without 2 single) ≡ a_alone
duplicate_left_nothing = single_is_serial.refused.sessions 2 duplicate_was_not_committed

pub refusal_changed_nothing : a_alone ≡ repository (played no_duplicates_before)
refusal_changed_nothing =
    single_is_serial.refused.entries
    (record { session = Some 2; step = Commit; reply = Disallowed r1 Complete (codes "a" ∷ codes "b" ∷ []) })
    (played no_duplicates_before) (record { newer = []; place = refl }) refl

pub single_versions_obey : All (λ c. repository_obeys c ≡ true) (nothing ∷ with_report nothing r1 (report_with Never empty) ∷ a_alone ∷ [])
single_versions_obey = single_is_serial.versions

-- ---- a refused and a closed session beside two that were committed

abbrev mixed : History
mixed = played refused_leaves_nothing_lines

mixed_is_serial : IsSerial mixed
mixed_is_serial = each_order_of_steps_is_serial refused_leaves_nothing_lines

pub closed_replied_as_at_its_opening : (solo Amend (base_of 3 mixed) (calls_of 3 mixed) Closing).replies ≡ Opened ∷ Staged ∷ Closed ∷ []
closed_replied_as_at_its_opening = sym (mixed_is_serial.opened 3)

pub closed_left_nothing : repository (without 3 mixed) ≡ repository mixed
closed_left_nothing = mixed_is_serial.refused.sessions 3 (λ p. let differ : None ≡ Some (Committed p.0) = p.1 in cc)

pub last_ran_whole : (solo Amend (before_commit 4 mixed) (calls_of 4 mixed) Committing).replies ≡ Opened ∷ Found (fact (codes "x")) ∷ Absent ∷ Committed 3 ∷ []
last_ran_whole = sym (mixed_is_serial.committed 4 (3, refl)).replies

-- ---- what is played

pub skewed_is_played : played (steps_of skewed) ≡ skewed
skewed_is_played = played_are_the_lawful.all skewed (played_are_the_lawful.lawful write_skew_lines)

-- a session that was never opened, and one that has ended, take no step
pub stranger_makes_no_entry : after_step skewed (Some 3) Commit ≡ skewed
stranger_makes_no_entry = played_are_the_lawful.no_entry skewed (Some 3) Commit not_open
  where
    not_open : ¬ MayBeTaken skewed (Some 3) Commit
    not_open (s, kind, ongoing) =
        let same : 3 ≡ s = same_Some 3 s ongoing.of_it in
        let differ : Unknown ≡ Live kind = ap (λ m. status_of m skewed) same ∙ ongoing.live in
        cc

pub refused_makes_no_entry : after_step skewed (Some 2) Commit ≡ skewed
refused_makes_no_entry = played_are_the_lawful.no_entry skewed (Some 2) Commit not_open
  where
    not_open : ¬ MayBeTaken skewed (Some 2) Commit
    not_open (s, kind, ongoing) =
        let same : 2 ≡ s = same_Some 2 s ongoing.of_it in
        let differ : Ended ≡ Live kind = ap (λ m. status_of m skewed) same ∙ ongoing.live in
        cc

-- The laws on the order of reading at worked histories: each premise is met there, and what the law says of them computes.
use Rattle.std.proofs.Common.{◌≡◌, refl, ℕ, List, [], ◌∷◌, ◌++◌, take, drop, reverse, Option, Some, None, true, false}
use Rattle.std.specs.Prelude.{codes}
use Rattle.filing_model.specs.Common.TextMap.{empty, insert}
use Rattle.filing_model.specs.Sessions.Repository.{Repository}
use Rattle.filing_model.specs.Sessions.Replies.{Reply, Found, Cell, Declared, Conflict, Committed, Absent}
use Rattle.filing_model.specs.Sessions.Things as thing
use Rattle.filing_model.specs.Histories.History.{Commit, Entry, History, repository}
use Rattle.filing_model.specs.Histories.Lawful.{IsLawful, IsNext}
use Rattle.filing_model.specs.declared.duplicates.Allowed.TheVariants.{Never, All}
use Rattle.filing_model.specs.declared.duplicates.Class.TheVariants.{Single, Complete}
use Rattle.filing_model.proofs.Examples.Setting.{played, with_last_reply, holding, fact}
use Rattle.filing_model.proofs.Examples.Histories.{r1, stored_run_lines, no_duplicates_lines}
use Rattle.filing_laws.specs.Histories.SameReplies.{reply_eq}
use Rattle.filing_laws.specs.Histories.ReadingOrder.{read_all, IsLawfulInOrder, follows, IsDeparture, IsFirstThatDoesNotFollow, departure_of}
use Rattle.filing_laws.proofs.Histories.SameReplies.{equal_replies_are_decided}
use Rattle.filing_laws.proofs.Histories.ReadingOrders.{each_repository_is_read_in_order, lawful_in_order_is_lawful}
use Rattle.filing_laws.proofs.Histories.ReadingOrders.{each_next_entry_is_decided}
use Rattle.filing_laws.proofs.Histories.ReadingOrders.{each_departure_is_the_first_that_does_not_follow}
use Rattle.filing_laws.proofs.Histories.ReadingOrders.{each_departure_is_determined}
use Rattle.filing_laws.proofs.Worked.Instances.{played_is_lawful}

-- ---- one session adds a fact, and the next reads it

abbrev stored : List Entry
stored = reverse (played stored_run_lines)

abbrev stored_repository : Repository
stored_repository = record { count = 2; reports = insert empty r1 (holding All ((codes "f1", fact (codes "Acme")) ∷ [])) }

pub repository_read_from_first : (read_all stored).repository ≡ stored_repository
repository_read_from_first = refl

pub repository_from_last : repository (played stored_run_lines) ≡ stored_repository
repository_from_last = refl

pub both_are_one : (read_all stored).repository ≡ repository (played stored_run_lines)
both_are_one = (each_repository_is_read_in_order stored).repository

pub stored_is_lawful_in_order : IsLawfulInOrder stored
stored_is_lawful_in_order = (lawful_in_order_is_lawful stored).1 (played_is_lawful stored_run_lines)

pub stored_is_lawful : IsLawful (played stored_run_lines)
stored_is_lawful = (lawful_in_order_is_lawful stored).0 stored_is_lawful_in_order

pub stored_departs_nowhere : departure_of stored ≡ None
stored_departs_nowhere = (each_departure_is_determined stored).lawful.1 stored_is_lawful

-- that computes too
pub stored_computes_no_departure : departure_of stored ≡ None
stored_computes_no_departure = refl

-- ---- the same without its second entry, which opened the session

abbrev never_opened : List Entry
never_opened = take 1 stored ++ drop 2 stored

pub never_opened_computes : departure_of never_opened ≡ Some 1
never_opened_computes = refl

pub never_opened_departs : IsDeparture never_opened 1
never_opened_departs = ((each_departure_is_determined never_opened).departs 1).0 refl

pub call_does_not_follow : IsFirstThatDoesNotFollow never_opened 1
call_does_not_follow = (each_departure_is_the_first_that_does_not_follow never_opened 1).0 never_opened_departs

-- the later entries would be unlawful too, and yet only the first of them is the departure
pub departs_nowhere_else : (i : ℕ) → IsDeparture never_opened i → i ≡ 1
departs_nowhere_else i departure = (each_departure_is_determined never_opened).one i 1 departure never_opened_departs

pub never_opened_is_not_lawful : ¬ IsLawful (reverse never_opened)
never_opened_is_not_lawful lawful = let apart : ◌≡◌ {A = Option ℕ} (Some 1) None = (each_departure_is_determined never_opened).lawful.1 lawful in cc

-- ---- a commit that should have been refused

abbrev before_second_commit : History
before_second_commit = played (take 6 no_duplicates_lines)

abbrev passed_commit : Entry
passed_commit = record { session = Some 2; step = Commit; reply = Committed 3 }

pub passed_commit_does_not_follow : follows before_second_commit passed_commit ≡ false
passed_commit_does_not_follow = refl

pub passed_commit_is_not_next : ¬ IsNext before_second_commit passed_commit
passed_commit_is_not_next next = let apart : false ≡ true = (each_next_entry_is_decided before_second_commit passed_commit (played_is_lawful (take 6 no_duplicates_lines))).1 next in cc

pub passed_commit_departs : departure_of (reverse (with_last_reply (Committed 3) (played no_duplicates_lines))) ≡ Some 6
passed_commit_departs = refl

-- ---- replies that are and are not the same

abbrev told : Reply
told = Cell Complete (codes "a" ∷ codes "b" ∷ [])

pub told_is_itself : reply_eq told told ≡ true
told_is_itself = (equal_replies_are_decided told told).1 refl

pub other_class : reply_eq told (Cell Single (codes "a" ∷ codes "b" ∷ [])) ≡ false
other_class = refl

pub other_identifiers : reply_eq told (Cell Complete (codes "a" ∷ [])) ≡ false
other_identifiers = refl

pub other_declared_value : reply_eq (Declared All) (Declared Never) ≡ false
other_declared_value = refl

pub other_fact : reply_eq (Found (fact (codes "x"))) (Found (fact (codes "y"))) ≡ false
other_fact = refl

pub other_thing : reply_eq (Conflict 2 (thing.Id r1 (codes "a"))) (Conflict 2 (thing.Report r1)) ≡ false
other_thing = refl

pub other_kind : reply_eq told Absent ≡ false
other_kind = refl

-- The laws at worked histories and reports: each premise is met there, and what the law says of them computes.
use Rattle.std.proofs.Common.{◌≡◌, ◌∙◌, sym, refl, subst, ℕ, List, [], ◌∷◌, Option, Some, None, true}
use Rattle.std.proofs.lemmas.Option.{same_Some}
use Rattle.std.specs.Prelude.{codes, All}
use Rattle.filing_model.specs.Oim.Dimensions.{Dims}
use Rattle.filing_model.specs.Sessions.Repository.{Repository, nothing, with_report, with_fact_at}
use Rattle.filing_model.specs.Oim.Duplicates.{obeys}
use Rattle.filing_model.specs.Sessions.Replies.{Reply, Absent, Found, Staged, Loaded, NameTaken, Disallowed, Opened, Committed}
use Rattle.filing_model.specs.Sessions.Sessions.{solo_replies, repository_obeys, refusal_of}
use Rattle.filing_model.specs.Histories.History.{Step, Load, Open, Commit, History, Live, status_of, calls_of, replies_of, base_of, repository}
use Rattle.filing_model.specs.Histories.Lawful.{IsLawful, next_reply}
use Rattle.filing_model.specs.Histories.Versions.{versions, IsChain}
use Rattle.filing_model.specs.declared.kind.Kind.TheVariants.{Review, Amend}
use Rattle.filing_model.specs.declared.duplicates.Allowed.TheVariants as allowed
use Rattle.filing_model.specs.declared.duplicates.Class.TheVariants as class
use Rattle.filing_model.proofs.Examples.Setting.{Line, played, fact}
use Rattle.filing_model.proofs.Examples.Histories.{r1, blank, no_net_change_before, no_net_change_lines, no_duplicates_before, newest_version_lines, stored_run_lines}
use Rattle.filing_model.proofs.Examples.Duplicates.{assets, entries, neighbours_obey_consistent, no_cell_is_disallowed, the_cell_of_the_neighbours_is_disallowed}
use Rattle.filing_model.proofs.Oim.DisallowedCells.{obeys_where_no_cell_is_disallowed}
use Rattle.filing_laws.specs.Histories.NextReply.{MayBeTaken, IsOneNextReply, FollowsLawfully}
use Rattle.filing_laws.specs.Serial.Untouched.{RepliesAlone, ReadsAreUntouched}
use Rattle.filing_laws.specs.Updating.Obeying.{is_allowed, IsLeastDisallowed}
use Rattle.filing_laws.proofs.Histories.PlayedHistories as playing
use Rattle.filing_laws.proofs.Opening.OwnReplies.{own_replies}
use Rattle.filing_laws.proofs.Histories.UntouchedIsSerial.{serial, each_step_has_one_reply, each_entry_follows_lawfully}
use Rattle.filing_laws.proofs.Updating.AllowedCells.{obeys_where_each_cell_is_allowed, least_disallowed_is_the_least, repository_obeys_where_not_refused}
use Rattle.filing_laws.proofs.Stamping.VersionChain.{each_version_obeys, versions_are_a_chain}

-- ---- whatever is played is lawful

pub played_is_lawful : (lines : List Line) → IsLawful (played lines)
played_is_lawful lines = playing.played_is_lawful lines

-- ---- an untouched session: what it read was added and removed again by another

abbrev unchanged : History
unchanged = played no_net_change_before

pub reader_is_live : status_of 1 unchanged ≡ Live Amend
reader_is_live = refl

pub reader_is_untouched : ReadsAreUntouched Amend 1 unchanged
reader_is_untouched = refl

pub reader_was_told : replies_of 1 unchanged ≡ Absent ∷ []
reader_was_told = refl

pub reader_replies_as_at_its_opening : RepliesAlone Amend (base_of 1 unchanged) 1 unchanged
reader_replies_as_at_its_opening = own_replies unchanged 1 Amend (played_is_lawful no_net_change_before) reader_is_live

pub reader_replies_as_now : RepliesAlone Amend (repository unchanged) 1 unchanged
reader_replies_as_now = serial unchanged 1 Amend (played_is_lawful no_net_change_before) reader_is_live reader_is_untouched

-- so alone, now, it is told what it was told
pub reader_is_told_now : solo_replies Amend (repository unchanged) (calls_of 1 unchanged) ≡ Absent ∷ []
reader_is_told_now = sym reader_replies_as_now

-- ---- an untouched session whose commit is refused: another added the same fact

abbrev duplicated : History
duplicated = played no_duplicates_before

pub second_is_live : status_of 2 duplicated ≡ Live Amend
second_is_live = refl

pub second_is_untouched : ReadsAreUntouched Amend 2 duplicated
second_is_untouched = refl

pub second_replies_as_now : RepliesAlone Amend (repository duplicated) 2 duplicated
second_replies_as_now = serial duplicated 2 Amend (played_is_lawful no_duplicates_before) second_is_live second_is_untouched

pub second_is_told_now : solo_replies Amend (repository duplicated) (calls_of 2 duplicated) ≡ Staged ∷ []
second_is_told_now = sym second_replies_as_now

-- ---- a review that opened before the newest version replies as at its opening

abbrev reviewed : History
reviewed = played newest_version_lines

pub review_is_live : status_of 1 reviewed ≡ Live Review
review_is_live = refl

pub review_replies_as_at_its_opening : RepliesAlone Review (base_of 1 reviewed) 1 reviewed
review_replies_as_at_its_opening = own_replies reviewed 1 Review (played_is_lawful newest_version_lines) review_is_live

pub review_is_told_the_old_fact : solo_replies Review (base_of 1 reviewed) (calls_of 1 reviewed) ≡ Found (fact (codes "old")) ∷ []
review_is_told_the_old_fact = sym review_replies_as_at_its_opening

-- ---- one next reply

-- the reply that computes is the one of the law
one_is : (h : History) (session : Option ℕ) (step : Step) (r : Reply) → next_reply h session step ≡ Some r → (q : Reply) × IsOneNextReply h session step q → IsOneNextReply h session step r
one_is h session step r computes (q, one) = subst (λ x. IsOneNextReply h session step x) (same_Some q r (sym one.told ∙ computes)) one

pub one_reply : (h : History) (session : Option ℕ) (step : Step) (r : Reply) → IsLawful h → MayBeTaken h session step → next_reply h session step ≡ Some r → IsOneNextReply h session step r
one_reply h session step r lawful taken computes = one_is h session step r computes (each_step_has_one_reply h session step lawful taken)

pub one_reply_to_a_load : IsOneNextReply unchanged None (Load (codes "r2") blank) (Loaded 3)
one_reply_to_a_load = one_reply unchanged None (Load (codes "r2") blank) (Loaded 3) (played_is_lawful no_net_change_before) tt refl

pub one_reply_to_a_second_load : IsOneNextReply unchanged None (Load r1 blank) NameTaken
one_reply_to_a_second_load = one_reply unchanged None (Load r1 blank) NameTaken (played_is_lawful no_net_change_before) tt refl

pub one_reply_to_an_opening : IsOneNextReply unchanged None (Open Amend) Opened
one_reply_to_an_opening = one_reply unchanged None (Open Amend) Opened (played_is_lawful no_net_change_before) tt refl

pub one_reply_to_a_commit : IsOneNextReply unchanged (Some 1) Commit (Committed 3)
one_reply_to_a_commit = one_reply unchanged (Some 1) Commit (Committed 3) (played_is_lawful no_net_change_before) (1, Amend, record { of_it = refl; live = reader_is_live }) refl

pub one_reply_to_a_commit_of_duplicates : IsOneNextReply duplicated (Some 2) Commit (Disallowed r1 class.Complete (codes "a" ∷ codes "b" ∷ []))
one_reply_to_a_commit_of_duplicates =
    one_reply duplicated (Some 2) Commit (Disallowed r1 class.Complete (codes "a" ∷ codes "b" ∷ []))
    (played_is_lawful no_duplicates_before) (2, Amend, record { of_it = refl; live = second_is_live }) refl

-- the first load follows lawfully on nothing
pub first_load_follows : FollowsLawfully (record { session = None; step = Load r1 blank; reply = Loaded 1 }) []
first_load_follows = each_entry_follows_lawfully [] (record { session = None; step = Load r1 blank; reply = Loaded 1 }) (tt, (refl, refl))

-- the reader's commit follows lawfully on the steps before it
pub reader_commit_follows : FollowsLawfully (record { session = Some 1; step = Commit; reply = Committed 3 }) unchanged
reader_commit_follows = each_entry_follows_lawfully unchanged (record { session = Some 1; step = Commit; reply = Committed 3 }) (played_is_lawful no_net_change_lines)

-- ---- versions: an empty report is loaded, and a session adds a fact to it

abbrev stored : History
stored = played stored_run_lines

abbrev loaded_version : Repository
loaded_version = with_report nothing r1 blank

abbrev amended_version : Repository
amended_version = record (with_fact_at loaded_version r1 (codes "f1") (Some (fact (codes "Acme")))) { count = 2 }

pub versions_of_stored : versions stored ≡ nothing ∷ loaded_version ∷ amended_version ∷ []
versions_of_stored = refl

pub stored_is_a_chain : IsChain (nothing ∷ loaded_version ∷ amended_version ∷ [])
stored_is_a_chain = versions_are_a_chain stored (played_is_lawful stored_run_lines)

pub stored_versions_obey : All (λ c. repository_obeys c ≡ true) (nothing ∷ loaded_version ∷ amended_version ∷ [])
stored_versions_obey = each_version_obeys stored (played_is_lawful stored_run_lines)

-- ---- a report that disobeys, and the same facts where they may stand

pub neighbours_have_a_least_disallowed_cell : IsLeastDisallowed allowed.Complete entries assets
neighbours_have_a_least_disallowed_cell = least_disallowed_is_the_least allowed.Complete entries assets the_cell_of_the_neighbours_is_disallowed

pub each_cell_of_the_neighbours_is_allowed : (dims : Dims) → is_allowed allowed.Consistent entries dims ≡ true
each_cell_of_the_neighbours_is_allowed = (obeys_where_each_cell_is_allowed allowed.Consistent entries).0 neighbours_obey_consistent

pub neighbours_obey_for_want_of_a_disallowed_cell : obeys allowed.Consistent entries ≡ true
neighbours_obey_for_want_of_a_disallowed_cell = (obeys_where_no_cell_is_disallowed allowed.Consistent entries).1 no_cell_is_disallowed

pub amended_version_is_not_refused : refusal_of amended_version ≡ None
amended_version_is_not_refused = (repository_obeys_where_not_refused amended_version).0 refl

-- The laws on what a session reads, on updates and on stamps, at worked histories of ranges and declared values: each premise is met there, and what the law says of them computes.
use Rattle.std.proofs.Common.{◌≡◌, ◌∙◌, sym, refl, [], ◌∷◌, Some, None, take}
use Rattle.std.specs.Prelude.{codes}
use Rattle.filing_model.specs.Common.TextMap.{empty, insert}
use Rattle.filing_model.specs.Sessions.Repository.{nothing}
use Rattle.filing_model.specs.Sessions.Calls.{Without}
use Rattle.filing_model.specs.Sessions.Replies.{Committed}
use Rattle.filing_model.specs.Sessions.Things.{Range, Policy}
use Rattle.filing_model.specs.Histories.History.{Commit, Entry, History, Live, status_of, calls_of, base_of, repository}
use Rattle.filing_model.specs.Histories.Touches.{things_read, last_touch}
use Rattle.filing_model.specs.declared.kind.Kind.TheVariants.{Amend}
use Rattle.filing_model.specs.declared.duplicates.Allowed.TheVariants as allowed
use Rattle.filing_model.proofs.Examples.Setting.{played, query}
use Rattle.filing_model.proofs.Examples.Histories.{r1}
use Rattle.filing_model.proofs.Examples.Ranges.{behind_the_cut_lines}
use Rattle.filing_model.proofs.Examples.DeclaringSessions.{declared_value_lines, last_value_lines}
use Rattle.filing_model.proofs.Examples.Histories.{blank}
use Rattle.filing_laws.specs.Stamping.Numbers.{greatest_touch}
use Rattle.filing_laws.specs.Serial.Untouched.{ReadsAreUntouched, ReadsAlone}
use Rattle.filing_laws.specs.Updating.Updates.{Loading, Changing, after_updates, updates_of, IsThatOfItsUpdates}
use Rattle.filing_laws.proofs.Histories.UntouchedIsSerial.{reads_as_now}
use Rattle.filing_laws.proofs.Updating.UpdatesInTurn.{each_repository_is_that_of_its_updates}
use Rattle.filing_laws.proofs.Stamping.Stamps.{each_touch_is_the_greatest, stamps_tell_the_last_touch}
use Rattle.filing_laws.proofs.Worked.Instances.{played_is_lawful}

-- ---- what lies behind the first identifier that the limit cut was removed: the page would read the same now

abbrev cut : History
cut = played (take 6 behind_the_cut_lines)

pub pager_is_live : status_of 1 cut ≡ Live Amend
pager_is_live = refl

pub pager_is_untouched : ReadsAreUntouched Amend 1 cut
pager_is_untouched = refl

pub pager_has_read : things_read Amend (base_of 1 cut) (calls_of 1 cut) ≡ Range r1 (query Without None) (Some (codes "c")) ∷ []
pager_has_read = refl

pub pager_reads_as_now : ReadsAlone Amend (repository cut) 1 cut
pager_reads_as_now = reads_as_now cut 1 Amend (played_is_lawful (take 6 behind_the_cut_lines)) pager_is_live pager_is_untouched

pub pager_would_read : things_read Amend (repository cut) (calls_of 1 cut) ≡ Range r1 (query Without None) (Some (codes "c")) ∷ []
pager_would_read = sym pager_reads_as_now ∙ pager_has_read

-- ---- a load, and a commit of the value that was declared last

abbrev declared : History
declared = played (take 5 last_value_lines)

pub updates_of_declared : updates_of declared ≡ Loading r1 blank ∷ Changing (insert empty r1 (record { declared = Some allowed.Complete; facts = empty })) ∷ []
updates_of_declared = refl

pub declared_is_that_of_its_updates : IsThatOfItsUpdates declared
declared_is_that_of_its_updates = each_repository_is_that_of_its_updates declared (played_is_lawful (take 5 last_value_lines))

pub declared_was_made : repository declared
    ≡ after_updates nothing (Loading r1 blank ∷ Changing (insert empty r1 (record { declared = Some allowed.Complete; facts = empty })) ∷ [])
declared_was_made = declared_is_that_of_its_updates.made

-- ---- the stamp of a declared value

abbrev before_value : History
before_value = played (take 5 declared_value_lines)

abbrev commit_of_value : Entry
commit_of_value = record { session = Some 2; step = Commit; reply = Committed 2 }

abbrev after_value : History
after_value = played (take 6 declared_value_lines)

pub stamp_of_value : greatest_touch (Policy r1) after_value ≡ Some 2
stamp_of_value = each_touch_is_the_greatest before_value commit_of_value (Policy r1) (played_is_lawful (take 6 declared_value_lines))

-- it is above the count at the first opening, so the value that was read there was touched
pub value_was_touched : last_touch 1 (Policy r1) after_value ≡ Some 2
value_was_touched = stamps_tell_the_last_touch after_value 1 (Policy r1) (played_is_lawful (take 6 declared_value_lines))

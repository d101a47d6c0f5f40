-- Every lawful history is serial in whole runs, and so is whatever is played.
use Rattle.std.proofs.Common.{◌≡◌, refl, ℕ, [], Option, Some, None, MatchOption}
use Rattle.filing_model.specs.Histories.History.{History, calls_of, base_of}
use Rattle.filing_model.specs.Histories.Lawful.{IsLawful}
use Rattle.filing_model.specs.declared.kind.Kind.{Kind}
use Rattle.filing_laws.specs.Histories.Played.{played}
use Rattle.filing_laws.specs.Serial.WholeRuns.{all_replies_of, kind_of, ending_of, AreSoloReplies, CommittedSessionsRunWholeAtTheirCommit, EachLawfulHistoryIsSerial, EachOrderOfStepsIsSerial}
use Rattle.filing_laws.proofs.Histories.PlayedHistories.{played_is_lawful}
use Rattle.filing_laws.proofs.Serial.SessionRuns.{known}
use Rattle.filing_laws.proofs.Serial.UncommittedLeaveNothing.{leaves}
use Rattle.filing_laws.proofs.Stamping.VersionChain.{each_version_obeys}
use Rattle.filing_laws.proofs.Serial.RepositoryInTurn.{in_turn, newest, other_entries}

run_whole : (h : History) → IsLawful h → CommittedSessionsRunWholeAtTheirCommit h
run_whole h lawful s (n, told) =
    let whole = (known h s lawful).committed n told in
    record { kind = whole.kind; replies = whole.replies; effect = whole.effect }

as_opened : (h : History) (s : ℕ) → IsLawful h → (o : Option Kind) → kind_of s h ≡ o
    → MatchOption o (all_replies_of s h ≡ []) (λ kind. AreSoloReplies kind (ending_of s h) (base_of s h) (calls_of s h) (all_replies_of s h))
as_opened h s lawful None is = (known h s lawful).unopened is
as_opened h s lawful (Some kind) is = (known h s lawful).opened kind is

pub each_lawful_history_is_serial : EachLawfulHistoryIsSerial
each_lawful_history_is_serial h lawful = record {
  committed = run_whole h lawful;
  opened = λ s. as_opened h s lawful (kind_of s h) refl;
  refused = record { entries = other_entries h lawful; sessions = λ s not_committed. leaves h s lawful not_committed };
  versions = each_version_obeys h lawful;
  repository = record { sequential = in_turn h lawful; newest = newest h };
}

pub each_order_of_steps_is_serial : EachOrderOfStepsIsSerial
each_order_of_steps_is_serial steps = each_lawful_history_is_serial (played steps) (played_is_lawful steps)

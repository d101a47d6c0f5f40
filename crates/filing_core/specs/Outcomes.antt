-- What a commit is told by the version as it is, and what it makes. No history is looked at.
use Rattle.std.specs.Prelude.{◌≡◌, cond, Option, Some, None, option_map, unwrap_or}
use Rattle.std.specs.Option.{option_map_or}
use Rattle.filing_model.specs.Sessions.Changes.{Change, after_change}
use Rattle.filing_model.specs.Sessions.Replies as reply
use Rattle.filing_model.specs.Sessions.Replies.{Reply}
use Rattle.filing_model.specs.Sessions.Sessions.{refusal_of}
use Rattle.filing_model.specs.Histories.Versions.{counts}
use Rattle.filing_model.specs.Histories.Stamps.{Version, next_number}
use Rattle.filing_model.specs.declared.kind.Kind.{Kind}
use Rattle.filing_model.specs.declared.kind.Kind.TheVariants.{Review, Amend}
use Rattle.filing_laws.specs.Stamping.StampedVersions.{first_stamped}
use Rattle.filing_version.specs.StampedReports.{StampedReports, version_in}
use Rattle.filing_session.specs.States.{SessionState}

-- a reply, and the version that it leaves, where it leaves another
pub record Outcome : Type 0 where
  pub reply : Reply
  pub next : Option StampedReports

-- it is told so, and where that counts it leaves this version
pub record Makes (o : Outcome) (told : Reply) (next : Version) : Type 0 where
  pub told_so : o.reply ≡ told
  pub next_so : option_map version_in o.next ≡ cond (counts told) (Some next) None

-- ---- commits

-- a change is refused where what it makes disobeys
abbrev pub change_told : Version → Change → Reply
change_told v change = unwrap_or (refusal_of (after_change change v.repository)) (reply.Committed (next_number v))

-- an amendment is told the first thing that it has read whose stamp is greater than the number of its base
abbrev pub amendment_told : Version → SessionState → Reply
amendment_told v s = option_map_or (λ c. reply.Conflict c.0 c.1) (first_stamped s.base.count v.stamp s.reads)
    (change_told v s.change)

abbrev pub commit_told : Version → SessionState → Kind → Reply
commit_told v s Review = reply.Closed
commit_told v s Amend = amendment_told v s

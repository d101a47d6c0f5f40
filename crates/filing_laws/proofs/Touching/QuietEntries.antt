-- Entries that do not count, and entries that leave each session where it stands.
use Rattle.std.proofs.Common.{◌≡◌, refl, true, false, true≢false}
use Rattle.filing_model.specs.Sessions.Things.{Thing}
use Rattle.filing_model.specs.Sessions.Replies as reply
use Rattle.filing_model.specs.Sessions.Replies.{Reply}
use Rattle.filing_model.specs.Histories.History.{Entry, History}
use Rattle.filing_model.specs.Histories.Touches.{touches_with}
use Rattle.filing_model.specs.Histories.Versions.{counts}

-- such an entry touches nothing
pub quiet_touches : (r : Reply) (e : Entry) (older : History) (t : Thing) → counts r ≡ false → touches_with r e older t ≡ false
quiet_touches (reply.Loaded n) e older t quiet = absurd (true≢false quiet)
quiet_touches (reply.Committed n) e older t quiet = absurd (true≢false quiet)
quiet_touches _ e older t quiet = refl

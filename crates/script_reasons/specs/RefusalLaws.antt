-- The words of replies tell the refusals from the answers. The project's own.
use Rattle.std.specs.Prelude.{◌≡◌, Option, None, Some, if◌then◌else◌}
use Rattle.filing_model.specs.Common.Text.{Text}
use Rattle.filing_model.specs.Reading.ReadReport.{ReportFault}
use Rattle.filing_model.specs.Sessions.Replies as reply
use Rattle.filing_model.specs.Sessions.Replies.{Reply}
use Rattle.filing_model.specs.declared.faults.Trouble.{Trouble}
use Rattle.script_format.specs.ReplyText.{reply_text, bad_line_text, bad_report_text, bad_fact_text, name_in_use_text, no_session_text}
use Rattle.script_reasons.specs.Refusals.{refusal_in, is_removal}
use Rattle.script_reasons.specs.declared.refusal.Refusal.{Refusal}
use Rattle.script_reasons.specs.declared.refusal.Refusal.TheVariants as refused

-- the refusal of a line that a reply to its step is; none where it answers
abbrev pub refusal_of : Text → Reply → Option Refusal
refusal_of line reply.NoReport = Some refused.NoReport
refusal_of line reply.ReadOnly = Some refused.ReadOnly
refusal_of line reply.Taken = Some refused.Taken
refusal_of line (reply.BadFact fault) = Some refused.BadFact
refusal_of line reply.NameTaken = Some refused.NameTaken
refusal_of line (reply.Disallowed name class ids) = Some refused.Disallowed
refusal_of line (reply.Conflict number thing) = Some refused.Conflict
refusal_of line reply.Absent = if is_removal line then Some refused.NotThere else None
refusal_of line r = None

-- the text of a reply tells that refusal
abbrev pub WordsTellReplies : Type 0
WordsTellReplies = (line : Text) (r : Reply) → refusal_in line (reply_text r) ≡ refusal_of line r

-- the replies to lines that take no step are refusals
pub record WordsTellRefusals (line : Text) : Type 0 where
  pub no_line : refusal_in line bad_line_text ≡ Some refused.BadLine
  pub report : (fault : ReportFault) → refusal_in line (bad_report_text fault) ≡ Some refused.BadReport
  pub fact : (fault : Trouble) → refusal_in line (bad_fact_text fault) ≡ Some refused.BadFact
  pub name : refusal_in line name_in_use_text ≡ Some refused.NameInUse
  pub session : refusal_in line no_session_text ≡ Some refused.NoSession

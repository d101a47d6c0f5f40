-- The texts of replies begin with their words.
use Rattle.std.proofs.Common.{◌≡◌, refl, Some}
use Rattle.filing_model.specs.Common.Text.{Text}
use Rattle.filing_model.specs.Reading.ReadReport as report
use Rattle.filing_model.specs.Reading.ReadReport.{ReportFault}
use Rattle.filing_model.specs.Sessions.Replies as reply
use Rattle.filing_model.specs.Sessions.Replies.{Reply}
use Rattle.script_format.specs.ReplyText.{bad_report_text, reply_text}
use Rattle.script_reasons.specs.Refusals.{is_mistaken, refusal_in, tells_mistake}
use Rattle.script_reasons.specs.RefusalLaws.{WordsTellReplies, WordsTellRefusals}
use Rattle.script_reasons.specs.declared.refusal.Refusal.TheVariants as refused

pub words_tell_replies : WordsTellReplies
words_tell_replies line reply.NoReport = refl
words_tell_replies line reply.Absent = refl
words_tell_replies line (reply.Found fact) = refl
words_tell_replies line (reply.Cell class ids) = refl
words_tell_replies line (reply.Page ids more) = refl
words_tell_replies line reply.ReadOnly = refl
words_tell_replies line reply.Taken = refl
words_tell_replies line (reply.BadFact fault) = refl
words_tell_replies line reply.Staged = refl
words_tell_replies line (reply.Declared allowed) = refl
words_tell_replies line (reply.Loaded number) = refl
words_tell_replies line reply.NameTaken = refl
words_tell_replies line (reply.Disallowed name class ids) = refl
words_tell_replies line reply.Opened = refl
words_tell_replies line reply.Closed = refl
words_tell_replies line (reply.Committed number) = refl
words_tell_replies line (reply.Conflict number thing) = refl

reports : (line : Text) (fault : ReportFault) → refusal_in line (bad_report_text fault) ≡ Some refused.BadReport
reports line report.NotJson = refl
reports line report.WrongShape = refl
reports line report.WrongDocumentType = refl
reports line report.BadPolicy = refl
reports line report.AliasTwice = refl
reports line report.NotWhole = refl
reports line (report.BadFact id fault) = refl

pub words_tell_refusals : (line : Text) → WordsTellRefusals line
words_tell_refusals line = record {
  no_line = refl;
  report = reports line;
  fact = λ fault. refl;
  name = refl;
  session = refl;
}

-- whether a reply tells a mistake, as its text does
pub mistake_told : (r : Reply) → is_mistaken r ≡ tells_mistake (reply_text r)
mistake_told reply.NoReport = refl
mistake_told reply.Absent = refl
mistake_told (reply.Found fact) = refl
mistake_told (reply.Cell class ids) = refl
mistake_told (reply.Page ids more) = refl
mistake_told reply.ReadOnly = refl
mistake_told reply.Taken = refl
mistake_told (reply.BadFact fault) = refl
mistake_told reply.Staged = refl
mistake_told (reply.Declared allowed) = refl
mistake_told (reply.Loaded number) = refl
mistake_told reply.NameTaken = refl
mistake_told (reply.Disallowed name class ids) = refl
mistake_told reply.Opened = refl
mistake_told reply.Closed = refl
mistake_told (reply.Committed number) = refl
mistake_told (reply.Conflict number thing) = refl

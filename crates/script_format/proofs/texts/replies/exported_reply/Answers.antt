use Rattle.std.proofs.Common.{sym}
use Rattle.oim_report.proofs.GivenEntries.{of_its_entries}
use Rattle.script_format.proofs.texts.replies.exported_reply.Goals as goal

pub returns : goal.returns
returns c =
    c.exported_reply_of.ensures c.args.report.now
    (of_its_entries _ _ c.args.report.now (sym c.info.ensures.info) (sym c.entries.ensures))

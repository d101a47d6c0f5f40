use Rattle.std.proofs.Common.{sym}
use Rattle.oim_report.proofs.GivenEntries.{of_its_entries}
use Rattle.oim_report.proofs.report_text.push_report.Goals as goal

pub returns-clause-text : goal.returns-clause-text
returns-clause-text c =
    c.push_report_of.ensures.text c.args.report.now (of_its_entries _ _ c.args.report.now (sym c.info.ensures.info) (sym c.entries.ensures))

pub returns-clause-front : goal.returns-clause-front
returns-clause-front c =
    c.push_report_of.ensures.front c.args.report.now (of_its_entries _ _ c.args.report.now (sym c.info.ensures.info) (sym c.entries.ensures))

use Rattle.std.proofs.Common.{◌≡◌, ◌∙◌, ap, rules}
use Rattle.std.specs.String.{string_bytes}
use Rattle.filing.specs.Loads.{load_script}
use Rattle.filing.proofs.LoadedReports.{reports_loaded}
use Rattle.filing.proofs.commands.load.load_reports.Goals as goal

pub returns-clause-loaded : goal.returns-clause-loaded
returns-clause-loaded g c = λ h engine lines.
    let d = g.D.Device in
    let script : c.as_bytes.result.now ≡ string_bytes c.in-Ok.script = search rules in
    let items : c.as_slice.result.now ≡ c.args.reports.items = search rules in
    reports_loaded d.seen d.may_leave d.moment d.left_since _ _ _ h _ _ _ _ _ _ _
    (script ∙ c.in-Ok.ensures ∙ ap load_script items) (c.run_with_journal-writer.ensures.journaled h engine lines)

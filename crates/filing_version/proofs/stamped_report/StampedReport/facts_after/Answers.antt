use Rattle.std.proofs.Common.{◌∙◌}
use Rattle.filing_version.proofs.stamped_report.StampedReport.facts_after.Goals as goal

pub after-requires : goal.after-requires
after-requires c = (c.args.puts.now, c.deref.ensures.value ∙ c.in_ok-fact_changes.ensures)

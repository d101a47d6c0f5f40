use Rattle.std.proofs.Common.{◌∙◌}
use Rattle.filing_version.proofs.stamped_report.facts_with.Goals as goal

pub into_after-requires : goal.into_after-requires
into_after-requires c = (c.args.puts.now, c.deref.ensures.value ∙ c.in-Ok.ensures)

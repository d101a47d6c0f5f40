use Rattle.std.proofs.Common.{string_bytes}
use Rattle.serde_json.specs.View.{view}
use Rattle.oim_report.proofs.FactList.{entry_refused}
use Rattle.oim_report.proofs.facts.entry.Goals as goal

pub returns-in-Err-fact_by_names-clause-entry : goal.returns-in-Err-fact_by_names-clause-entry
returns-in-Err-fact_by_names-clause-entry c =
    entry_refused c.args.names.now (string_bytes c.args.id) (view c.args.value) _ _ _ c.in-Ok.ensures.fact
    c.in-Err-fact_by_names.ensures.fact c.bad_fact-in-Err-fact_by_names.ensures

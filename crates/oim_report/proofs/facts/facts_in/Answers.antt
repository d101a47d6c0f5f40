use Rattle.std.proofs.Common.{◌∙◌, ap, sym}
use Rattle.serde_json.specs.View.{members_view}
use Rattle.filing_model.specs.Reading.JsonText.{pairs}
use Rattle.filing_model.specs.Reading.ReadReport.{entry_of}
use Rattle.filing_model.specs.Common.Try.{each}
use Rattle.oim_report.specs.Parts.{facts_view}
use Rattle.oim_report.proofs.SortedMembers.{sorted_members}
use Rattle.oim_report.proofs.FactList.{sorted_facts}
use Rattle.oim_report.proofs.facts.facts_in.Goals as goal

pub returns-in-Ok-clause-rise : goal.returns-in-Ok-clause-rise
returns-in-Ok-clause-rise c =
    sorted_facts c.args.names.now (pairs (members_view c.args.members.entries)) (facts_view c.take_facts-taken.new.facts.items)
    (ap (λ es. each (entry_of c.args.names.now) (pairs (members_view es))) (sym c.into_iter-members.ensures.into_iter_gives.0)
    ∙ c.in-Ok.ensures.facts)
    (sorted_members c.args.members.entries c.into_iter-members.ensures.into_iter_gives.5)

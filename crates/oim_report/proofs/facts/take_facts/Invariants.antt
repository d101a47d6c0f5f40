use Rattle.std.proofs.Common.{◌≡◌}
use Rattle.serde_json.specs.View.{members_view}
use Rattle.filing_model.specs.Common.Try.{each}
use Rattle.filing_model.specs.Reading.JsonText.{pairs}
use Rattle.filing_model.specs.Reading.ReadReport.{entry_of}
use Rattle.oim_report.specs.Parts.{fact_view, facts_view}
use Rattle.oim_report.specs.Readable.{AreFitted}
use Rattle.oim_report.proofs.EachMember.{read_on}
use Rattle.oim_report.proofs.facts.take_facts.Given as goal

-- what was read, with what is left
abbrev pub invariant-loop-id : goal.invariant-loop-id
invariant-loop-id l = record {
  read : read_on fact_view (entry_of l.names) l.facts.items l.id-iterator ≡ each (entry_of l.names) (pairs (members_view l.initial.id-iterator));
  fitted : AreFitted l.names (facts_view l.facts.items);
}

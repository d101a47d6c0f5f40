use Rattle.std.proofs.Common.{◌≡◌, true}
use Rattle.filing_model.specs.Common.Try.{each}
use Rattle.filing_model.specs.Reading.JsonText.{pairs}
use Rattle.filing_model.specs.Reading.ReadReport.{entry_of}
use Rattle.oim_report.specs.Borrowed.{are_in_range, members_at}
use Rattle.oim_report.specs.Parts.{fact_view, facts_view}
use Rattle.oim_report.specs.Readable.{AreFitted}
use Rattle.oim_report.proofs.OrderedMembers.{read_places}
use Rattle.oim_report.proofs.facts.facts_in_order.Given as goal

-- what was read, with what is left
abbrev pub invariant-loop-id : goal.invariant-loop-id
invariant-loop-id l = record {
  read : read_places fact_view (entry_of l.names) l.facts.items l.id-iterator.rest.items ≡ each (entry_of l.names) (pairs (members_at l.initial.id-iterator.rest.items));
  range : are_in_range l.id-iterator.rest.items ≡ true;
  fitted : AreFitted l.names (facts_view l.facts.items);
}

use Rattle.std.proofs.Common.{◌≡◌}
use Rattle.serde_json.specs.View.{members_view}
use Rattle.filing_model.specs.Common.Try.{each}
use Rattle.filing_model.specs.Reading.JsonText.{pairs}
use Rattle.filing_model.specs.Reading.ReadFact.{dim_of}
use Rattle.oim_report.specs.Readings.{dim_view}
use Rattle.oim_report.proofs.EachMember.{read_on}
use Rattle.oim_report.proofs.facts.dims_in.Given as goal

-- what was read, with what is left
abbrev pub invariant-loop-name : goal.invariant-loop-name
invariant-loop-name l = read_on dim_view dim_of l.dims.items l.name-iterator ≡ each dim_of (pairs (members_view l.fn.members.entries))

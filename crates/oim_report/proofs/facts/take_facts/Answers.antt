use Rattle.filing_model.specs.Reading.ReadReport.{entry_of}
use Rattle.oim_report.specs.Parts.{fact_view}
use Rattle.oim_report.proofs.EachMember.{read_turn}
use Rattle.oim_report.proofs.FactList.{fitted_turn}
use Rattle.oim_report.proofs.facts.take_facts.Goals as goal

pub loop-id-preserved : goal.loop-id-preserved
loop-id-preserved c = record {
  read =
      read_turn fact_view (entry_of c.args.names.now) _ _ _ _ _ _ _ _ c.in-Some.ensures.steps c.in_ok-push.ensures.items
      c.in_ok-entry.ensures.entry c.loop-id.invariant.read;
  fitted =
      fitted_turn c.args.names.now _ _ _ c.in_ok-push.ensures.items c.in_ok-entry.ensures.dims
      c.in_ok-entry.ensures.fitted c.loop-id.invariant.fitted;
}

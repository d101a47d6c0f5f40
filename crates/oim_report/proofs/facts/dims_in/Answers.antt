use Rattle.filing_model.specs.Reading.ReadFact.{dim_of}
use Rattle.oim_report.specs.Readings.{dim_view}
use Rattle.oim_report.proofs.EachMember.{read_turn}
use Rattle.oim_report.proofs.facts.dims_in.Goals as goal

pub loop-name-preserved : goal.loop-name-preserved
loop-name-preserved c =
    read_turn dim_view dim_of _ _ _ _ _ _ _ _ c.in-Some.ensures.steps c.in-Ok-push.ensures.items c.in_ok-dim.ensures c.loop-name.invariant

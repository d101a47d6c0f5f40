use Rattle.std.proofs.Common.{◌∙◌, ap}
use Rattle.oim_fact.proofs.JoinedTallies.{of_one_cell}
use Rattle.oim_fact.proofs.fact_tally.FactTally.is_of_one_cell.Goals as goal

pub returns : goal.returns
returns c facts told =
    c.is_together.ensures ∙ ap (λ t. t.1.together) c.self.view_is
    ∙ of_one_cell c.args.self.now.0 c.args.self.now.1 facts told

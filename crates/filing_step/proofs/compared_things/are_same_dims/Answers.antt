use Rattle.std.proofs.Common.{◌∙◌, sym}
use Rattle.filing_model.proofs.Oim.DimensionSets.{dims_decides}
use Rattle.filing_step.proofs.compared_things.are_same_dims.Goals as goal

pub returns : goal.returns
returns c =
    let tells = dims_decides c.args.a.now c.args.b.now in
    (λ h. tells.0 (sym c.eq.ensures ∙ h), λ e. c.eq.ensures ∙ tells.1 e)

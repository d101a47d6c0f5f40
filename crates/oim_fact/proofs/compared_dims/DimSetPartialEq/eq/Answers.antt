use Rattle.std.proofs.Common.{◌∙◌}
use Rattle.filing_model.specs.Oim.Dimensions.{dims_eq}
use Rattle.oim_fact.proofs.ComparedDims.{equal}
use Rattle.oim_fact.proofs.compared_dims.DimSetPartialEq.eq.Goals as goal

pub returns : goal.returns
returns c = c.eq.ensures ∙ equal c.pairs.result.now c.pairs-2.result.now ∙ (λ i. dims_eq (c.pairs.ensures.list i) (c.pairs-2.ensures.list i))

-- A dimension set has a concept.
use Rattle.std.proofs.Common.{◌∙◌, ap, sym, is_some, true≢false}
use Rattle.filing_model.proofs.Oim.DimensionSets.{concept-AreDims}
use Rattle.oim_fact.proofs.dims.DimSet.concept.Goals as goal

pub unreachable-requires : goal.unreachable-requires
unreachable-requires c = true≢false (sym (ap is_some c.in-None.ensures.value ∙ concept-AreDims _ c.core_value.ensures.set))

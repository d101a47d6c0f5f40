use Rattle.std.proofs.Common.{◌≡◌, drop}
use Rattle.filing_model.specs.Oim.Dimensions.{core_value}
use Rattle.oim_fact.specs.Dims.{dims_view}
use Rattle.oim_fact.proofs.dims.DimSet.core_value.Given as goal

-- nothing was found so far
abbrev pub invariant-loop-key : goal.invariant-loop-key
invariant-loop-key l = core_value l.name l.self ≡ core_value l.name (dims_view (drop l.key-index l.key-items))

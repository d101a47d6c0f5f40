-- What the pairs of a dimension set mean.
use Rattle.std.specs.Prelude.{List, map, Option, Some, None, Result, Ok, Err, String, string_bytes}
use Rattle.std.specs.Arc.{arc_value}
use Rattle.std.specs.declared.alloc.Global.{Global}
use Rattle.filing_model.specs.Oim.Dimensions.{Dims}
use Rattle.filing_model.specs.declared.faults.DimFault.{DimFault}
use Rattle.oim_fact.specs.Texts.{text_view}
use Rattle.oim_fact.specs.declared.dims.Pairs.{Pairs}
use Rattle.oim_fact.specs.declared.dims.Pairs.TheVariants.{Own, Shared}

abbrev pub dims_view : List (String Global × Option (String Global)) → Dims
dims_view pairs = map (λ p. (string_bytes p.0, text_view p.1)) pairs

-- the pairs, whether they are shared or not
abbrev pub pairs_in : Pairs → List (String Global × Option (String Global))
pairs_in (Own pairs) = pairs.items
pairs_in (Shared pairs) = (arc_value pairs).items

-- the set, unless there is a fault
abbrev pub unless : Option DimFault → Dims → Result Dims DimFault
unless None dims = Ok dims
unless (Some fault) dims = Err fault

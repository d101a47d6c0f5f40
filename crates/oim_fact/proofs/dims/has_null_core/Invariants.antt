use Rattle.std.proofs.Common.{◌≡◌, drop}
use Rattle.std.specs.List.{list_any}
use Rattle.filing_model.specs.Oim.Dimensions.{is_null_core}
use Rattle.oim_fact.specs.Dims.{dims_view}
use Rattle.oim_fact.proofs.dims.has_null_core.Given as goal

-- it hangs on the dimensions that are left
abbrev pub invariant-loop-name : goal.invariant-loop-name
invariant-loop-name l = list_any is_null_core (dims_view l.pairs) ≡ list_any is_null_core (dims_view (drop l.name-index l.pairs))

use Rattle.std.proofs.Common.{◌≡◌, drop}
use Rattle.filing_model.specs.Oim.Facts.{are_bound}
use Rattle.oim_fact.specs.Dims.{dims_view}
use Rattle.oim_fact.proofs.fitting.are_bound.Given as goal

-- it hangs on the names that are left
abbrev pub invariant-loop-name : goal.invariant-loop-name
invariant-loop-name l = are_bound l.names.prefixes l.dims ≡ are_bound l.names.prefixes (dims_view (drop l.name-index l.name-items))

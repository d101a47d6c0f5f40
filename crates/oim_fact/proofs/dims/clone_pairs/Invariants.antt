use Rattle.std.proofs.Common.{◌≡◌, take}
use Rattle.oim_fact.specs.Dims.{dims_view}
use Rattle.oim_fact.proofs.dims.clone_pairs.Given as goal

abbrev pub invariant-loop-name : goal.invariant-loop-name
invariant-loop-name l = dims_view l.copies.items ≡ dims_view (take l.name-index l.name-items)

use Rattle.std.proofs.Common.{◌≡◌, take}
use Rattle.oim_fact.specs.Dims.{dims_view}
use Rattle.filing_facts.specs.Hashes.{fed_with, fed_dims}
use Rattle.filing_facts.proofs.hashes.hash_of_pairs.Given as goal

abbrev pub invariant-loop-name : goal.invariant-loop-name
invariant-loop-name l = l.state ≡ fed_with l.initial.state (fed_dims (dims_view (take l.name-index l.pairs)))

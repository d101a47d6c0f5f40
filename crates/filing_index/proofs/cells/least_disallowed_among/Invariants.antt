use Rattle.std.proofs.Common.{option_map}
use Rattle.filing_model.specs.Common.TextMap.{TextMap}
use Rattle.filing_model.specs.Oim.Facts.{Fact}
use Rattle.filing_facts.specs.Hashes.{cell_hash}
use Rattle.filing_index.specs.Index.{IsIndex}
use Rattle.filing_index.specs.Cells.{facts_given}
use Rattle.filing_index.proofs.CrowdedCells.{IsLeastSoFar}
use Rattle.filing_index.proofs.cells.least_disallowed_among.Given as goal

abbrev pub invariant-loop-held : goal.invariant-loop-held
invariant-loop-held g l =
    (all : TextMap Fact) → IsIndex cell_hash all l.index
    → IsLeastSoFar l.allowed all (facts_given l.yielded) (option_map (λ d. d.now) l.before) (option_map (λ d. d.now) l.least)

use Rattle.std.proofs.Common.{◌∙◌}
use Rattle.filing_facts.specs.FactChanges.{Cell}
use Rattle.filing_version.proofs.version.RepoVersion.stamp_cell_since.Goals as goal

pub returns-in-Some : goal.returns-in-Some
returns-in-Some c = c.of_cell_since.ensures ∙ c.in-Some.ensures (Cell c.args.dims.now)

pub returns-in-None : goal.returns-in-None
returns-in-None c = c.in-None.ensures (Cell c.args.dims.now)

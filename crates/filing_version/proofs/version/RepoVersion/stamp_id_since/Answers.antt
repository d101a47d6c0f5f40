use Rattle.std.proofs.Common.{◌∙◌}
use Rattle.filing_facts.specs.FactChanges.{Id}
use Rattle.filing_version.proofs.version.RepoVersion.stamp_id_since.Goals as goal

pub returns-in-Some : goal.returns-in-Some
returns-in-Some c = c.of_id_since.ensures ∙ c.in-Some.ensures (Id c.args.id.now)

pub returns-in-None : goal.returns-in-None
returns-in-None c = c.in-None.ensures (Id c.args.id.now)

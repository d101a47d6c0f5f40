use Rattle.filing_laws.proofs.Stamping.VersionChain.{each_version_obeys}
use Rattle.filing_laws.proofs.versions.each_version_obeys.Goals as goal

pub returns : goal.returns
returns c = each_version_obeys

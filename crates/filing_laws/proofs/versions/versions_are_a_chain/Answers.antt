use Rattle.filing_laws.proofs.Stamping.VersionChain.{versions_are_a_chain}
use Rattle.filing_laws.proofs.versions.versions_are_a_chain.Goals as goal

pub returns : goal.returns
returns c = versions_are_a_chain

use Rattle.filing_laws.proofs.Stamping.StampedVersions.{each_load_makes_its_version, each_commit_makes_its_version, each_other_entry_leaves_the_version}
use Rattle.filing_laws.proofs.stamped_versions.each_entry_makes_its_version.Goals as goal

pub returns-clause-loads : goal.returns-clause-loads
returns-clause-loads c = each_load_makes_its_version

pub returns-clause-commits : goal.returns-clause-commits
returns-clause-commits c = each_commit_makes_its_version

pub returns-clause-others : goal.returns-clause-others
returns-clause-others c = each_other_entry_leaves_the_version

use Rattle.std.proofs.Common.{◌≡◌}
use Rattle.filing_model.specs.Sessions.Changes.{find_map, first_disallowed}
use Rattle.filing_version.specs.StampedReports.{repository_in}
use Rattle.filing_version.proofs.StampedReports.{disallowed_at}
use Rattle.filing_version.proofs.version.RepoVersion.first_disallowed.Given as goal

-- nothing was found before those still to come
abbrev pub invariant-loop-part : goal.invariant-loop-part
invariant-loop-part l = find_map (disallowed_at (repository_in l.self)) l.part-iterator ≡ first_disallowed (repository_in l.self) l.change

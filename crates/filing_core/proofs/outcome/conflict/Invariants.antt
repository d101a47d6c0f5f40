use Rattle.std.proofs.Common.{◌≡◌, map}
use Rattle.filing_step.specs.Steps.{thing_of}
use Rattle.filing_version.specs.StampedReports.{version_in}
use Rattle.filing_laws.specs.Stamping.StampedVersions.{first_stamped}
use Rattle.filing_core.proofs.outcome.conflict.Given as goal

-- of the things that are left the first is that of all
abbrev pub invariant-loop-thing : goal.invariant-loop-thing
invariant-loop-thing l =
    first_stamped l.opened_at (version_in l.version).stamp (map thing_of l.thing-iterator)
    ≡ first_stamped l.opened_at (version_in l.version).stamp (map thing_of l.initial.thing-iterator)

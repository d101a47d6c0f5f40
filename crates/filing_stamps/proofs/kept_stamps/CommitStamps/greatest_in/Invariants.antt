use Rattle.std.proofs.Common.{◌≡◌, take}
use Rattle.sorted_pages.specs.Pages.{greatest}
use Rattle.sorted_pages.specs.Ranges.{within}
use Rattle.filing_stamps.specs.Stamps.{among_side}
use Rattle.filing_stamps.proofs.kept_stamps.CommitStamps.greatest_in.Given as goal

abbrev pub invariant-loop-stamp : goal.invariant-loop-stamp
invariant-loop-stamp l = l.number ≡ greatest (λ s. s.number) (within (among_side l.among) (take l.stamp-index l.stamp-items))

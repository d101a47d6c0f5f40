use Rattle.std.proofs.Common.{◌+◌, ◌∙◌, ℕ, length, ap}
use Rattle.filing_version.specs.StampedReports.{StampedReports, repository_in}
use Rattle.filing_publish.specs.Lists.{Listed}
use Rattle.filing_publish.proofs.Chains.{chained, counted, last_count}
use Rattle.filing_publish.proofs.edition.Edition.number.Goals as goal

pub returns-clause-count : goal.returns-clause-count
returns-clause-count g =
    last_count _ _ _ _ g.self.invariant g.self.view_is (g.number.ensures ∙ ap (λ (v : StampedReports). (repository_in v).count) g.deref.ensures)

pub returns-clause-chain : goal.returns-clause-chain
returns-clause-chain g = chained _ _ _ g.self.invariant g.self.view_is

pub returns-clause-length : goal.returns-clause-length
returns-clause-length g =
    ap (λ (n : ℕ). n + 1) (g.number.ensures ∙ ap (λ (v : StampedReports). (repository_in v).count) g.deref.ensures)
    ∙ (counted _ _ g.self.invariant ∙ ap (λ (e : Listed). length e.versions) g.self.view_is)

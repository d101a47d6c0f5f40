use Rattle.std.proofs.Common.{◌∙◌, ap}
use Rattle.filing_model.specs.Histories.Stamps.{Version}
use Rattle.filing_version.specs.StampedReports.{repository_in}
use Rattle.filing_publish.proofs.Chains.{begun}
use Rattle.filing_publish.proofs.publisher.Publisher.open.Goals as goal

pub invariant_of-beginning : goal.invariant_of-beginning
invariant_of-beginning g c =
    begun _ _ c.args.unopened_log.begins
    (ap repository_in c.in_ok-version.ensures.ok ∙ ap (λ (v : Version). v.repository) c.empty.ensures)

pub invariant_of-beginning-3 : goal.invariant_of-beginning-3
invariant_of-beginning-3 g c =
    begun _ _ c.args.unopened_log.begins
    (ap repository_in c.in_ok-version.ensures.ok ∙ ap (λ (v : Version). v.repository) c.empty.ensures)

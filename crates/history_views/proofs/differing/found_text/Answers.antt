use Rattle.std.proofs.Common.{◌≡◌, ◌∙◌, ap, sym, Some, option_map}
use Rattle.filing_version.specs.StampedReports.{StampedReports, repository_in}
use Rattle.history_views.specs.Differing.{difference_between}
use Rattle.history_views.specs.Versions.{version_kept}
use Rattle.history_views.proofs.differing.found_text.Goals as goal

pub returns : goal.returns
returns c = λ covers.
    let from = repository_in c.deref.result.now in
    let to = repository_in c.deref-2.result.now in
    let kept_from : version_kept c.args.from.now ≡ Some from =
    ap version_kept c.in-Some-Some.is-0 ∙ ap (λ (v : StampedReports). Some (repository_in v)) (sym c.deref.ensures) in
    let kept_to : version_kept c.args.to.now ≡ Some to =
    ap version_kept c.in-Some-Some.is-1 ∙ ap (λ (v : StampedReports). Some (repository_in v)) (sym c.deref-2.ensures) in
    ap Some (c.in_ok-difference_text.ensures (covers from to kept_from kept_to))
    ∙ sym (λ i. difference_between (option_map (λ t. t.now) c.args.report) (kept_from i) (kept_to i))

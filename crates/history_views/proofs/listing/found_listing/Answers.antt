use Rattle.std.proofs.Common.{◌≡◌, ◌∙◌, ap, sym, Some, option_map}
use Rattle.filing_version.specs.StampedReports.{StampedReports, repository_in}
use Rattle.history_views.specs.Listing.{listing}
use Rattle.history_views.specs.Versions.{version_kept}
use Rattle.history_views.proofs.listing.found_listing.Goals as goal

pub returns : goal.returns
returns c = λ has.
    let there = repository_in c.deref.result.now in
    let kept : version_kept c.args.version.now ≡ Some there =
    ap version_kept c.in-Some.is ∙ ap (λ (v : StampedReports). Some (repository_in v)) (sym c.deref.ensures) in
    ap Some (c.in_ok-listing_of.ensures (has there kept)) ∙ sym (ap (option_map listing) kept)

use Rattle.filing_version.specs.StampedReports.{repository_in}
use Rattle.history_views.proofs.Listings.{all_listed}
use Rattle.history_views.proofs.listing.listing_of.Goals as goal

pub returns : goal.returns
returns c = all_listed c.args.names.now (repository_in c.args.version.now) _ c.loop-named.named-iterator c.in-None.ensures.steps.0 c.loop-named.invariant

use Rattle.std.proofs.Common.{option_map, string_bytes}
use Rattle.history_views.specs.Versions.{version_kept}
use Rattle.history_views.proofs.FoundVersions.{listed_at_end}
use Rattle.history_views.proofs.listing.listing_of_history.Goals as goal

pub returns-in-Ok-found_listing-clause-found : goal.returns-in-Ok-found_listing-clause-found
returns-in-Ok-found_listing-clause-found g c = λ lawful.
    listed_at_end _ _ _ _ c.args.number (version_kept c.in-Ok-into_version.version) c.in-Ok.sought c.in_ok-verdict.field-0.view
    (option_map string_bytes c.in-Ok-found_listing.text)
    c.in-Ok.ensures.number c.in-Ok-into_version.ensures c.in-Ok-found_listing.ensures (c.in_ok-verdict.ensures.followed lawful)

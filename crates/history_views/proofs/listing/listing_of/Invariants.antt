use Rattle.std.proofs.Common.{◌≡◌, ◌++◌, string_bytes}
use Rattle.filing_version.specs.StampedReports.{repository_in}
use Rattle.history_views.specs.Listing.{head_of}
use Rattle.history_views.proofs.Listings.{rows_at}
use Rattle.history_views.proofs.listing.listing_of.Given as goal

-- the lines so far, and those of the names still to come
abbrev pub invariant-loop-named : goal.invariant-loop-named
invariant-loop-named l =
    string_bytes l.out ++ rows_at (repository_in l.version) l.named-iterator
    ≡ head_of (repository_in l.version) ++ rows_at (repository_in l.version) l.names.entries

use Rattle.std.proofs.Common.{◌≡◌, All, vec_len}
use Rattle.filing_publish.proofs.publisher.Publisher.places.Given as goal

abbrev pub invariant-loop : goal.invariant-loop
invariant-loop g l = (vec_len l.places ≡ l.counter) × All (λ r. r ≡ l.beginning.versions) l.places.items

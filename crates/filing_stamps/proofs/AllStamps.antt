-- All stamps as a range.
use Rattle.std.proofs.Common.{◌≡◌, ap, refl, List, [], ◌∷◌, Equal}
use Rattle.sorted_pages.specs.Ranges.{within}
use Rattle.filing_stamps.specs.Stamps.{Stamp}

pub within_all : (stamps : List Stamp) → within (λ s. Equal) stamps ≡ stamps
within_all [] = refl
within_all (s ∷ stamps) = ap (λ ss. s ∷ ss) (within_all stamps)

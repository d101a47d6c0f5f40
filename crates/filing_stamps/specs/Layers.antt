-- Stamps in parts: those that each of the last commits left, and layers of those before. The project's own.
use Rattle.std.specs.Prelude.{ℕ, ◌≤◌, ◌≡◌, max, List}
use Rattle.std.specs.List.{flat_map}
use Rattle.sorted_pages.specs.Pages.{greatest}
use Rattle.filing_facts.specs.FactChanges.{Part}
use Rattle.filing_stamps.specs.Stamps.{Stamp, stamp_in}

-- the stamps of all parts
abbrev pub all_stamps : List (List Stamp) → List Stamp
all_stamps parts = flat_map (λ stamps. stamps) parts

-- none has a greater number
abbrev pub AreUpTo : ℕ → List Stamp → Type 0
AreUpTo n stamps = greatest (λ s. s.number) stamps ≤ n

-- stamps after one commit more: each part has the greater of its numbers before and among what the commit left
abbrev pub AreWith : List Stamp → List Stamp → List Stamp → Type 0
AreWith added old new = (part : Part) → stamp_in new part ≡ max (stamp_in added part) (stamp_in old part)

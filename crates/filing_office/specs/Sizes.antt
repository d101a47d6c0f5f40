-- How large an office is. The project's own.
use Rattle.std.specs.Prelude.{ℕ, ◌<◌, ◌≤◌}
use Rattle.filing_office.specs.declared.office.TheConstants.{MOST_DESKS}

-- it has so many desks, or so many reviewers
abbrev pub FitsOffice : ℕ → Type 0
FitsOffice many = (0 < many) × (many ≤ MOST_DESKS)

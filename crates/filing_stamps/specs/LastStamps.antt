-- Of stamps that tie, the one with the greatest number. The project's own.
use Rattle.std.specs.Prelude.{◌≡◌, List}
use Rattle.std.specs.Ordering.{on, then_cmp, flip_args, nat_cmp}
use Rattle.std.specs.declared.cmp.Ordering.{Ordering}
use Rattle.sorted_pages.specs.Pages.{greatest}
use Rattle.sorted_pages.specs.Ranges.{within}
use Rattle.filing_stamps.specs.Stamps.{Stamp, stamp_cmp, Among, among_side}

-- the order of stamps; of those that tie, the greatest number comes first
abbrev pub newest_cmp : Stamp → Stamp → Ordering
newest_cmp = then_cmp stamp_cmp (flip_args (on (λ s. s.number) nat_cmp))

-- each range has the same greatest number among these
abbrev pub AreLast : List Stamp → List Stamp → Type 0
AreLast stamps last =
    (among : Among) → greatest (λ s. s.number) (within (among_side among) last)
    ≡ greatest (λ s. s.number) (within (among_side among) stamps)

-- What holds of each block, and of a list.
use Rattle.std.specs.Prelude.{◌≡◌, ℕ, ◌<◌, ◌≤◌, List, [], ◌++◌, length, Option, Some}
use Rattle.std.specs.List.{flat_map}
use Rattle.std.specs.declared.cmp.Ordering.{Ordering}
use Rattle.std.specs.declared.sync.Arc.{Arc}
use Rattle.sorted_pages.specs.Pages.{singleton, of_section}
use Rattle.sorted_pages.specs.Keys.{first_of, last_of}
use Rattle.sorted_pages.specs.Sorted.{IsRising}

-- these are one to 64 items, this is kept of them, and these are the keys of the first and of the last
pub record IsBlock {X E K : Type 0} (members : X → List E) (keeps : K → List E → Type 0) (first last : X → Option ℕ)
    (items : List X) (kept : K) (first_key last_key : ℕ) : Type 0 where
  pub some : 0 < length items
  pub few : length items ≤ 64
  pub told : keeps kept (flat_map members items)
  pub begins : Some first_key ≡ first_of first items
  pub ends : Some last_key ≡ last_of last items

-- up to 64 entries stand in place, or all stand in sections, and they rise
pub record IsShortOrLong {E W X Y Z : Type 0} (R : E → E → Ordering) (entries : List E)
    (sections : List (Arc (List (Arc (List (Arc (List (Arc (List E) Z)) Y)) X)) W)) : Type 0 where
  pub rises : IsRising R (flat_map singleton entries ++ flat_map of_section sections)
  pub few : length entries ≤ 64
  pub apart : 0 < length sections → entries ≡ []

-- The places that are kept on the way through a history, where two versions of it may differ. All of it is the project's own.
use Rattle.std.specs.Prelude.{◌≡◌, Bool, false, ◌&&◌, Option, Some, None}
use Rattle.std.specs.List.{list_any}
use Rattle.std.specs.Option.{option_map_or}
use Rattle.filing_model.specs.Common.Text.{Text, text_eq}
use Rattle.filing_model.specs.Common.TextMap.{get}
use Rattle.filing_model.specs.Sessions.Repository.{Repository}
use Rattle.filing_model.specs.Histories.History.{Step, Load, Ask, History}
use Rattle.filing_model.specs.Histories.Touches.{place_of_call}
use Rattle.version_differences.specs.Places.{Places, ids_at, CoverDifference}
use Rattle.history_views.specs.Versions.{Seeks, version_kept}
use Rattle.history_views.specs.declared.placed.PlacedVersions.{PlacedVersions}

-- whether a step loads a report of this name, or puts or removes a fact at this identifier
abbrev pub loads_name : Text → Step → Bool
loads_name name (Load loaded r) = text_eq name loaded
loads_name name _ = false

abbrev pub stages_at : Text → Text → Step → Bool
stages_at name id (Ask call) = option_map_or (λ p. text_eq name p.0 && text_eq id p.1) (place_of_call call) false
stages_at name id _ = false

-- each name that a step of the history loads, and each identifier at which one puts or removes, is a place
pub record HasPlaces (places : Places) (h : History) : Type 0 where
  pub names : (name : Text) → get places name ≡ None → list_any (λ e. loads_name name e.step) h ≡ false
  pub ids : (name id : Text) → get (ids_at places name) id ≡ None → list_any (λ e. stages_at name id e.step) h ≡ false

-- once both versions were met they differ at places alone; until then each place of the history is one
abbrev pub KnowsPlaces : Places → Option Repository → Option Repository → History → Type 0
KnowsPlaces places (Some c) (Some d) h = CoverDifference places c d
KnowsPlaces places _ _ h = HasPlaces places h

abbrev pub SeeksPlaced : PlacedVersions → History → Type 0
SeeksPlaced v h =
    Seeks v.from h × Seeks v.to h × KnowsPlaces v.places (version_kept v.from.found) (version_kept v.to.found) h

-- of the numbers with which it began
abbrev pub SeeksPlacedOn : PlacedVersions → PlacedVersions → History → Type 0
SeeksPlacedOn first v h = (v.from.number ≡ first.from.number) × (v.to.number ≡ first.to.number) × SeeksPlaced v h

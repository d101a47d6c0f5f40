-- Two versions that are sought, with their places, after one entry more and at the end of a history.
use Rattle.std.proofs.Common.{◌≡◌, ◌∙◌, subst, ℕ, true, ◌&&◌, ◌∷◌, Option, Some, is_some}
use Rattle.std.proofs.lemmas.Bool.{and_parts}
use Rattle.filing_model.specs.Common.Text.{Text}
use Rattle.filing_model.specs.Oim.Facts.{Table}
use Rattle.filing_model.specs.Sessions.Repository.{Repository}
use Rattle.filing_model.specs.Histories.History.{Entry, History}
use Rattle.filing_model.specs.Histories.Lawful.{IsLawful}
use Rattle.line_io.specs.Devices.{SourceState}
use Rattle.filing_core.specs.Engines.{EngineState}
use Rattle.script_runs.specs.HistoryRun.{IsHistoryFollowed}
use Rattle.version_differences.specs.Places.{Places, CoverDifference}
use Rattle.history_views.specs.Differing.{difference_asked, difference_between}
use Rattle.history_views.specs.Placed.{HasPlaces, KnowsPlaces, SeeksPlacedOn}
use Rattle.history_views.specs.Versions.{IsSought, version_at, version_kept}
use Rattle.history_views.specs.declared.placed.PlacedVersions.{PlacedVersions}
use Rattle.history_views.proofs.NumberedVersions.{sought_before}
use Rattle.history_views.proofs.PlacesCover.{known_after, known_before}

module _ (places : Places) (n m : Option ℕ) (from to : Option Repository) (e : Entry) (h : History) where
  -- both were met before
  pub met_before : (is_some from && is_some to) ≡ true → IsSought n from h × IsSought m to h × KnowsPlaces places from to h
      → IsSought n from (e ∷ h) × IsSought m to (e ∷ h) × KnowsPlaces places from to (e ∷ h)
  met_before met seeks =
      let both = and_parts (is_some from) (is_some to) met in (
        sought_before n from e h both.0 seeks.0,
        sought_before m to e h both.1 seeks.1,
        known_before places from to h e met seeks.2,
      )

  -- they are looked for behind the entry, whose place is one
  pub looked_for : IsLawful (e ∷ h) → HasPlaces places (e ∷ h) → IsSought n from (e ∷ h) → IsSought m to (e ∷ h)
      → IsSought n from (e ∷ h) × IsSought m to (e ∷ h) × KnowsPlaces places from to (e ∷ h)
  looked_for lawful has is_from is_to = (is_from, is_to, known_after places (e ∷ h) lawful n m from to is_from is_to has)

-- what is covered where both were met
pub covered : (places : Places) (from to : Option Repository) (h : History) → KnowsPlaces places from to h
    → (c d : Repository) → from ≡ Some c → to ≡ Some d → CoverDifference places c d
covered places from to h knows c d is_c is_d = subst (λ o. KnowsPlaces places (Some c) o h) is_d (subst (λ o. KnowsPlaces places o to h) is_c knows)

-- what differs is found at the end of a history
pub difference_at_end : (table : Table) (source source' : SourceState) (engine : EngineState) (first v : PlacedVersions) (from to : ℕ) (report : Option Text)
    (text : Option (Option Text)) → first.from.number ≡ Some from → first.to.number ≡ Some to
    → (((c d : Repository) → version_kept v.from.found ≡ Some c → version_kept v.to.found ≡ Some d → CoverDifference v.places c d)
    → text ≡ difference_between report (version_kept v.from.found) (version_kept v.to.found))
    → (h : History) × (IsHistoryFollowed table source source' engine h × SeeksPlacedOn first v h)
    → (h : History) × (IsHistoryFollowed table source source' engine h × (version_kept v.from.found ≡ version_at h from)
    × (version_kept v.to.found ≡ version_at h to) × (text ≡ difference_asked from to report h))
difference_at_end table source source' engine first v from to report text first_from first_to tells
    (h, (followed, (same_from, same_to, (seeks_from, seeks_to, knows)))) =
    let from_is : version_kept v.from.found ≡ version_at h from = subst (λ o. IsSought o (version_kept v.from.found) h) (same_from ∙ first_from) seeks_from in
    let to_is : version_kept v.to.found ≡ version_at h to = subst (λ o. IsSought o (version_kept v.to.found) h) (same_to ∙ first_to) seeks_to in (
      h,
      (
        followed,
        from_is,
        to_is,
        tells (covered v.places (version_kept v.from.found) (version_kept v.to.found) h knows) ∙ (λ i. difference_between report (from_is i) (to_is i)),
      ),
    )

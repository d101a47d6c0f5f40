-- What was sought is found at the end of a history.
use Rattle.std.proofs.Common.{◌≡◌, ◌∙◌, ap, sym, subst, ℕ, Option, Some, None, option_map, unwrap_or}
use Rattle.filing_model.specs.Common.Text.{Text}
use Rattle.filing_model.specs.Common.TextMap.{TextMap}
use Rattle.filing_model.specs.Oim.Facts.{Table}
use Rattle.filing_model.specs.Sessions.Repository.{Repository}
use Rattle.filing_model.specs.Histories.History.{History, repository}
use Rattle.line_io.specs.Devices.{SourceState}
use Rattle.filing_core.specs.Engines.{EngineState, IsEngineOf}
use Rattle.script_runs.specs.HistoryRun.{IsHistoryFollowed}
use Rattle.history_views.specs.Listing.{listing}
use Rattle.history_views.specs.Names.{HasNames, SeeksNamedOn}
use Rattle.history_views.specs.Versions.{IsSought, Seeks, SeeksOn, version_asked}
use Rattle.history_views.specs.declared.named.NamedVersion.{NamedVersion}
use Rattle.history_views.specs.declared.sought.SoughtVersion.{SoughtVersion}

module _ (table : Table) (source source' : SourceState) (engine : EngineState) (number : Option ℕ) (found : Option Repository) where
  pub found_at_end : (first s : SoughtVersion) → first.number ≡ number
      → ((h : History) → IsEngineOf h engine → Seeks s h → found ≡ version_asked s.number h)
      → (h : History) × (IsHistoryFollowed table source source' engine h × SeeksOn first s h)
      → (h : History) × (IsHistoryFollowed table source source' engine h × (found ≡ version_asked number h))
  found_at_end first s first_is told (h, (followed, (same, seeks))) =
      (h, (followed, told h followed.engine_is seeks ∙ ap (λ n. version_asked n h) (same ∙ first_is)))

  -- the names are those of the version
  names_of_found : {X : Type 0} (names : TextMap X) (asked : Option ℕ) (kept : Option Repository) (h : History) (c : Repository) → IsSought asked kept h
      → HasNames names (unwrap_or kept (repository h)) → version_asked asked h ≡ Some c → HasNames names c
  names_of_found names None kept h c none has is =
      let last : repository h ≡ c = cc in
      subst (HasNames names) (ap (λ (o : Option Repository). unwrap_or o (repository h)) none ∙ last) has
  names_of_found names (Some n) kept h c met has is =
      subst (HasNames names) (ap (λ (o : Option Repository). unwrap_or o (repository h)) (met ∙ is)) has

  pub listed_at_end : (first n : NamedVersion) (text : Option Text) → first.version.number ≡ number
      → ((h : History) → IsEngineOf h engine → Seeks n.version h → found ≡ version_asked n.version.number h)
      → (((c : Repository) → found ≡ Some c → HasNames n.names c) → text ≡ option_map listing found)
      → (h : History) × (IsHistoryFollowed table source source' engine h × SeeksNamedOn first n h)
      → (h : History) × (IsHistoryFollowed table source source' engine h × (text ≡ option_map listing (version_asked number h)))
  listed_at_end first n text first_is told lists (h, (followed, (same, (seeks, has)))) =
      let is : found ≡ version_asked n.version.number h = told h followed.engine_is seeks in (
        h,
        (
          followed,
          lists (λ c there. names_of_found n.names n.version.number _ h c seeks has (sym is ∙ there))
              ∙ ap (option_map listing) (is ∙ ap (λ k. version_asked k h) (same ∙ first_is)),
        ),
      )

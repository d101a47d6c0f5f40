use Rattle.history_views.specs.Versions.{version_kept}
use Rattle.history_views.proofs.FoundVersions.{found_at_end}
use Rattle.history_views.proofs.found.version_of_history.Goals as goal

pub returns-in-Ok-into_version-clause-found : goal.returns-in-Ok-into_version-clause-found
returns-in-Ok-into_version-clause-found g c = λ lawful.
    found_at_end _ _ _ _ c.args.number (version_kept c.in-Ok-into_version.version) c.in-Ok.sought c.in_ok-verdict.field-0.view c.in-Ok.ensures.number
    c.in-Ok-into_version.ensures (c.in_ok-verdict.ensures.followed lawful)

use Rattle.std.proofs.Common.{◌≡◌, ◌∙◌, ap, max, List, [], ◌∷◌, ◌++◌}
use Rattle.filing_stamps.specs.Stamps.{Stamp, stamp_in}
use Rattle.filing_stamps.specs.Layers.{all_stamps}
use Rattle.filing_stamps.proofs.GreatestStamps.{with_commit_stamps}
use Rattle.filing_stamps.proofs.stamps.Stamps.with_commit_stamps.Goals as goal

pub returns : goal.returns
returns c = λ part.
    let recent : List (List Stamp) = c.self.inside.recent.items in
    let layers : List (List Stamp) = c.self.inside.layers.items in
    let added : List Stamp = c.args.added.items in
    let pushed : c.push.new.self.items ≡ recent ++ added ∷ [] =
    c.in_ok-push.ensures.items ∙ (λ i. (c.in_ok-recent.ensures ∙ c.deref.ensures.value) i ++ c.in_ok-of.ensures i ∷ []) in
    let same : c.in_ok-layers.layers.items ≡ layers = c.in_ok-layers.ensures ∙ c.deref-2.ensures.value in
    (λ i. stamp_in (all_stamps (pushed i) ++ all_stamps (same i)) part)
    ∙ with_commit_stamps recent layers added part
    ∙ ap (λ (ss : List Stamp). max (stamp_in added part) (stamp_in ss part)) c.self.view_is

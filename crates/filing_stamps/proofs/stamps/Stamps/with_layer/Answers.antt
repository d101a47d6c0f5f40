use Rattle.std.proofs.Common.{◌≡◌, ◌∙◌, ap, sym, subst, max, List, [], ◌∷◌, ◌++◌}
use Rattle.filing_stamps.specs.Stamps.{Stamp, stamp_in}
use Rattle.filing_stamps.specs.Layers.{all_stamps}
use Rattle.filing_stamps.specs.LastStamps.{AreLast}
use Rattle.filing_stamps.proofs.GreatestStamps.{with_layer}
use Rattle.filing_stamps.proofs.stamps.Stamps.with_layer.Goals as goal

pub returns : goal.returns
returns c = λ part.
    let recent : List (List Stamp) = c.self.inside.recent.items in
    let layers : List (List Stamp) = c.self.inside.layers.items in
    let longer : List (List Stamp) = c.split_longer.result.0.now in
    let others : List (List Stamp) = c.split_longer.result.1.now in
    let added : List Stamp = c.args.added.items in
    let last : List Stamp = c.in_ok-last_stamps.field-0.items in
    let parts : layers ≡ longer ++ others = sym c.deref-2.ensures.value ∙ c.split_longer.ensures in
    let fresh : c.append_all.new.all.items ≡ added ++ all_stamps recent =
    c.in_ok-append_all.ensures ∙ ap (λ (rs : List (List Stamp)). added ++ all_stamps rs) c.deref.ensures.value in
    let gathered : c.append_all-2.new.all.items ≡ (added ++ all_stamps recent) ++ all_stamps others =
    c.in_ok-append_all-2.ensures ∙ ap (λ (ss : List Stamp). ss ++ all_stamps others) (c.reserve.ensures.items ∙ fresh) in
    let are : AreLast ((added ++ all_stamps recent) ++ all_stamps others) last =
    subst (λ (ss : List Stamp). AreLast ss last) gathered c.in_ok-last_stamps.ensures.last in
    let pushed : c.push.new.self.items ≡ longer ++ last ∷ [] =
    c.in_ok-push.ensures.items ∙ (λ i. c.in_ok-layers.ensures i ++ c.in_ok-layer.ensures i ∷ []) in
    (λ i. stamp_in (all_stamps (c.new.ensures.items i) ++ all_stamps (pushed i)) part)
    ∙ with_layer recent longer others added last are part
    ∙ ap (λ (ls : List (List Stamp)). max (stamp_in added part) (stamp_in (all_stamps recent ++ all_stamps ls) part)) (sym parts)
    ∙ ap (λ (ss : List Stamp). max (stamp_in added part) (stamp_in ss part)) c.self.view_is

use Rattle.std.proofs.Common.{◌≡◌, ◌∙◌, ap, max, arith, List, ◌++◌}
use Rattle.filing_stamps.specs.Stamps.{Stamp, among_side}
use Rattle.filing_stamps.specs.Layers.{all_stamps}
use Rattle.filing_stamps.proofs.GreatestStamps.{best, best-append}
use Rattle.filing_stamps.proofs.stamps.Stamps.greatest_since.Goals as goal

pub returns : goal.returns
returns c =
    let side = among_side c.args.among.now in
    let since = c.args.since in
    let recent : List (List Stamp) = c.self.inside.recent.items in
    let layers : List (List Stamp) = c.self.inside.layers.items in
    let first : max since c.greatest_since-number.result ≡ max since (best side (all_stamps recent)) =
    c.greatest_since-number.ensures ∙ ap (λ (ps : List (List Stamp)). max since (best side (all_stamps ps))) c.deref.ensures.value in
    let second : max since c.greatest_since.result ≡ max since (best side (all_stamps layers)) =
    c.greatest_since.ensures ∙ ap (λ (ps : List (List Stamp)). max since (best side (all_stamps ps))) c.deref-2.ensures.value in
    let all : best side (all_stamps recent ++ all_stamps layers) ≡ max (best side (all_stamps recent)) (best side (all_stamps layers)) =
    best-append side (all_stamps recent) (all_stamps layers) in
    let both : max since c.max.result ≡ max since (best side (all_stamps recent ++ all_stamps layers)) = omega (arith, first, second, all, c.max.ensures) in
    both ∙ ap (λ (ss : List Stamp). max since (best side ss)) c.self.view_is

use Rattle.std.proofs.Common.{◌≡◌, ◌∙◌, ap, sym, refl, ◌+◌, max, arith, [], ◌∷◌, ◌++◌, take}
use Rattle.std.specs.List.{flat_map}
use Rattle.std.proofs.lemmas.List.{take_all, take_more}
use Rattle.filing_stamps.specs.Stamps.{among_side}
use Rattle.filing_stamps.proofs.GreatestStamps.{best, best-more}
use Rattle.filing_stamps.proofs.kept_stamps.greatest_since.Goals as goal

pub loop-part-init : goal.loop-part-init
loop-part-init g c = refl

pub loop-part-preserved : goal.loop-part-preserved
loop-part-preserved g c =
    let side = among_side c.args.among.now in
    let stamps = g.T.KeptStamps.stamps in
    let parts = c.args.parts.now in
    let i = c.loop-part.part-index in
    let part = c.part-item.result in
    let since = c.args.since in
    let before : max since c.loop-part.number ≡ max since (best side (flat_map stamps (take i parts))) = c.loop-part.invariant in
    let this : max since c.greatest_since.result ≡ max since (best side (stamps part)) = c.greatest_since.ensures in
    let next : take (i + 1) parts ≡ take i parts ++ part ∷ [] =
    take_more parts i part c.loop-part-test.true ∙ ap (λ z. take i parts ++ z ∷ []) (sym c.part-item.is) in
    let more : best side (flat_map stamps (take (i + 1) parts)) ≡ max (best side (flat_map stamps (take i parts))) (best side (stamps part)) =
    ap (λ ps. best side (flat_map stamps ps)) next ∙ best-more side stamps (take i parts) part in
    omega (arith, before, this, more, c.max-number.ensures)

pub returns : goal.returns
returns g c =
    let side = among_side c.args.among.now in
    c.loop-part.invariant
    ∙ ap (λ ps. max c.args.since (best side (flat_map g.T.KeptStamps.stamps ps))) (take_all c.loop-part.part-index c.args.parts.now c.loop-part-test.false)

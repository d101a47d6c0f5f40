use Rattle.std.proofs.Common.{◌≡◌, ◌∙◌, ap, sym, ◌+◌, max, cond, List, [], ◌∷◌, ◌++◌, take, is_eq}
use Rattle.std.proofs.lemmas.List.{take_more}
use Rattle.filing_stamps.specs.Stamps.{Stamp, among_side}
use Rattle.filing_stamps.proofs.GreatestStamps.{best, best-push}
use Rattle.filing_stamps.proofs.kept_stamps.CommitStamps.greatest_in.Goals as goal
use Rattle.filing_stamps.proofs.kept_stamps.CommitStamps.greatest_in.Goals.{then-is_eq, else-is_eq}

pub loop-stamp-preserved : goal.loop-stamp-preserved
loop-stamp-preserved c =
    let items : List Stamp = c.deref-stamp-items.result.now in
    let i = c.loop-stamp.stamp-index in
    let s : Stamp = c.stamp-item.result in
    let side = among_side c.args.among.now in
    let before = best side (take i items) in
    let next : take (i + 1) items ≡ take i items ++ s ∷ [] =
    take_more items i s c.loop-stamp-test.true ∙ ap (λ z. take i items ++ z ∷ []) (sym c.stamp-item.is) in
    let hit : c.is_eq.result ≡ is_eq (side s) = c.is_eq.ensures ∙ ap is_eq c.side.ensures in
    let more : c.if-is_eq.number ≡ cond c.is_eq.result (max before s.number) before =
    elim c.if-is_eq.branch [
      | then-is_eq w ↦ w.number-is ∙ w.max-number.ensures ∙ (λ j. max (c.loop-stamp.invariant j) (w.number.ensures j))
          ∙ ap (λ b. cond b (max before s.number) before) (sym w.if-is_eq.true)
      | else-is_eq w ↦ w.number-is ∙ c.loop-stamp.invariant ∙ ap (λ b. cond b (max before s.number) before) (sym w.if-is_eq.false)
    ] in
    more ∙ best-push side (take i items) s c.is_eq.result hit ∙ ap (best side) (sym next)

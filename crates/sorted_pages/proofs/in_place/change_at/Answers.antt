use Rattle.std.proofs.Common.{◌∙◌, ◌+◌, ◌++◌, ◌∷◌, [], ap, sym, subst, take, drop, T, cond}
use Rattle.sorted_pages.specs.Changes.{entries_put}
use Rattle.sorted_pages.proofs.InPlace.{set_apart}
use Rattle.sorted_pages.proofs.in_place.change_at.Goals as goal

pub returns-then-ties-clause-entries : goal.returns-then-ties-clause-entries
returns-then-ties-clause-entries g c =
    let items = c.args.entries.now.items in
    let i = c.args.place in
    set_apart items i c.of.result (c.requires.tied (subst T (sym c.if-ties.true) tt))
    ∙ ap (λ es. take i items ++ (es ++ drop (i + 1) items))
    (ap (λ e. e ∷ []) (c.of.ensures ∙ c.in_ok-share-in-Put.ensures) ∙ sym (ap entries_put c.in-Put.is))
    ∙ ap (λ t. take i items ++ (entries_put c.args.change.now ++ drop (cond t (i + 1) i) items)) (sym c.if-ties.true)

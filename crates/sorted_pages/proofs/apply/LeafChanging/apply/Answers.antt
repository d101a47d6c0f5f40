use Rattle.std.proofs.Common.{◌∙◌, ap, sym, refl, subst, ◌++◌}
use Rattle.sorted_pages.specs.Sorted.{IsRising}
use Rattle.sorted_pages.specs.Changes.{with_changes}
use Rattle.sorted_pages.proofs.Flats.{singles}
use Rattle.sorted_pages.proofs.Steps.{entry_turn, laid_all}
use Rattle.sorted_pages.proofs.apply.LeafChanging.apply.Goals as goal

pub loop-change-preserved : goal.loop-change-preserved
loop-change-preserved g c =
    entry_turn g.E.PageEntry.order g.met.E.PageEntry.is_total c.in-Some.change.now c.in-Some.later.now c.loop-change.ahead.now c.entry-entry.result.now
    c.split_at_edge.result.0.now c.split_at_edge.result.1.now c.loop-change.left.now c.after_tied-left.result.now
    (g.U.Grow.all c.loop-change.grown) (g.U.Grow.all c.share_all.new.grown) (g.U.Grow.all c.put_change.new.grown) _
    c.entry-entry.ensures c.in-Some.ensures.cases.0 c.split_at_edge.ensures.parts c.loop-change.invariant.1 c.loop-change.invariant.2
    c.split_at_edge.ensures.front c.split_at_edge.ensures.back c.after_tied-left.ensures
    (c.in_ok-share_all.ensures ∙ ap (λ es. g.U.Grow.all c.loop-change.grown ++ es) (singles c.split_at_edge.result.0.now))
    c.in_ok-put_change.ensures c.loop-change.invariant.0

pub loop-change-init : goal.loop-change-init
loop-change-init g c = (refl, subst (IsRising g.E.PageEntry.order) (singles c.args.items.now) c.requires.items, c.requires.changes)

pub returns : goal.returns
returns g c =
    c.in_ok-share_all-2.ensures ∙ ap (λ es. g.U.Grow.all c.loop-change.grown ++ es) (singles c.loop-change.left.now)
    ∙ laid_all g.E.PageEntry.order g.met.E.PageEntry.is_total c.loop-change.ahead.now c.loop-change.left.now (g.U.Grow.all c.loop-change.grown) _
    c.in_default.ensures.cases c.loop-change.invariant.0
    ∙ ap (λ es. g.U.Grow.all c.args.grown ++ with_changes g.E.PageEntry.order c.args.changes.now es) (sym (singles c.args.items.now))

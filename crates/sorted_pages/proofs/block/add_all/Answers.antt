use Rattle.std.proofs.Common.{subst, sym, append-nil}
use Rattle.sorted_pages.proofs.Sums.{members_more, members_all}
use Rattle.sorted_pages.proofs.block.add_all.Goals as goal

pub loop-item-init : goal.loop-item-init
loop-item-init g c = λ xs told. subst (g.T.Edged.tells c.args.before) (sym (append-nil xs)) told

pub loop-item-preserved : goal.loop-item-preserved
loop-item-preserved g c = λ xs told.
    subst (g.T.Edged.tells c.add_to-sum.result)
    (members_more g.T.Edged.members xs c.args.items.now c.loop-item.item-index c.item-item.result c.loop-item-test.true c.item-item.is)
    (c.add_to-sum.ensures _ (c.loop-item.invariant xs told))

pub returns : goal.returns
returns g c = λ xs told.
    subst (g.T.Edged.tells c.loop-item.sum)
    (members_all g.T.Edged.members xs c.args.items.now c.loop-item.item-index c.loop-item-test.false)
    (c.loop-item.invariant xs told)

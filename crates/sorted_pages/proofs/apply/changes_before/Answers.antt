use Rattle.sorted_pages.proofs.Keys.{before_first, from_first}
use Rattle.sorted_pages.proofs.Steps.{mine_are_less}
use Rattle.sorted_pages.proofs.apply.changes_before.Goals as goal

pub returns-clause-place : goal.returns-clause-place
returns-clause-place g c =
    let key = g.met.T.Level.first_keys c.args.next.now c.first_key-key.result c.first_key-key.ensures in
    let entries = g.T.Level.entries c.args.next.now in (
      key.0,
      key.1,
      mine_are_less g.E.PageEntry.order g.met.E.PageEntry.is_total key.0 c.args.changes.now c.split_at_edge.result.0.now c.split_at_edge.result.1.now
          c.split_at_edge.ensures.parts c.requires
          (before_first g.E.PageEntry.order g.met.E.PageEntry.is_total key.0 entries key.1.0 key.1.1
          c.split_at_edge.result.0.now c.split_at_edge.ensures.front),
      from_first g.E.PageEntry.order g.met.E.PageEntry.is_total key.0 entries key.1.0 key.1.1 c.split_at_edge.result.1.now c.split_at_edge.ensures.back,
    )

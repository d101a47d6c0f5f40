use Rattle.std.proofs.Common.{◌≡◌, ◌≤◌, ◌+◌, ◌++◌, take, length}
use Rattle.std.specs.List.{flat_map}
use Rattle.sorted_pages.proofs.level.push_shares.Given as goal

abbrev pub invariant-loop-item : goal.invariant-loop-item
invariant-loop-item g l = record {
  entries : flat_map g.T.Level.entries l.list.items ≡ flat_map g.T.Level.entries l.fn.list.items ++ flat_map g.T.Level.entries (take l.item-index l.items);
  no_more : length l.list.items ≤ length l.fn.list.items + l.item-index;
}

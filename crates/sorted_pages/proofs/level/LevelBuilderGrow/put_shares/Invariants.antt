use Rattle.std.proofs.Common.{◌≡◌, ◌++◌, take}
use Rattle.std.specs.List.{flat_map}
use Rattle.sorted_pages.proofs.level.LevelBuilderGrow.put_shares.Given as goal

abbrev pub invariant-loop-item : goal.invariant-loop-item
invariant-loop-item g l =
    g.U.Grow.all l.self.above ++ flat_map g.T.Level.entries l.self.rest
    ≡ (g.U.Grow.all l.fn.self.above ++ flat_map g.T.Level.entries l.fn.self.rest) ++ flat_map g.T.Level.entries (take l.item-index l.items)

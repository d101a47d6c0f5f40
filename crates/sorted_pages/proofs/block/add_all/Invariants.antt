-- The sum is of what came before, and of the items so far.
use Rattle.std.proofs.Common.{List, ◌++◌, take}
use Rattle.std.specs.List.{flat_map}
use Rattle.sorted_pages.proofs.block.add_all.Given as goal

abbrev pub invariant-loop-item : goal.invariant-loop-item
invariant-loop-item g l =
    (xs : List g.T.Edged.Entry) → g.T.Edged.tells l.fn.before xs
    → g.T.Edged.tells l.sum (xs ++ flat_map g.T.Edged.members (take l.item-index l.items))

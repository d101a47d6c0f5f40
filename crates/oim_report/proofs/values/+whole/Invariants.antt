use Rattle.std.proofs.Common.{drop}
use Rattle.oim_report.proofs.WholeNumbers.{OfItems, OfMembers}
use Rattle.oim_report.proofs.values.+whole.Given as goal

abbrev pub invariant-are_members_whole-loop-name : goal.invariant-are_members_whole-loop-name
invariant-are_members_whole-loop-name l = OfMembers l.name-iterator l.members.entries

abbrev pub invariant-are_whole-loop-item : goal.invariant-are_whole-loop-item
invariant-are_whole-loop-item l = OfItems (drop l.item-index l.items.items) l.items.items

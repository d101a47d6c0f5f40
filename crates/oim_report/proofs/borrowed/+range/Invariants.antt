use Rattle.std.proofs.Common.{◌≡◌, is_some, drop}
use Rattle.json.specs.Value.{items_view, members_view}
use Rattle.serde_json.specs.Data.{no_members}
use Rattle.serde_json.specs.Read.{of_items, of_members}
use Rattle.oim_report.proofs.borrowed.+range.Given as goal

-- all are in range exactly where those that are left are
abbrev pub invariant-are_items_in_range-loop-item : goal.invariant-are_items_in_range-loop-item
invariant-are_items_in_range-loop-item l =
    is_some (of_items (items_view l.items.items)) ≡ is_some (of_items (items_view (drop l.item-index l.items.items)))

abbrev pub invariant-are_members_in_range-loop-member : goal.invariant-are_members_in_range-loop-member
invariant-are_members_in_range-loop-member l =
    is_some (of_members (members_view l.members.items) no_members)
    ≡ is_some (of_members (members_view (drop l.member-index l.members.items)) no_members)

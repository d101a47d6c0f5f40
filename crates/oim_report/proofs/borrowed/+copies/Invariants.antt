use Rattle.std.proofs.Common.{◌≡◌, drop, option_map}
use Rattle.json.specs.Value as read
use Rattle.serde_json.specs.Data.{no_members}
use Rattle.serde_json.specs.Read.{of_items, of_members}
use Rattle.serde_json.specs.View.{members_view}
use Rattle.oim_report.proofs.CopiedValues.{before}
use Rattle.oim_report.proofs.borrowed.+copies.Given as goal

-- what was copied, with what is left
abbrev pub invariant-copy_of_items-loop-item : goal.invariant-copy_of_items-loop-item
invariant-copy_of_items-loop-item l =
    of_items (read.items_view l.items.items)
    ≡ option_map (before l.copies.items) (of_items (read.items_view (drop l.item-index l.items.items)))

abbrev pub invariant-copy_of_members-loop-member : goal.invariant-copy_of_members-loop-member
invariant-copy_of_members-loop-member l =
    of_members (read.members_view l.members.items) no_members
    ≡ of_members (read.members_view (drop l.member-index l.members.items)) (members_view l.copies.entries)

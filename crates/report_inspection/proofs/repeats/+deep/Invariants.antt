use Rattle.std.proofs.Common.{◌≡◌, ◌||◌, drop}
use Rattle.json.specs.Value.{items_view, members_view}
use Rattle.filing_model.specs.Common.Text.{Text}
use Rattle.report_inspection.specs.MemberNames.{has_name, is_repeated_in_items, is_repeated_in_values}
use Rattle.report_inspection.proofs.repeats.+deep.Given as goal

-- what was added, with what is left
abbrev pub invariant-add_repeated_in_items-loop-item : goal.invariant-add_repeated_in_items-loop-item
invariant-add_repeated_in_items-loop-item l = (name : Text)
    → (has_name l.repeated name || is_repeated_in_items (items_view (drop l.item-index l.items.items)) name)
    ≡ (has_name l.initial.repeated name || is_repeated_in_items (items_view l.items.items) name)

abbrev pub invariant-add_repeated_in_values-loop-member : goal.invariant-add_repeated_in_values-loop-member
invariant-add_repeated_in_values-loop-member l = (name : Text)
    → (has_name l.repeated name || is_repeated_in_values (members_view (drop l.member-index l.members.items)) name)
    ≡ (has_name l.initial.repeated name || is_repeated_in_values (members_view l.members.items) name)

use Rattle.std.proofs.Common.{◌≡◌, ◌||◌, ◌&&◌, drop}
use Rattle.json.specs.Strict.{keys}
use Rattle.json.specs.Value.{members_view}
use Rattle.filing_model.specs.Common.Text.{Text}
use Rattle.report_inspection.specs.MemberNames.{has_name, is_among, is_repeated}
use Rattle.report_inspection.proofs.repeats.add_repeated_of_many.Given as goal

-- what was added, with what is left: names that were seen and stand there, and those that are repeated there
abbrev pub invariant-loop-member : goal.invariant-loop-member
invariant-loop-member l = (name : Text)
    → (has_name l.repeated name
    || ((has_name l.seen name && is_among (keys (members_view (drop l.member-index l.members.items))) name)
    || is_repeated (keys (members_view (drop l.member-index l.members.items))) name))
    ≡ (has_name l.initial.repeated name || is_repeated (keys (members_view l.members.items)) name)

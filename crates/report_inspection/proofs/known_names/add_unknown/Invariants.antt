use Rattle.std.proofs.Common.{◌≡◌, ◌||◌, drop}
use Rattle.json.specs.Strict.{keys}
use Rattle.json.specs.Value.{members_view}
use Rattle.filing_model.specs.Common.Text.{Text}
use Rattle.report_inspection.specs.MemberNames.{has_name, is_unknown}
use Rattle.report_inspection.proofs.known_names.add_unknown.Given as goal

-- what was added, with what is left
abbrev pub invariant-loop-member : goal.invariant-loop-member
invariant-loop-member l = (name : Text)
    → (has_name l.unknown name || is_unknown l.kind (keys (members_view (drop l.member-index l.members.items))) name)
    ≡ (has_name l.initial.unknown name || is_unknown l.kind (keys (members_view l.members.items)) name)

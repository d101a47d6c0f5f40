use Rattle.std.proofs.Common.{◌≡◌, ◌||◌, length}
use Rattle.json.specs.Strict.{keys}
use Rattle.json.specs.Value.{members_view}
use Rattle.filing_model.specs.Common.Text.{Text}
use Rattle.report_inspection.specs.MemberNames.{has_name, is_repeated}
use Rattle.report_inspection.proofs.repeats.add_repeated_of_few.Given as goal

-- what was added, with what is repeated among those left
abbrev pub invariant-loop-left : goal.invariant-loop-left
invariant-loop-left l = (name : Text)
    → (has_name l.repeated name || is_repeated (keys (members_view l.left)) name)
    ≡ (has_name l.initial.repeated name || is_repeated (keys (members_view l.members)) name)

abbrev pub decreases-loop-left : goal.decreases-loop-left
decreases-loop-left l = length l.left

use Rattle.std.proofs.Common.{◌≡◌, drop}
use Rattle.json.specs.Strict.{keys}
use Rattle.json.specs.Value.{members_view}
use Rattle.report_inspection.specs.MemberNames.{is_among}
use Rattle.report_inspection.proofs.repeats.is_among.Given as goal

-- those left decide
abbrev pub invariant-loop-member : goal.invariant-loop-member
invariant-loop-member l = is_among (keys (members_view l.members)) l.name ≡ is_among (keys (members_view (drop l.member-index l.members))) l.name

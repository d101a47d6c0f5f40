use Rattle.std.proofs.Common.{◌∙◌, ◌||◌, sym}
use Rattle.json.specs.Strict.{keys}
use Rattle.json.specs.Value.{members_view}
use Rattle.report_inspection.specs.MemberNames.{has_name, is_repeated}
use Rattle.report_inspection.proofs.RepeatedNames.{again_added, once_passed}
use Rattle.report_inspection.proofs.repeats.add_repeated_of_few.Goals as goal

pub loop-left-preserved-in_ok-insert : goal.loop-left-preserved-in_ok-insert
loop-left-preserved-in_ok-insert c =
    again_added c.loop-left.left.now c.first-item.result c.loop-left.repeated c.insert.new.self
    (λ name. has_name c.args.repeated.now name || is_repeated (keys (members_view c.args.members.now)) name) c.in-len1-up.len_at_least c.first-item.is
    (sym c.is_among.ensures ∙ c.if-is_among.true) c.in_ok-insert.ensures.updates c.loop-left.invariant

pub loop-left-preserved : goal.loop-left-preserved
loop-left-preserved c =
    once_passed c.loop-left.left.now c.first-item.result c.loop-left.repeated
    (λ name. has_name c.args.repeated.now name || is_repeated (keys (members_view c.args.members.now)) name) c.in-len1-up.len_at_least c.first-item.is
    (sym c.is_among.ensures ∙ c.if-is_among.false) c.loop-left.invariant

use Rattle.std.proofs.Common.{◌∙◌, ◌||◌, ap, sym}
use Rattle.std.proofs.Math.Bool.{or-false}
use Rattle.json.specs.Strict.{keys}
use Rattle.json.specs.Value.{members_view}
use Rattle.report_inspection.specs.MemberNames.{has_name}
use Rattle.report_inspection.proofs.RepeatedNames.{not_repeated}
use Rattle.report_inspection.proofs.repeats.add_repeated.Goals as goal

pub returns : goal.returns
returns c = λ name.
    sym (or-false (has_name c.args.repeated.now name))
    ∙ ap (λ b. has_name c.args.repeated.now name || b)
    (sym (not_repeated (keys (members_view c.args.members.now.items)) (sym c.in_ok-have_repeats.ensures ∙ c.if-branch.false) name))

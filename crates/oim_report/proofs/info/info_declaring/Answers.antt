use Rattle.std.proofs.Common.{◌∙◌}
use Rattle.serde_json.specs.View.{members_view}
use Rattle.oim_report.proofs.SetMembers.{members_set}
use Rattle.oim_report.proofs.info.info_declaring.Goals as goal

pub returns : goal.returns
returns c =
    members_set (members_view c.args.members.entries) _ _ _ _ c.args.allowed c.in_ok-features.ensures
    (c.in_ok-word.ensures.ok ∙ c.allowed_word.ensures) c.in_ok-put.ensures.ok c.in_ok-put-2.ensures.ok

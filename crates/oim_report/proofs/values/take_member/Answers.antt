use Rattle.std.proofs.Common.{◌∙◌, ap, option_map}
use Rattle.serde_json.specs.Find.{get_member}
use Rattle.serde_json.specs.View.{view, members_view}
use Rattle.serde_json.proofs.Views.{view-lookup}
use Rattle.oim_report.proofs.TakenMembers.{others_stay}
use Rattle.oim_report.proofs.values.take_member.Goals as goal

pub returns-clause-value : goal.returns-clause-value
returns-clause-value c = ap (λ o. option_map view o) c.remove.ensures.value ∙ view-lookup c.args.name.now c.args.members.now.entries

pub returns-clause-others : goal.returns-clause-others
returns-clause-others c = λ other h.
    ap (λ es. get_member other (members_view es)) c.remove.ensures.entries
    ∙ others_stay other c.args.name.now h c.args.members.now.entries

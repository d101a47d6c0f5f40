use Rattle.std.proofs.Common.{◌∙◌, ap, option_map}
use Rattle.serde_json.specs.View.{view}
use Rattle.serde_json.proofs.Views.{view-lookup, view_of_ref}
use Rattle.oim_report.proofs.info.member.Goals as goal

pub returns : goal.returns
returns c =
    view_of_ref c.get.result ∙ ap (λ o. option_map view o) c.get.ensures.value
    ∙ view-lookup c.args.name.now c.args.members.now.entries

use Rattle.std.proofs.Common.{◌∙◌, ap, sym, option_and_then}
use Rattle.json.specs.Value.{value_view}
use Rattle.serde_json.specs.Read.{of_json}
use Rattle.oim_report.specs.Borrowed.{data_of}
use Rattle.oim_report.proofs.InRange.{copied_at, get_of, the_value}
use Rattle.oim_report.proofs.borrowed.owned_at.Goals as goal

pub returns-in-Some : goal.returns-in-Some
returns-in-Some c =
    let j = value_view c.args.value.now in
    copied_at c.copy_of.result _ _
    (sym (get_of c.args.name.now j (data_of c.args.value.now) (the_value (of_json j) c.requires)
    ∙ ap (option_and_then of_json) (sym c.in-Some.ensures))) c.copy_of.ensures

pub returns-in-None : goal.returns-in-None
returns-in-None c =
    let j = value_view c.args.value.now in
    sym (get_of c.args.name.now j (data_of c.args.value.now) (the_value (of_json j) c.requires)
    ∙ ap (option_and_then of_json) (sym c.in-None.ensures))

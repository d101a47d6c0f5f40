use Rattle.std.proofs.Common.{◌∙◌, ap, unwrap_or}
use Rattle.std.specs.Arc.{arc_value}
use Rattle.serde_json.specs.View.{view}
use Rattle.filing_model.specs.declared.duplicates.Allowed.TheVariants.{All}
use Rattle.report_inspection.proofs.HeadParts.{head_of_object}
use Rattle.report_inspection.proofs.info.head_of.Goals as goal

pub returns : goal.returns
returns c =
    head_of_object (arc_value c.args.table.now) (view c.args.info.now) _ _ _ _ _ c.requires.object c.in_ok-check_type.ensures
    c.in_ok-allowed.ensures.faults c.in_ok-names.ensures.faults c.in_ok-check_numbers.ensures c.new-faults.ensures.items
    c.in_ok-names.ensures.names (c.unwrap_or.ensures ∙ ap (λ o. unwrap_or o All) c.in_ok-allowed.ensures.allowed)

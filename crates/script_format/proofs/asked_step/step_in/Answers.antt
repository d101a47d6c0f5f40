use Rattle.std.proofs.Common.{◌∙◌, ap, sym, Some, string_bytes}
use Rattle.serde_json.specs.View.{view}
use Rattle.script_format.specs.LineView.{asking_view}
use Rattle.script_format.proofs.AskedParts.{cell_has_part, addition_has_part, cell_is_asked, addition_is_asked}
use Rattle.script_format.proofs.asked_step.step_in.Goals as goal

pub taken_at-dims-requires : goal.taken_at-dims-requires
taken_at-dims-requires c =
    cell_has_part c.in-Some.word.now c.args.place (view c.args.value.now) c.in-Cell.report.now (view c.in-Cell.dims.now)
    (ap (λ a. Some (asking_view view a)) (sym c.in-Cell.is) ∙ c.in-Some-asking_from.ensures)

pub returns-in_ok-cell_from-in-Cell : goal.returns-in_ok-cell_from-in-Cell
returns-in_ok-cell_from-in-Cell c =
    cell_is_asked c.args.place (view c.args.value.now) c.in_ok-cell_from-in-Cell.field-0 c.in-Some.word.now c.in-Cell.report.now
    (string_bytes c.in_ok-report-in-Cell.report) (view c.in-Cell.dims.now) (view c.taken_at-dims.result)
    c.in-Some.ensures
    (ap (λ a. Some (asking_view view a)) (sym c.in-Cell.is) ∙ c.in-Some-asking_from.ensures)
    c.in_ok-report-in-Cell.ensures.ok c.taken_at-dims.ensures c.in_ok-cell_from-in-Cell.ensures

pub taken_at-fact-requires : goal.taken_at-fact-requires
taken_at-fact-requires c =
    addition_has_part c.in-Some.word.now c.args.place (view c.args.value.now) c.in-Add.report.now c.in-Add.id.now (view c.in-Add.fact.now)
    (ap (λ a. Some (asking_view view a)) (sym c.in-Add.is) ∙ c.in-Some-asking_from.ensures)

pub returns-in_ok-add_from-in-Add : goal.returns-in_ok-add_from-in-Add
returns-in_ok-add_from-in-Add c =
    addition_is_asked c.args.place (view c.args.value.now) c.in_ok-add_from-in-Add.field-0 c.in-Some.word.now c.in-Add.report.now c.in-Add.id.now
    (string_bytes c.in_ok-report-in-Add.report) (string_bytes c.in_ok-id-in-Add.id) (view c.in-Add.fact.now) (view c.taken_at-fact.result)
    c.in-Some.ensures
    (ap (λ a. Some (asking_view view a)) (sym c.in-Add.is) ∙ c.in-Some-asking_from.ensures)
    c.in_ok-report-in-Add.ensures.ok c.in_ok-id-in-Add.ensures.ok c.taken_at-fact.ensures c.in_ok-add_from-in-Add.ensures

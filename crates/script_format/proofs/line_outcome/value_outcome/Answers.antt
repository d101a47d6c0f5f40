use Rattle.std.proofs.Common.{◌∙◌, ap, sym, Some, string_bytes}
use Rattle.std.specs.Arc.{arc_value}
use Rattle.std.proofs.lemmas.Result.{IfOk-weaker}
use Rattle.serde_json.specs.View.{view}
use Rattle.script_format.specs.LineView.{line_view, asking_view}
use Rattle.std.proofs.Common.{IsSome, refl, subst}
use Rattle.script_format.proofs.AskedOfLine.{asked_part}
use Rattle.script_format.proofs.LineOutcomes.{ask_of_value, load_of_value}
use Rattle.script_format.proofs.line_outcome.value_outcome.Goals as goal

pub returns-in_ok-name-in-Load : goal.returns-in_ok-name-in-Load
returns-in_ok-name-in-Load c =
    IfOk-weaker c.load_outcome.result _ _
    (λ j comes. load_of_value (arc_value c.args.table.now) (view c.args.value) (view c.in-Load.report.now) (view c.taken_at.result)
    c.in-Load.name.now (string_bytes c.in_ok-name-in-Load.name) j
    (ap (λ line. Some (line_view view line)) (sym c.in-Load.is) ∙ c.in-Some.ensures) c.in_ok-name-in-Load.ensures.ok c.taken_at.ensures comes)
    c.load_outcome.ensures

pub asking_outcome-requires : goal.asking_outcome-requires
asking_outcome-requires c =
    subst IsSome (sym (asked_part (view c.args.value) c.in-Ask.session.now (asking_view view c.in-Ask.asking)
    (ap (λ line. Some (line_view view line)) (sym c.in-Ask.is) ∙ c.in-Some.ensures))) refl

pub returns-in_ok-session-in-Ask : goal.returns-in_ok-session-in-Ask
returns-in_ok-session-in-Ask c =
    let d = view c.args.value in
    let asking = asking_view view c.in-Ask.asking in
    let is = ap (λ line. Some (line_view view line)) (sym c.in-Ask.is) ∙ c.in-Some.ensures in
    let name = string_bytes c.in_ok-session-in-Ask.session in
    IfOk-weaker c.asking_outcome.result _ _
    (λ j comes. ask_of_value (arc_value c.args.table.now) d c.in-Ask.session.now name asking j is c.in_ok-session-in-Ask.ensures.ok comes)
    (c.asking_outcome.ensures asking (asked_part d c.in-Ask.session.now asking is))

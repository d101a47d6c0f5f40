use Rattle.std.proofs.Common.{◌≡◌, ◌∙◌, ap, sym, Some, None, option_map, option_and_then}
use Rattle.std.proofs.lemmas.Result.{IfOk-weaker}
use Rattle.serde_json.specs.Data.{object}
use Rattle.serde_json.specs.Read.{read}
use Rattle.serde_json.specs.View.{members_view}
use Rattle.serde_json.specs.Written.{has_float, compact_text}
use Rattle.serde_json.proofs.Views.{view-Object}
use Rattle.filing_model.specs.Reading.DeclaredValue.{whole_members}
use Rattle.filing_model.proofs.Reading.DeclaredValues.{set_in_members, set_in_none}
use Rattle.oim_report.proofs.info.with_allowed.Goals as goal

pub returns-in_ok-info_declaring-in-Some : goal.returns-in_ok-info_declaring-in-Some
returns-in_ok-info_declaring-in-Some c =
    let members = members_view c.in-Some.members.entries in
    let found : option_and_then whole_members (read c.args.info.now) ≡ Some members =
    sym c.in_ok-members.ensures ∙ ap (λ o. option_map (λ m. members_view m.entries) o) c.in-Some.is in
    let set = set_in_members c.args.info.now c.args.allowed members found in
    let viewed = view-Object c.in_ok-info_declaring-in-Some.field-0 ∙ ap object c.in_ok-info_declaring-in-Some.ensures in
    IfOk-weaker c.to_string.result _ _ (λ s text. text (ap has_float viewed ∙ set.0) ∙ ap compact_text viewed ∙ sym set.1)
    c.to_string.ensures.text

pub returns-in-None : goal.returns-in-None
returns-in-None c =
    let none : option_and_then whole_members (read c.args.info.now) ≡ None =
    sym c.in_ok-members.ensures ∙ ap (λ o. option_map (λ m. members_view m.entries) o) c.in-None.is in
    IfOk-weaker c.from_str.result _ _ (λ s text. text ∙ sym (set_in_none c.args.info.now c.args.allowed none)) c.from_str.ensures.ok

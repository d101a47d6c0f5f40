use Rattle.std.proofs.Common.{◌≡◌, ℤ, Option, codes, string_bytes, subst, ap, ◌∙◌}
use lib.Utf8.{encode}
use Rattle.filing_model.specs.Common.Text.{Text}
use Rattle.filing_model.specs.Oim.Dimensions.{Dims}
use Rattle.filing_model.specs.Reading.Writing.{decimals_in, fact_text, raw_fact_text}
use Rattle.filing_model.specs.Reading.Writing.{text_of as text_of_value}
use Rattle.oim_fact.specs.Facts.{value_view}
use Rattle.oim_fact.specs.Texts.{text_view}
use Rattle.oim_fact.specs.declared.fact.FactValue.{FactValue}
use Rattle.oim_report.specs.Appended.{IsFrontAppended}
use Rattle.oim_report.proofs.Fronts.{on_err, front_pushed}
use Rattle.oim_report.proofs.WrittenPieces.{front_before_value, front_in_value, front_after_value}
use Rattle.oim_report.proofs.fact_text.push_fact.Goals as goal

-- the text of a fact is that of a raw fact with its decimals
is_text : (dims : Dims) (value : FactValue) (links : Option Text) (decimals : Option ℤ) → decimals ≡ decimals_in (value_view value)
    → raw_fact_text (record { dims = dims; value = text_of_value (value_view value); decimals = decimals; links = links })
    ≡ fact_text (record { dims = dims; value = value_view value; links = links })
is_text dims value links decimals is =
    ap (λ d. raw_fact_text (record { dims = dims; value = text_of_value (value_view value); decimals = d; links = links })) is

pub returns-in_err-push_before_value-clause-front : goal.returns-in_err-push_before_value-clause-front
unfolding encode
returns-in_err-push_before_value-clause-front c =
    let fact = c.fact.inside in
    let is = is_text fact.dims fact.value (text_view fact.links) c.decimals.result c.decimals.ensures ∙ ap fact_text c.fact.view_is in
    on_err c.from_residual.result
    (subst (IsFrontAppended (string_bytes c.args.out.now) (string_bytes c.push_before_value.new.out)) is
    (front_before_value fact.dims (text_of_value (value_view fact.value)) c.decimals.result (text_view fact.links)
    c.in_err-push_before_value.ensures.front))

pub returns-in_err-push_value-clause-front : goal.returns-in_err-push_value-clause-front
unfolding encode
returns-in_err-push_value-clause-front c =
    let fact = c.fact.inside in
    let is = is_text fact.dims fact.value (text_view fact.links) c.decimals.result c.decimals.ensures ∙ ap fact_text c.fact.view_is in
    on_err c.from_residual-in_err-push_value.result
    (subst (IsFrontAppended (string_bytes c.args.out.now) (string_bytes c.push_value.new.out)) is
    (front_in_value fact.dims (text_of_value (value_view fact.value)) c.decimals.result (text_view fact.links)
    c.in_ok-push_before_value.ensures.text c.in_err-push_value.ensures.front))

pub returns-clause-front : goal.returns-clause-front
unfolding encode
returns-clause-front c =
    let fact = c.fact.inside in
    let is = is_text fact.dims fact.value (text_view fact.links) c.decimals.result c.decimals.ensures ∙ ap fact_text c.fact.view_is in
    on_err c.push.result
    (subst (IsFrontAppended (string_bytes c.args.out.now) (string_bytes c.push.new.self)) is
    (front_after_value fact.dims (text_of_value (value_view fact.value)) c.decimals.result (text_view fact.links)
    c.in_ok-push_before_value.ensures.text c.in_ok-push_value.ensures.text
    (front_pushed c.push.result (codes "}") c.push.ensures.bytes)))

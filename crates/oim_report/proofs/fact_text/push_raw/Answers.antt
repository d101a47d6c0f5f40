use Rattle.std.proofs.Common.{codes, string_bytes, subst}
use lib.Utf8.{encode}
use Rattle.filing_model.specs.Reading.Writing.{raw_fact_text}
use Rattle.oim_fact.specs.Texts.{text_view}
use Rattle.oim_report.specs.Appended.{IsFrontAppended}
use Rattle.oim_report.proofs.Fronts.{on_err, front_pushed}
use Rattle.oim_report.proofs.WrittenPieces.{front_before_value, front_in_value, front_after_value}
use Rattle.oim_report.proofs.fact_text.push_raw.Goals as goal

pub returns-in_err-push_before_value-clause-front : goal.returns-in_err-push_before_value-clause-front
unfolding encode
returns-in_err-push_before_value-clause-front c =
    let raw = c.raw.inside in
    on_err c.from_residual.result
    (subst (λ raw. IsFrontAppended (string_bytes c.args.out.now) (string_bytes c.push_before_value.new.out) (raw_fact_text raw)) c.raw.view_is
    (front_before_value raw.dims (text_view raw.value) raw.decimals (text_view raw.links) c.in_err-push_before_value.ensures.front))

pub returns-in_err-push_nullable-clause-front : goal.returns-in_err-push_nullable-clause-front
unfolding encode
returns-in_err-push_nullable-clause-front c =
    let raw = c.raw.inside in
    on_err c.from_residual-in_err-push_nullable.result
    (subst (λ raw. IsFrontAppended (string_bytes c.args.out.now) (string_bytes c.push_nullable.new.out) (raw_fact_text raw)) c.raw.view_is
    (front_in_value raw.dims (text_view raw.value) raw.decimals (text_view raw.links) c.in_ok-push_before_value.ensures.text
    c.in_err-push_nullable.ensures.front))

pub returns-clause-front : goal.returns-clause-front
unfolding encode
returns-clause-front c =
    let raw = c.raw.inside in
    on_err c.push.result
    (subst (λ raw. IsFrontAppended (string_bytes c.args.out.now) (string_bytes c.push.new.self) (raw_fact_text raw)) c.raw.view_is
    (front_after_value raw.dims (text_view raw.value) raw.decimals (text_view raw.links)
    c.in_ok-push_before_value.ensures.text c.in_ok-push_nullable.ensures.text
    (front_pushed c.push.result (codes "}") c.push.ensures.bytes)))

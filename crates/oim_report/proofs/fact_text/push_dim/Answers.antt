use Rattle.std.proofs.Common.{◌∷◌, codes, string_bytes}
use lib.Utf8.{encode}
use Rattle.json.specs.Print.{quoted}
use Rattle.filing_model.specs.Reading.Writing.{nullable_text}
use Rattle.oim_fact.specs.Texts.{text_view}
use Rattle.oim_report.specs.Appended.{IsFrontAppended}
use Rattle.oim_report.proofs.Fronts.{on_err, on_err_too, front_before, front_behind}
use Rattle.oim_report.proofs.fact_text.push_dim.Goals as goal

pub returns-in_err-push_quoted-clause-front : goal.returns-in_err-push_quoted-clause-front
unfolding encode
returns-in_err-push_quoted-clause-front c =
    on_err c.from_residual.result
    (front_before (58 ∷ nullable_text (text_view c.args.value.now)) c.in_err-push_quoted.ensures.front)

pub returns-clause-front : goal.returns-clause-front
unfolding encode
returns-clause-front c =
    on_err_too c.push_nullable.result
    (λ (value : IsFrontAppended (string_bytes c.push.new.self) (string_bytes c.push_nullable.new.out)
    (nullable_text (text_view c.args.value.now))).
    front_behind (quoted c.args.name.now) c.in_ok-push_quoted.ensures.text
    (front_behind (codes ":") c.in_ok-push.ensures.bytes value))
    c.push_nullable.ensures.front

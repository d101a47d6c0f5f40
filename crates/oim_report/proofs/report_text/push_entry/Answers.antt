use Rattle.std.proofs.Common.{◌∷◌, codes, string_bytes}
use lib.Utf8.{encode}
use Rattle.json.specs.Print.{quoted}
use Rattle.filing_model.specs.Reading.Writing.{fact_text}
use Rattle.oim_report.specs.Appended.{IsFrontAppended}
use Rattle.oim_report.proofs.Fronts.{on_err, on_err_too, front_before, front_behind}
use Rattle.oim_report.proofs.report_text.push_entry.Goals as goal

pub returns-in_err-push_quoted-clause-front : goal.returns-in_err-push_quoted-clause-front
unfolding encode
returns-in_err-push_quoted-clause-front c = on_err c.from_residual.result
    (front_before (58 ∷ fact_text c.args.fact.now) c.in_err-push_quoted.ensures.front)

pub returns-clause-front : goal.returns-clause-front
unfolding encode
returns-clause-front c =
    on_err_too c.push_fact.result
    (λ (fact : IsFrontAppended (string_bytes c.push.new.self) (string_bytes c.push_fact.new.out)
    (fact_text c.args.fact.now)).
    front_behind (quoted c.args.id.now) c.in_ok-push_quoted.ensures.text
    (front_behind (codes ":") c.in_ok-push.ensures.bytes fact))
    c.push_fact.ensures.front

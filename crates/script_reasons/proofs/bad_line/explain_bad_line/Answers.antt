use Rattle.filing_model.proofs.Reading.JsonTexts.{json_of-None}
use Rattle.script_reasons.proofs.bad_line.explain_bad_line.Goals as goal

-- what is not UTF-8 is no JSON
pub returns-in_ok-reason_of_no_utf8-in-Err : goal.returns-in_ok-reason_of_no_utf8-in-Err
returns-in_ok-reason_of_no_utf8-in-Err c = record {
  within = c.column_of.ensures;
  no_json = json_of-None c.args.line.now (λ u. absurd (c.in-Err.ensures.cases.0 u));
}

use Rattle.std.proofs.Common.{◌++◌, ◌∙◌, ap, sym, string_bytes}
use Rattle.std.specs.List.{flat_map}
use Rattle.std.proofs.lemmas.Result.{on_ok_weaker}
use Rattle.filing_model.specs.Common.TextMap.{keys}
use Rattle.filing_version.specs.StampedReports.{repository_in}
use Rattle.version_differences.specs.Differences.{declared_lines, lines_at_id}
use Rattle.version_differences.specs.LineText.{lines_text}
use Rattle.version_differences.proofs.Covered.{told_of_both}
use Rattle.version_differences.proofs.PushedLines.{written_both}
use Rattle.version_differences.proofs.report_lines.push_report_lines.Goals as goal

pub returns-in_ok-push_declared-in-Some-Some : goal.returns-in_ok-push_declared-in-Some-Some
returns-in_ok-push_declared-in-Some-Some c = λ cover.
    let from = repository_in c.args.from.now in
    let to = repository_in c.args.to.now in
    let name = c.args.name.now in
    let before = c.in-Some-Some.before in
    let after = c.in-Some-Some.after in
    on_ok_weaker c.push_lines_at_ids.result
    (λ told. written_both _ _ _ (declared_lines name before after) (flat_map (lines_at_id from to name) (keys c.args.ids.now))
    c.in_ok-push_declared-in-Some-Some.ensures told
    ∙ ap (λ lines. string_bytes c.args.out.now ++ lines_text lines)
    (told_of_both from to name c.args.ids.now before after (sym c.allowed.ensures ∙ c.in-Some-Some.is-0) (sym c.allowed-2.ensures ∙ c.in-Some-Some.is-1) cover))
    c.push_lines_at_ids.ensures

use Rattle.std.proofs.lemmas.Str.{IsUtf8-string_bytes}
use Rattle.filing.proofs.LoadedReports.{line_means, on_ok_of}
use Rattle.filing.proofs.commands.load.push_report.Goals as goal

pub returns-clause-means : goal.returns-clause-means
returns-clause-means c =
    let report = c.args.report.now in
    on_ok_of c.push_str.result _ (line_means _ _ (IsUtf8-string_bytes report.name) (IsUtf8-string_bytes report.text))

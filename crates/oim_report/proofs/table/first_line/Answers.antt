use Rattle.std.proofs.Common.{◌∙◌, sym, ◌∷◌, Some, None, arith}
use Rattle.std.specs.List.{slice_split}
use Rattle.std.specs.Char.{is_newline}
use Rattle.std.proofs.lemmas.List.Splits.{slice_split_first}
use Rattle.std.proofs.lemmas.Str.Pattern.{split_once_first}
use Rattle.oim_report.proofs.TableLines.{uncut}
use Rattle.oim_report.proofs.table.first_line.Goals as goal

pub returns-in-Some-clause-split : goal.returns-in-Some-clause-split
returns-in-Some-clause-split c =
    let found = split_once_first 10 c.args.text.now (Some (c.in-Some.line, c.in-Some.rest)) c.in-Some.ensures.cases (omega arith) in
    slice_split_first is_newline c.args.text.now 0 found.0 ∙ (λ i. sym found.1 i ∷ slice_split is_newline (sym found.2 i))

pub returns-in-None-clause-split : goal.returns-in-None-clause-split
returns-in-None-clause-split c = uncut is_newline c.args.text.now (split_once_first 10 c.args.text.now None c.in-None.ensures.cases (omega arith))

use Rattle.std.proofs.Common.{Some, None, arith, rules}
use Rattle.std.proofs.lemmas.Str.Pattern.{split_once_first, split_parts}
use Rattle.oim_report.proofs.TableLines.{row_found}
use Rattle.oim_report.proofs.table.parts.Goals as goal

pub returns : goal.returns
returns c =
    let found = split_once_first 32 c.args.line.now (Some (c.in_ok-uri.uri, c.in_ok-uri.local)) c.in_ok-uri.ensures.cases (omega arith) in
    row_found c.args.line.now c.in_ok-uri.uri.now c.in_ok-uri.local.now found.1 found.2 (search rules) (search rules)
    (split_parts 32 c.in_ok-uri.local.now None c.if-contains.ensures.cases (omega arith))

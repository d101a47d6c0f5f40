use Rattle.std.proofs.Common.{None, arith}
use Rattle.std.proofs.lemmas.Str.Pattern.{strip_suffix_char}
use Rattle.oim_report.proofs.TableLines.{not_returned}
use Rattle.oim_report.proofs.table.without_return.Goals as goal

pub returns-in-None : goal.returns-in-None
returns-in-None c = not_returned c.args.line.now (strip_suffix_char 13 c.args.line.now None c.in-None.ensures.cases (omega arith))

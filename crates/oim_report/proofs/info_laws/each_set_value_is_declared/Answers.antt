use Rattle.filing_model.specs.Reading.DeclaredValue.{with_allowed}
use Rattle.oim_report.proofs.SetInfos.{info_set, info_read}
use Rattle.oim_report.proofs.info_laws.each_set_value_is_declared.Goals as goal

pub returns : goal.returns
returns c = λ info prefixes before set is. info_read (with_allowed info set) prefixes set (info_set info prefixes before set is)

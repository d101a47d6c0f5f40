use Rattle.oim_report.proofs.SetInfos.{info_set}
use Rattle.oim_report.proofs.info_laws.each_set_info_is_an_info.Goals as goal

pub returns : goal.returns
returns c = info_set

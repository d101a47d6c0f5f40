use Rattle.oim_report.proofs.SetInfos.{set_back}
use Rattle.oim_report.proofs.info_laws.each_set_report_is_read_back.Goals as goal

pub returns : goal.returns
returns c = set_back

use Rattle.std.proofs.Common.{refl}
use Rattle.serde_json.specs.Written.{compact_text}
use Rattle.filing_model.proofs.Reading.WrittenValues.{Reads-writable}
use Rattle.oim_report.proofs.ReadBackValues.{read_back}
use Rattle.oim_report.proofs.read_back.values_are_read_back.Goals as goal

pub returns : goal.returns
returns c = λ d h nests. read_back d (compact_text d) (Reads-writable d h) refl nests

-- The faults of a report that code may answer, as those of the definitions.
use Rattle.std.specs.Prelude.{Option, None, Some, string_bytes}
use Rattle.filing_model.specs.Reading.ReadReport as model
use Rattle.oim_report.specs.declared.fault.ReportFault.{ReportFault}
use Rattle.oim_report.specs.declared.fault.ReportFault.TheVariants.{NotJson, WrongShape, WrongDocumentType, BadPolicy, AliasTwice, NotWhole, BadFact, NoMemory}

-- the fault, or none where memory is wanted
abbrev pub report_fault : ReportFault → Option model.ReportFault
report_fault NotJson = Some model.NotJson
report_fault WrongShape = Some model.WrongShape
report_fault WrongDocumentType = Some model.WrongDocumentType
report_fault BadPolicy = Some model.BadPolicy
report_fault AliasTwice = Some model.AliasTwice
report_fault NotWhole = Some model.NotWhole
report_fault (BadFact id trouble) = Some (model.BadFact (string_bytes id) trouble)
report_fault NoMemory = None

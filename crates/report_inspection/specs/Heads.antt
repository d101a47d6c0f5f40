-- What a report says of itself, whatever is wrong with it.
use Rattle.std.specs.Prelude.{◌≡◌, [], ◌++◌, Option, option_and_then, unwrap_or}
use Rattle.std.specs.Option.{option_map_or}
use Rattle.serde_json.specs.Data.{Data}
use Rattle.filing_model.specs.Oim.Facts.{Table}
use Rattle.filing_model.specs.Reading.JsonText.{an_object}
use Rattle.filing_model.specs.declared.duplicates.Allowed.TheVariants.{All}
use Rattle.oim_report.specs.Readings.{declared_names, document_info_at}
use Rattle.report_inspection.specs.EachFault.{allowed_declared, fault_in, info_faults, value_in}
use Rattle.report_inspection.specs.Inspections.{AreFaults}
use Rattle.report_inspection.specs.declared.info.Head.{Head}

-- of the member `documentInfo`, by this numeric table: its faults, the names that it binds, and the declared value
pub record IsHead (table : Table) (info : Option Data) (head : Head) : Type 0 where
  pub faults : AreFaults (fault_in (document_info_at info)
      ++ option_map_or (info_faults table) (option_and_then an_object info) []) head.faults.items
  pub names : head.names
      ≡ option_and_then (λ info. value_in (declared_names table info)) (option_and_then an_object info)
  pub allowed : head.allowed
      ≡ unwrap_or (option_and_then (λ info. value_in (allowed_declared info)) (option_and_then an_object info)) All

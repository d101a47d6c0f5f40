-- That each script is serial. The project's own.
use Rattle.std.specs.Prelude.{List}
use Rattle.filing_model.specs.Common.Text.{Text}
use Rattle.filing_model.specs.Oim.Facts.{Table}
use Rattle.filing_model.specs.Histories.History.{History}
use Rattle.filing_model.specs.Histories.Lawful.{IsLawful}
use Rattle.filing_laws.specs.Serial.WholeRuns.{IsSerial}
use Rattle.filing_core.specs.Engines.{EngineState, IsEngineOf}
use Rattle.script_runs.specs.Resumed.{history_on}

-- what a script makes of a lawful history is lawful and serial
pub record IsSerialOn (table : Table) (h : History) (lines : List Text) : Type 0 where
  pub lawful : IsLawful (history_on table h lines)
  pub serial : IsSerial (history_on table h lines)

abbrev pub EachScriptIsSerial : Type 0
EachScriptIsSerial = (table : Table) (h : History) (lines : List Text) → IsLawful h → IsSerialOn table h lines

-- whatever script goes on from a history that the engine is that of
abbrev pub GoesOnSerially : Table → EngineState → Type 0
GoesOnSerially table e = (h : History) → IsEngineOf h e → (lines : List Text) → IsSerialOn table h lines

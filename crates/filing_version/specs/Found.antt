-- What a version finds, as code hands it out. The project's own.
use Rattle.std.specs.Prelude.{Option, Some, None}
use Rattle.std.specs.Arc.{arc_value}
use Rattle.filing_model.specs.Oim.Facts.{Fact}
use Rattle.filing_version.specs.declared.version.Got.{Got}
use Rattle.filing_version.specs.declared.version.Got.TheVariants.{NoReport, Absent, Found}

-- no report; in a report no fact; a fact
abbrev pub got_of : Got → Option (Option Fact)
got_of NoReport = None
got_of Absent = Some None
got_of (Found fact) = Some (Some (arc_value fact.now))

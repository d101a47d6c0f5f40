-- The names of a report, and the columns of its prefixes.
use Rattle.std.specs.Prelude.{List, map, Result}
use Rattle.std.specs.Result.{result_map_both}
use Rattle.filing_model.specs.Common.Text.{Text}
use Rattle.filing_model.specs.Oim.Prefixes.{prefixes_of}
use Rattle.filing_model.specs.Oim.Facts.{Names, Table}
use Rattle.filing_model.specs.declared.faults.NamesFault.{NamesFault}
use Rattle.oim_fact.specs.declared.names.Column.{Column}
use Rattle.oim_fact.specs.declared.names.Column.TheVariants.{Prefix, Uri}

-- the names of prefixes with their URIs, or the first fault
abbrev pub names_of : List (Text × Text) → Table → Result Names NamesFault
names_of bound table =
    result_map_both (λ prefixes. record { prefixes = prefixes; table = table }) (λ fault. fault) (prefixes_of bound)

abbrev pub text_in : Column → Text × Text → Text
text_in Prefix row = row.0
text_in Uri row = row.1

abbrev pub column : Column → List (Text × Text) → List Text
column c rows = map (text_in c) rows

-- A report's info in which a declared value was set is a report's info again.
use Rattle.std.specs.Prelude.{◌≡◌, Some, Ok, codes}
use Rattle.serde_json.specs.Data.{Data}
use Rattle.serde_json.specs.Find.{get}
use Rattle.serde_json.specs.Read.{read, max_depth}
use Rattle.filing_model.specs.Common.Text.{Text}
use Rattle.filing_model.specs.Common.TextMap.{TextMap}
use Rattle.filing_model.specs.Oim.Reports.{Report}
use Rattle.filing_model.specs.Reading.ReadReport.{allowed_of_features, prefixes_of_namespaces, read_report_of}
use Rattle.filing_model.specs.Reading.Writing.{report_text}
use Rattle.filing_model.specs.Reading.DeclaredValue.{with_allowed, report_declaring}
use Rattle.filing_model.specs.declared.duplicates.Allowed.{Allowed}
use Rattle.oim_report.specs.Nesting.{NestsWithin}
use Rattle.oim_report.specs.Parts.{IsInfo}
use Rattle.oim_report.specs.Readable.{IsReadable}

-- what is read of the info that is made declares the value that was set, and binds the same prefixes
abbrev pub EachSetValueIsDeclared : Type 0
EachSetValueIsDeclared = (info : Text) (prefixes : TextMap Text) (before set : Allowed) → IsInfo info prefixes before
    → (d : Data) × (read (with_allowed info set) ≡ Some d)
    × (allowed_of_features (get (codes "features") d) ≡ Ok set)
    × (prefixes_of_namespaces (get (codes "namespaces") d) ≡ Ok prefixes)

-- it is the info of the same prefixes and of the value that was set
abbrev pub EachSetInfoIsAnInfo : Type 0
EachSetInfoIsAnInfo = (info : Text) (prefixes : TextMap Text) (before set : Allowed) → IsInfo info prefixes before
    → IsInfo (with_allowed info set) prefixes set

-- where a report can be read back from its text, so can the report with a value set: nothing is asked of its own text
abbrev pub EachSetReportIsReadBack : Type 0
EachSetReportIsReadBack = (report : Report) (set : Allowed) → IsReadable report
    → NestsWithin max_depth (report_text report)
    → read_report_of report.names.table (report_text (report_declaring report set))
    ≡ Ok (report_declaring report set)

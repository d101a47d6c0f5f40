-- The line of each reply, without the LF that ends it: one compact JSON array. The project's own.
use Rattle.std.specs.Prelude.{Bool, true, false, List, [], ◌++◌, Option, None, Some, codes, decimal}
use Rattle.json.specs.Print.{quoted}
use Rattle.filing_model.specs.Common.Text.{Text}
use Rattle.filing_model.specs.Oim.Reports.{Report}
use Rattle.filing_model.specs.Reading.ReadReport as report
use Rattle.filing_model.specs.Reading.ReadReport.{allowed_word}
use Rattle.filing_model.specs.Sessions.Calls.{PeriodFilter, Any, Without, Exactly}
use Rattle.filing_model.specs.Sessions.Things as thing
use Rattle.filing_model.specs.Sessions.Replies.{Reply, NoReport, Absent, Found, Cell, Page, ReadOnly, Taken, BadFact, Staged, Declared, Loaded, NameTaken, Disallowed, Opened, Closed, Committed, Conflict}
use Rattle.filing_model.specs.Reading.Writing.{listed, nullable_text, dims_text, fact_text, report_text}
use Rattle.filing_model.specs.declared.duplicates.Class.{Class}
use Rattle.filing_model.specs.declared.duplicates.Class.TheVariants as class
use Rattle.filing_model.specs.declared.faults.DimFault.{DimFault}
use Rattle.filing_model.specs.declared.faults.DimFault.TheVariants as dim
use Rattle.filing_model.specs.declared.faults.FactFault.{FactFault}
use Rattle.filing_model.specs.declared.faults.FactFault.TheVariants as fact
use Rattle.filing_model.specs.declared.faults.Trouble.{Trouble}
use Rattle.filing_model.specs.declared.faults.Trouble.TheVariants as trouble

-- ---- words, of which none has a character to escape

abbrev pub class_word : Class → Text
class_word class.Empty = codes "empty"
class_word class.Single = codes "single"
class_word class.Complete = codes "complete"
class_word class.Consistent = codes "consistent"
class_word class.Inconsistent = codes "inconsistent"
class_word class.Mixed = codes "mixed"

abbrev pub fact_fault_word : FactFault → Text
fact_fault_word fact.UnboundPrefix = codes "unbound-prefix"
fact_fault_word fact.Misplaced = codes "misplaced"
fact_fault_word fact.NotANumber = codes "not-a-number"
fact_fault_word fact.TooLarge = codes "too-large"
fact_fault_word fact.DecimalsOutOfRange = codes "decimals-out-of-range"

-- want of memory has no word, since no reply tells of it
abbrev pub dim_fault_word : DimFault → Text
dim_fault_word dim.NameTwice = codes "name-twice"
dim_fault_word dim.NullCore = codes "null-core"
dim_fault_word dim.NoConcept = codes "no-concept"
dim_fault_word dim.TooLong = codes "too-long"
dim_fault_word dim.NoMemory = []

-- the fault, or none where memory is wanted: no reply tells of that
abbrev pub told_fault : Trouble → Option Trouble
told_fault trouble.NoMemory = None
told_fault (trouble.Dims dim.NoMemory) = None
told_fault fault = Some fault

-- the word of the fault in it. Want of memory has none
abbrev pub trouble_word : Trouble → Text
trouble_word trouble.WrongShape = codes "wrong-shape"
trouble_word trouble.NotWhole = codes "not-whole"
trouble_word (trouble.Dims fault) = dim_fault_word fault
trouble_word (trouble.Fit fault) = fact_fault_word fault
trouble_word trouble.NoMemory = []

-- a word as a JSON text
abbrev pub word_text : Text → Text
word_text word = codes "\"" ++ (word ++ codes "\"")

-- ---- parts

abbrev pub bool_text : Bool → Text
bool_text true = codes "true"
bool_text false = codes "false"

-- an array of texts, as of identifiers
abbrev pub texts_text : List Text → Text
texts_text texts = codes "[" ++ (listed false quoted texts ++ codes "]")

-- true where any period was asked for, null where none
abbrev pub asked_text : PeriodFilter → Text
asked_text Any = codes "true"
asked_text Without = codes "null"
asked_text (Exactly period) = quoted period

abbrev pub thing_text : thing.Thing → Text
thing_text (thing.Report name) = codes "[\"report\"," ++ (quoted name ++ codes "]")
thing_text (thing.Id name id) = codes "[\"id\"," ++ (quoted name ++ (codes "," ++ (quoted id ++ codes "]")))
thing_text (thing.Cell name dims) = codes "[\"cell\"," ++ (quoted name ++ (codes "," ++ (dims_text dims ++ codes "]")))
thing_text (thing.Range name query upto) =
    codes "[\"range\"," ++ (quoted name ++ (codes ","
    ++ (quoted query.concept ++ (codes "," ++ (asked_text query.period
    ++ (codes "," ++ (nullable_text query.after ++ (codes "," ++ (nullable_text upto ++ codes "]")))))))))
thing_text (thing.Policy name) = codes "[\"policy\"," ++ (quoted name ++ codes "]")

-- ---- replies

-- a fact or dimensions that are refused, in reading or by the names of the report
abbrev pub bad_fact_text : Trouble → Text
bad_fact_text fault = codes "[\"bad-fact\"," ++ (word_text (trouble_word fault) ++ codes "]")

abbrev pub reply_text : Reply → Text
reply_text (Loaded number) = codes "[\"loaded\"," ++ (decimal number ++ codes "]")
reply_text NameTaken = codes "[\"name-taken\"]"
reply_text Opened = codes "[\"opened\"]"
reply_text Closed = codes "[\"closed\"]"
reply_text (Found fact) = codes "[\"fact\"," ++ (fact_text fact ++ codes "]")
reply_text Absent = codes "[\"none\"]"
reply_text NoReport = codes "[\"no-report\"]"
reply_text (Cell class ids) = codes "[\"cell\","
    ++ (word_text (class_word class) ++ (codes "," ++ (texts_text ids ++ codes "]")))
reply_text (Page ids more) = codes "[\"page\"," ++ (texts_text ids ++ (codes "," ++ (bool_text more ++ codes "]")))
reply_text Staged = codes "[\"staged\"]"
reply_text (Declared value) = codes "[\"declared\"," ++ (word_text (allowed_word value) ++ codes "]")
reply_text Taken = codes "[\"taken\"]"
reply_text ReadOnly = codes "[\"read-only\"]"
reply_text (BadFact fault) = bad_fact_text (trouble.Fit fault)
reply_text (Committed number) = codes "[\"committed\"," ++ (decimal number ++ codes "]")
reply_text (Conflict number thing) = codes "[\"conflict\","
    ++ (decimal number ++ (codes "," ++ (thing_text thing ++ codes "]")))
reply_text (Disallowed name class ids) =
    codes "[\"disallowed\"," ++ (quoted name
    ++ (codes "," ++ (word_text (class_word class)
    ++ (codes "," ++ (texts_text ids ++ codes "]")))))

-- ---- replies to lines that take no step

-- what is no line of a script
abbrev pub bad_line_text : Text
bad_line_text = codes "[\"bad-line\"]"

-- an opening under a name that is in use
abbrev pub name_in_use_text : Text
name_in_use_text = codes "[\"name-in-use\"]"

-- a line of a session under a name that is not in use
abbrev pub no_session_text : Text
no_session_text = codes "[\"no-session\"]"

-- a report that is refused in reading
abbrev pub bad_report_text : report.ReportFault → Text
bad_report_text report.NotJson = codes "[\"bad-report\",\"not-json\"]"
bad_report_text report.WrongShape = codes "[\"bad-report\",\"wrong-shape\"]"
bad_report_text report.WrongDocumentType = codes "[\"bad-report\",\"wrong-document-type\"]"
bad_report_text report.BadPolicy = codes "[\"bad-report\",\"bad-policy\"]"
bad_report_text report.AliasTwice = codes "[\"bad-report\",\"alias-twice\"]"
bad_report_text report.NotWhole = codes "[\"bad-report\",\"not-whole\"]"
bad_report_text (report.BadFact id fault) =
    codes "[\"bad-report\",\"bad-fact\"," ++ (quoted id ++ (codes "," ++ (word_text (trouble_word fault) ++ codes "]")))

-- a report that was asked for
abbrev pub exported_text : Report → Text
exported_text r = codes "[\"report\"," ++ (report_text r ++ codes "]")

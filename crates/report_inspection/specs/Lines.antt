-- The lines of an inspection, each one compact JSON array that LF ends. The project's own.
use Rattle.std.specs.Prelude.{ℕ, List, [], ◌∷◌, ◌++◌, ◌==◌, not, map, Option, None, Some, option_map, if◌then◌else◌, codes, decimal, string_bytes, vec_len}
use Rattle.std.specs.List.{count_by, flat_map}
use Rattle.std.specs.Option.{option_map_or}
use Rattle.json.specs.Print.{quoted}
use Rattle.filing_model.specs.Common.Text.{Text}
use Rattle.filing_model.specs.Reading.ReadReport as report
use Rattle.filing_model.specs.Reading.Writing.{dims_text, nullable_text}
use Rattle.script_format.specs.ReplyText.{bool_text, class_word, texts_text, trouble_word, word_text}
use Rattle.report_inspection.specs.Cells.{ToldCell}
use Rattle.report_inspection.specs.Inspections.{reading_fault}
use Rattle.report_inspection.specs.declared.fault.Fault.{Fault}
use Rattle.report_inspection.specs.declared.inspection.Inspection.{Inspection}
use Rattle.report_inspection.specs.declared.warning.Warning.{Warning}
use Rattle.report_inspection.specs.declared.warning.WarningKind.{WarningKind}
use Rattle.report_inspection.specs.declared.warning.WarningKind.TheVariants as kind

-- the word for a fault that the reply to a load has: of a refused fact that of its trouble
abbrev pub fault_word : report.ReportFault → Text
fault_word report.NotJson = codes "not-json"
fault_word report.WrongShape = codes "wrong-shape"
fault_word report.WrongDocumentType = codes "wrong-document-type"
fault_word report.BadPolicy = codes "bad-policy"
fault_word report.AliasTwice = codes "alias-twice"
fault_word report.NotWhole = codes "not-whole"
fault_word (report.BadFact id trouble) = trouble_word trouble

-- the identifier of a refused fact; none where the fault is of the report
abbrev pub fault_id : report.ReportFault → Option Text
fault_id (report.BadFact id trouble) = Some id
fault_id fault = None

-- what each line begins with: its word and the name of the file
abbrev pub head_text : Text → Text → Text
head_text word file = codes "[\"" ++ (word ++ (codes "\"," ++ quoted file))

-- `["fault",file,id or null`
abbrev pub fault_head : Text → Option Text → Text
fault_head file id = head_text (codes "fault") file ++ (codes "," ++ nullable_text id)

-- `,word,reason]`
abbrev pub fault_end : Text → Text → Text
fault_end word reason = codes "," ++ (word_text word ++ (codes "," ++ (quoted reason ++ codes "]\n")))

-- `["fault",file,id or null,word,reason]`
abbrev pub reason_line : Text → Option Text → Text → Text → Text
reason_line file id word reason = fault_head file id ++ fault_end word reason

-- how much more is wrong, where it is
abbrev pub more_reason : ℕ → List Text
more_reason more = if more == 0 then [] else (codes "and " ++ (decimal more ++ codes " more")) ∷ []

-- the reasons of a fault
abbrev pub reasons_of : Fault → List Text
reasons_of f = map string_bytes f.reasons.items ++ more_reason f.more

-- a line for each. Want of memory is no fault
abbrev pub fault_lines : Text → Fault → Text
fault_lines file f =
    option_map_or (λ fault. flat_map (reason_line file (fault_id fault) (fault_word fault)) (reasons_of f))
    (reading_fault f) []

-- `["cell",file,class,dims`
abbrev pub cell_head : Text → ToldCell → Text
cell_head file cell = head_text (codes "cell") file
    ++ (codes "," ++ (word_text (class_word cell.class) ++ (codes "," ++ dims_text cell.dims)))

-- `,[id,..],allowed]`
abbrev pub cell_end : ToldCell → Text
cell_end cell = codes "," ++ (texts_text cell.ids ++ (codes "," ++ (bool_text cell.allowed ++ codes "]\n")))

-- `["cell",file,class,dims,[id,..],allowed]`
abbrev pub cell_line : Text → ToldCell → Text
cell_line file cell = cell_head file cell ++ cell_end cell

abbrev pub kind_word : WarningKind → Text
kind_word kind.NameTwice = codes "name-twice"
kind_word kind.NotRead = codes "not-read"
kind_word kind.DecimalsBesideNull = codes "decimals-beside-null"
kind_word kind.NotInTable = codes "not-in-table"
kind_word kind.OtherNamespace = codes "other-namespace"

-- `["warning",file,kind`
abbrev pub warning_head : Text → Text → Text
warning_head file word = head_text (codes "warning") file ++ (codes "," ++ word_text word)

-- `,id or null,name]`
abbrev pub warning_end : Option Text → Text → Text
warning_end id name = codes "," ++ (nullable_text id ++ (codes "," ++ (quoted name ++ codes "]\n")))

-- `["warning",file,kind,id or null,name]`
abbrev pub warning_line : Text → Warning → Text
warning_line file w =
    warning_head file (kind_word w.kind) ++ warning_end (option_map string_bytes w.fact) (string_bytes w.name)

abbrev pub count_disallowed : List ToldCell → ℕ
count_disallowed cells = count_by (λ cell. not cell.allowed) cells

-- a comma and a count
abbrev pub count_text : ℕ → Text
count_text n = codes "," ++ decimal n

-- `["inspected",file,facts,cells,faults,disallowed,warnings]`
abbrev pub summary_line : Text → Inspection → Text
summary_line file i = (head_text (codes "inspected") file ++ (count_text i.facts ++ count_text (vec_len i.cells)))
    ++ (count_text (vec_len i.faults)
    ++ (count_text (count_disallowed i.cells.items) ++ (count_text (vec_len i.warnings) ++ codes "]\n")))

-- all lines of an inspection: faults, cells, warnings, and how many there are
abbrev pub inspection_text : Text → Inspection → Text
inspection_text file i = flat_map (fault_lines file) i.faults.items
    ++ (flat_map (cell_line file) i.cells.items
    ++ (flat_map (warning_line file) i.warnings.items ++ summary_line file i))

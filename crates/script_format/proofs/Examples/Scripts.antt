-- Worked examples of scripts: what each line is answered. More stand as sheets of `conformance`.
use Rattle.std.specs.Prelude.{◌≡◌, List, [], ◌∷◌, codes, length, refl}
use Rattle.filing_model.specs.Common.Text.{Text}
use Rattle.line_io.specs.Lines.{whole_lines, last_part, lines_of, spoken, lines_text}
use Rattle.line_io.specs.Run.{replies_by}
use Rattle.script_format.specs.ScriptLines.{line_of}
use Rattle.script_format.specs.Script.{start, line_answer, script_output, script_history}
use Rattle.filing_model.specs.Oim.Facts.{Table}
use Rattle.filing_model.proofs.OnLiterals.{filing_on_literals}

-- one concept is numeric
abbrev table : Table
table = (codes "http://e.org/t", codes "Assets") ∷ []

-- the lines with their replies
abbrev told : List Text → List Text
told lines = replies_by line_answer (start table) lines

-- blank lines are passed over, and the last line need not be ended
pub blank_lines : script_output table (codes "\n \t\r\n[]") ≡ codes "[\"bad-line\"]\n"
unfolding script_output whole_lines last_part lines_of spoken lines_text line_answer line_of filing_on_literals
blank_lines = refl

-- each reply is ended, and the last is too
pub two_lines : script_output table (codes "[]\r\n[\"close\",\"s1\"]") ≡ codes "[\"bad-line\"]\n[\"no-session\"]\n"
unfolding script_output whole_lines last_part lines_of spoken lines_text line_answer line_of filing_on_literals
two_lines = refl

-- the report r1, which has no facts and binds the prefix ex
abbrev load_r1 : Text
load_r1 = codes "[\"load\",\"r1\",{\"documentInfo\":{\"documentType\":\"https://xbrl.org/2021/xbrl-json\",\"namespaces\":{\"ex\":\"http://e.org/t\"}}}]"

abbrev open_s1 : Text
open_s1 = codes "[\"open\",\"s1\",\"amend\"]"

-- one session adds a fact, and the next reads it
pub stored_run : told (load_r1
    ∷ open_s1
    ∷ codes "[\"get\",\"s1\",\"r1\",\"f1\"]"
    ∷ codes "[\"add\",\"s1\",\"r1\",\"f1\",{\"value\":\"Acme\",\"dimensions\":{\"concept\":\"ex:Name\"}}]"
    ∷ codes "[\"get\",\"s1\",\"r1\",\"f1\"]"
    ∷ codes "[\"commit\",\"s1\"]"
    ∷ codes "[\"open\",\"s2\",\"amend\"]"
    ∷ codes "[\"get\",\"s2\",\"r1\",\"f1\"]"
    ∷ codes "[\"close\",\"s2\"]"
    ∷ [])
    ≡ codes "[\"loaded\",1]"
    ∷ codes "[\"opened\"]"
    ∷ codes "[\"none\"]"
    ∷ codes "[\"staged\"]"
    ∷ codes "[\"fact\",{\"dimensions\":{\"concept\":\"ex:Name\"},\"value\":\"Acme\"}]"
    ∷ codes "[\"committed\",2]"
    ∷ codes "[\"opened\"]"
    ∷ codes "[\"fact\",{\"dimensions\":{\"concept\":\"ex:Name\"},\"value\":\"Acme\"}]"
    ∷ codes "[\"closed\"]"
    ∷ []
unfolding line_answer line_of filing_on_literals
stored_run = refl

-- a fact that is refused is found before a name that is not in use
pub fact_first : told
    (codes "[\"add\",\"s1\",\"r1\",\"a\",{\"value\":\"1\"}]"
    ∷ codes "[\"add\",\"s1\",\"r1\",\"a\",{\"value\":\"1\",\"dimensions\":{\"concept\":\"ex:Name\"}}]" ∷ [])
    ≡ codes "[\"bad-fact\",\"wrong-shape\"]" ∷ codes "[\"no-session\"]" ∷ []
unfolding line_answer line_of filing_on_literals
fact_first = refl

-- a report may be given as its text, after one byte order mark; it is exported as it is written
pub report_as_text : told
    (codes "[\"load\",\"r1\",\"\\ufeff{\\\"documentInfo\\\":{\\\"namespaces\\\":{\\\"ex\\\":\\\"http://e.org/t\\\"},\\\"documentType\\\":\\\"https://xbrl.org/2021/xbrl-json\\\"}}\"]"
    ∷ codes "[\"export\",\"r1\"]"
    ∷ codes "[\"export\",\"r2\"]"
    ∷ [])
    ≡ codes "[\"loaded\",1]"
    ∷ codes "[\"report\",{\"documentInfo\":{\"documentType\":\"https://xbrl.org/2021/xbrl-json\",\"namespaces\":{\"ex\":\"http://e.org/t\"}},\"facts\":{}}]"
    ∷ codes "[\"no-report\"]"
    ∷ []
unfolding line_answer line_of filing_on_literals
report_as_text = refl

abbrev open_s2 : Text
open_s2 = codes "[\"open\",\"s2\",\"amend\"]"

-- each adds what the other has found not to be there: the later commit is refused
pub write_skew : told (load_r1
    ∷ open_s1
    ∷ open_s2
    ∷ codes "[\"cell\",\"s1\",\"r1\",{\"concept\":\"ex:A\"}]"
    ∷ codes "[\"cell\",\"s2\",\"r1\",{\"concept\":\"ex:B\"}]"
    ∷ codes "[\"add\",\"s1\",\"r1\",\"b\",{\"value\":\"1\",\"dimensions\":{\"concept\":\"ex:B\"}}]"
    ∷ codes "[\"add\",\"s2\",\"r1\",\"a\",{\"value\":\"1\",\"dimensions\":{\"concept\":\"ex:A\"}}]"
    ∷ codes "[\"commit\",\"s1\"]"
    ∷ codes "[\"commit\",\"s2\"]"
    ∷ [])
    ≡ codes "[\"loaded\",1]"
    ∷ codes "[\"opened\"]"
    ∷ codes "[\"opened\"]"
    ∷ codes "[\"cell\",\"empty\",[]]"
    ∷ codes "[\"cell\",\"empty\",[]]"
    ∷ codes "[\"staged\"]"
    ∷ codes "[\"staged\"]"
    ∷ codes "[\"committed\",2]"
    ∷ codes "[\"conflict\",2,[\"cell\",\"r1\",{\"concept\":\"ex:B\"}]]"
    ∷ []
unfolding line_answer line_of filing_on_literals
write_skew = refl

-- a page of nothing is touched by what would have been on it
pub phantom : told (load_r1
    ∷ open_s1
    ∷ open_s2
    ∷ codes "[\"page\",\"s1\",\"r1\",\"ex:Name\",null,null,10]"
    ∷ codes "[\"add\",\"s2\",\"r1\",\"f1\",{\"value\":\"x\",\"dimensions\":{\"concept\":\"ex:Name\"}}]"
    ∷ codes "[\"commit\",\"s2\"]"
    ∷ codes "[\"add\",\"s1\",\"r1\",\"g1\",{\"value\":\"1\",\"dimensions\":{\"concept\":\"ex:Other\"}}]"
    ∷ codes "[\"commit\",\"s1\"]"
    ∷ [])
    ≡ codes "[\"loaded\",1]"
    ∷ codes "[\"opened\"]"
    ∷ codes "[\"opened\"]"
    ∷ codes "[\"page\",[],false]"
    ∷ codes "[\"staged\"]"
    ∷ codes "[\"committed\",2]"
    ∷ codes "[\"staged\"]"
    ∷ codes "[\"conflict\",2,[\"range\",\"r1\",\"ex:Name\",null,null,null]]"
    ∷ []
unfolding line_answer line_of filing_on_literals
phantom = refl

-- a line that takes no step is in no history, an export neither
pub history_of_steps : length (script_history table
    (codes "[]\n[\"export\",\"r1\"]\n[\"open\",\"s1\",\"amend\"]\n[\"open\",\"s1\",\"amend\"]\n[\"close\",\"s1\"]")) ≡ 2
unfolding script_history whole_lines last_part lines_of spoken line_answer line_of filing_on_literals
history_of_steps = refl

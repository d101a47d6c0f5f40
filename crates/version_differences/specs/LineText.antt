-- The text of a difference: each line one compact JSON array. The project's own.
use Rattle.std.specs.Prelude.{List, ◌++◌, codes, ◌||◌, Option, Some, None, cond, is_some}
use Rattle.std.specs.List.{flat_map}
use Rattle.json.specs.Print.{quoted}
use Rattle.filing_model.specs.Common.Text.{Text}
use Rattle.filing_model.specs.Reading.ReadReport.{allowed_word}
use Rattle.filing_model.specs.Reading.Writing.{fact_text}
use Rattle.filing_model.specs.Sessions.Repository.{Repository, report_at}
use Rattle.script_format.specs.ReplyText.{word_text}
use Rattle.version_differences.specs.Differences.{Line, NewReport, NoReport, Declared, Added, Removed, Changed, difference, lines_at}

-- declared values and facts as replies have them
abbrev pub line_text : Line → Text
line_text (NewReport name) = codes "[\"report\"," ++ (quoted name ++ codes "]\n")
line_text (NoReport name) = codes "[\"no-report\"," ++ (quoted name ++ codes "]\n")
line_text (Declared name from to) =
    codes "[\"declared\"," ++ (quoted name ++ (codes "," ++ (word_text (allowed_word from)
    ++ (codes "," ++ (word_text (allowed_word to) ++ codes "]\n")))))
line_text (Added name id fact) =
    codes "[\"added\"," ++ (quoted name ++ (codes "," ++ (quoted id ++ (codes "," ++ (fact_text fact ++ codes "]\n")))))
line_text (Removed name id fact) =
    codes "[\"removed\"," ++ (quoted name
    ++ (codes "," ++ (quoted id ++ (codes "," ++ (fact_text fact ++ codes "]\n")))))
line_text (Changed name id from to) =
    codes "[\"changed\"," ++ (quoted name ++ (codes "," ++ (quoted id
    ++ (codes "," ++ (fact_text from ++ (codes "," ++ (fact_text to ++ codes "]\n")))))))

abbrev pub lines_text : List Line → Text
lines_text lines = flat_map line_text lines

-- of the report of a name, where either has that
abbrev pub report_difference_text : Text → Repository → Repository → Option Text
report_difference_text name from to =
    cond (is_some (report_at from name) || is_some (report_at to name)) (Some (lines_text (lines_at from to name))) None

-- of that report, or of all
abbrev pub difference_text : Option Text → Repository → Repository → Option Text
difference_text None from to = Some (lines_text (difference from to))
difference_text (Some name) from to = report_difference_text name from to

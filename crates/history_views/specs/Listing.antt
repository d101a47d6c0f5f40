-- The list of the reports of a version. All of it is the project's own.
use Rattle.std.specs.Prelude.{◌++◌, List, [], ◌∷◌, length, codes, decimal, Option, Some}
use Rattle.json.specs.Print.{quoted}
use Rattle.filing_model.specs.Common.Text.{Text}
use Rattle.filing_model.specs.Oim.Reports.{Report}
use Rattle.filing_model.specs.Reading.ReadReport.{allowed_word}
use Rattle.filing_model.specs.Sessions.Repository.{Repository}
use Rattle.script_format.specs.ReplyText.{word_text}

-- the line of a report: its name, how many facts it has, and the word of the duplicates that it allows
abbrev pub report_row : Text → Report → Text
report_row name r = codes "[\"report\"," ++ (quoted name ++ (codes ","
    ++ (decimal (length r.facts.entries) ++ (codes "," ++ (word_text (allowed_word r.allowed) ++ codes "]\n")))))

abbrev pub report_rows : List (Text × Report) → Text
report_rows [] = []
report_rows (e ∷ es) = report_row e.0 e.1 ++ report_rows es

-- the line of the version's number
abbrev pub head_of : Repository → Text
head_of c = codes "[\"version\"," ++ (decimal c.count ++ codes "]\n")

-- and after it those of its reports, in byte order of their names
abbrev pub listing : Repository → Text
listing c = head_of c ++ report_rows c.reports.entries

abbrev pub listing_shown : Repository → Option Text
listing_shown c = Some (listing c)

-- The lines that tell why a line was refused, each ended by LF. The project's own.
use Rattle.std.specs.Prelude.{ℕ, List, [], ◌∷◌, ◌++◌, ◌==◌, Option, None, Some, if◌then◌else◌, codes, decimal, option_map, string_bytes}
use Rattle.json.specs.Print.{quoted}
use Rattle.filing_model.specs.Common.Text.{Text}
use Rattle.script_reasons.specs.declared.reasons.Reason.{Reason}
use Rattle.script_reasons.specs.declared.reasons.Reasons.{Reasons}

-- the column at which reading stopped, where it did
abbrev pub column_text : Option ℕ → Text
column_text None = []
column_text (Some column) = codes ", column " ++ decimal column

-- the fact of which it is told, where it is of one
abbrev pub of_fact_text : Option Text → Text
of_fact_text None = []
of_fact_text (Some id) = codes ", fact " ++ quoted id

-- where a reason is: the number of its line, the column, the fact
abbrev pub place_text : ℕ → Option ℕ → Option Text → Text
place_text number column id = codes "line " ++ (decimal number ++ (column_text column ++ of_fact_text id))

-- the line of one reason
abbrev pub reason_text : ℕ → Option ℕ → Reason → Text
reason_text number column r = place_text number column (option_map string_bytes r.fact)
    ++ (codes ": " ++ (string_bytes r.said ++ codes "\n"))

-- the lines of several, in their order
abbrev pub each_reason_text : ℕ → Option ℕ → List Reason → Text
each_reason_text number column [] = []
each_reason_text number column (r ∷ rs) = reason_text number column r ++ each_reason_text number column rs

-- how many more there are, where there are
abbrev pub more_text : ℕ → ℕ → Text
more_text number more =
    if more == 0 then []
    else codes "line " ++ (decimal number ++ (codes ": and " ++ (decimal more ++ codes " more\n")))

-- all that is told of one line
abbrev pub reasons_text : Reasons → Text
reasons_text r = each_reason_text r.number r.column r.reasons.items ++ more_text r.number r.more

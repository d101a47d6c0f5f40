-- What is told of one fact from version to version of a history. All of it is the project's own.
use Rattle.std.specs.Prelude.{◌≡◌, ℕ, ◌++◌, cond, not, Bool, true, false, List, [], ◌∷◌, length, Option, Some, None, codes, decimal, string_bytes}
use Rattle.std.specs.Arc.{arc_value}
use Rattle.filing_model.specs.Common.Text.{Text}
use Rattle.filing_model.specs.Oim.Facts.{Fact}
use Rattle.filing_model.specs.Reading.Writing.{fact_text}
use Rattle.filing_model.specs.Sessions.Repository.{Repository, fact_at}
use Rattle.filing_model.specs.Histories.History.{Entry, History, repository}
use Rattle.filing_laws.specs.Histories.SameReplies.{fact_eq}
use Rattle.filing_version.specs.StampedReports.{repository_in}
use Rattle.history_format.specs.EntryText.{session_text}
use Rattle.history_views.specs.Batches.{Batches, name_told, time_at}
use Rattle.history_views.specs.Log.{text_or_null}
use Rattle.history_views.specs.declared.fact_log.FactLog.{FactLog}

-- whether it is new, is no longer there, or is another
abbrev pub is_other : Option Fact → Option Fact → Bool
is_other None None = false
is_other None (Some to) = true
is_other (Some from) None = true
is_other (Some from) (Some to) = not (fact_eq from to)

abbrev pub fact_or_null : Option Fact → Text
fact_or_null None = codes "null"
fact_or_null (Some fact) = fact_text fact

-- how the line of a change begins: with the number of the version that has it, the session whose commit made that,
-- the name of this, and when its batch was put
abbrev pub making_text : ℕ → Option ℕ → Option Text → Option Text → Text
making_text number session name time =
    codes "[" ++ (decimal number ++ (codes "," ++ (session_text session ++ (codes "," ++ (text_or_null name ++ (codes ","
    ++ text_or_null time))))))

-- how it ends: with the fact before and after
abbrev pub both_text : Option Fact → Option Fact → Text
both_text from to = codes "," ++ (fact_or_null from ++ (codes "," ++ (fact_or_null to ++ codes "]\n")))

-- the line, where there is a change
abbrev pub change_of : Text → Option Fact → Option Fact → Text
change_of making from to = cond (is_other from to) (making ++ both_text from to) []

-- what an entry changed of the fact at an identifier of a report
abbrev pub change_text : Batches → Text → Text → Entry → History → Text
change_text b report id e older = change_of
    (making_text (repository (e ∷ older)).count e.session (name_told b e.session) (time_at b (length older)))
    (fact_at (repository older) report id) (fact_at (repository (e ∷ older)) report id)

-- a line for each change of it, in the order of versions
abbrev pub fact_log_of : Batches → Text → Text → History → Text
fact_log_of b report id [] = []
fact_log_of b report id (e ∷ older) = fact_log_of b report id older ++ change_text b report id e older

-- ---- as it is kept on the way through a history

pub record IsFactLogOf (l : FactLog) (h : History) : Type 0 where
  pub version : repository_in (arc_value l.version) ≡ repository h
  pub text : string_bytes l.text ≡ fact_log_of l.batches (string_bytes l.report) (string_bytes l.id) h

-- of the batches, the report and the identifier with which it began
abbrev pub IsFactLogOn : FactLog → FactLog → History → Type 0
IsFactLogOn first l h = (l.batches ≡ first.batches) × (string_bytes l.report ≡ string_bytes first.report)
    × (string_bytes l.id ≡ string_bytes first.id) × IsFactLogOf l h

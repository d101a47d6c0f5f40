-- The lines of a script. All of it is the project's own.
use Rattle.std.specs.Prelude.{⊤, ℕ, ◌+◌, true, false, if◌then◌else◌, ◌||◌, codes, Option, Some, None, is_some, option_and_then}
use Rattle.serde_json.specs.Data.{Data, null, boolean, string}
use Rattle.serde_json.specs.Find.{at, as_str, as_number, as_u64, as_object}
use Rattle.filing_model.specs.Common.Text.{text_eq}
use Rattle.filing_model.specs.Common.Text.{Text}
use Rattle.filing_model.specs.Reading.JsonText.{as_nullable}
use Rattle.filing_model.specs.Reading.ReadReport.{allowed_of_word}
use Rattle.filing_model.specs.Sessions.Calls.{PeriodFilter, Any, Without, Exactly, PageQuery, Limit, limit_of}
use Rattle.filing_model.specs.declared.duplicates.Allowed.{Allowed}
use Rattle.filing_model.specs.declared.kind.Kind.{Kind}
use Rattle.filing_model.specs.declared.kind.Kind.TheVariants.{Review, Amend}
use Rattle.script_format.specs.Verbs.{verb_of_word}
use Rattle.script_format.specs.declared.line.Verb.{Verb}
use Rattle.script_format.specs.declared.line.Verb.TheVariants as verb

-- what a line asks of a session, with its parts. The dimensions of a cell and the fact of an addition are not read yet
pub data Asking : Type 0 where
  Get : Text → Text → Asking
  Cell : Text → Data → Asking
  Page : Text → PageQuery → Limit → Asking
  Add : Text → Text → Data → Asking
  Remove : Text → Text → Asking
  Declared : Text → Asking
  Declare : Text → Allowed → Asking

-- a line by its kind, with its parts. Each session is named as the script names it; the report of a load is not read yet
pub data Line : Type 0 where
  Load : Text → Data → Line
  Open : Text → Kind → Line
  Ask : Text → Asking → Line
  Commit : Text → Line
  Close : Text → Line
  Export : Text → Line

-- the second step with what the first gives, where it gives something
infixl 10 ◌>>=◌
abbrev pub ◌>>=◌ : {A B : Type 0} → Option A → (A → Option B) → Option B
first >>= second = option_and_then second first

-- the text at this place of an array
abbrev pub text_at : ℕ → Data → Option Text
text_at place d = option_and_then as_str (at place d)

-- the object at this place
abbrev pub object_at : ℕ → Data → Option Data
object_at place d = do
  part ← at place d
  if is_some (as_object part) then Some part else None

-- a report is an object, or the text of one
abbrev pub report_part_at : ℕ → Data → Option Data
report_part_at place d = do
  part ← at place d
  if is_some (as_object part) || is_some (as_str part) then Some part else None

-- where the array has no part from this place on
abbrev pub ends_at : ℕ → Data → Option ⊤
ends_at place d = if is_some (at place d) then None else Some tt

abbrev pub load_of : Data → Option Line
load_of d = do
  name ← text_at 1 d
  report ← report_part_at 2 d
  ended ← ends_at 3 d
  Some (Load name report)

-- ---- what a session is opened for

abbrev pub kind_of_word : Text → Option Kind
kind_of_word word =
    if text_eq word (codes "review") then Some Review
    else if text_eq word (codes "amend") then Some Amend
    else None

abbrev pub open_of : Data → Option Line
open_of d = do
  session ← text_at 1 d
  kind ← option_and_then kind_of_word (text_at 2 d)
  ended ← ends_at 3 d
  Some (Open session kind)

-- ---- what is asked of a session

-- a text or null
abbrev pub nullable_at : ℕ → Data → Option (Option Text)
nullable_at place d = option_and_then as_nullable (at place d)

-- true for any period, null for none, or a text
abbrev pub as_asked : Data → Option PeriodFilter
as_asked (boolean true) = Some Any
as_asked (boolean false) = None
as_asked null = Some Without
as_asked (string period) = Some (Exactly period)
as_asked d = None

abbrev pub asked_at : ℕ → Data → Option PeriodFilter
asked_at place d = option_and_then as_asked (at place d)

-- a whole number from 1 to 1,000
abbrev pub limit_at : ℕ → Data → Option Limit
limit_at place d = do
  number ← option_and_then as_number (at place d)
  whole ← as_u64 number
  limit_of whole

-- each takes its parts from a place of the array on, and has none after them
abbrev pub get_at : ℕ → Data → Option Asking
get_at place d = do
  report ← text_at place d
  id ← text_at (place + 1) d
  ended ← ends_at (place + 2) d
  Some (Get report id)

abbrev pub cell_at : ℕ → Data → Option Asking
cell_at place d = do
  report ← text_at place d
  dims ← object_at (place + 1) d
  ended ← ends_at (place + 2) d
  Some (Cell report dims)

abbrev pub page_at : ℕ → Data → Option Asking
page_at place d = do
  report ← text_at place d
  concept ← text_at (place + 1) d
  period ← asked_at (place + 2) d
  after ← nullable_at (place + 3) d
  limit ← limit_at (place + 4) d
  ended ← ends_at (place + 5) d
  Some (Page report (record { concept = concept; period = period; after = after }) limit)

abbrev pub add_at : ℕ → Data → Option Asking
add_at place d = do
  report ← text_at place d
  id ← text_at (place + 1) d
  fact ← object_at (place + 2) d
  ended ← ends_at (place + 3) d
  Some (Add report id fact)

abbrev pub remove_at : ℕ → Data → Option Asking
remove_at place d = do
  report ← text_at place d
  id ← text_at (place + 1) d
  ended ← ends_at (place + 2) d
  Some (Remove report id)

abbrev pub declared_at : ℕ → Data → Option Asking
declared_at place d = do
  report ← text_at place d
  ended ← ends_at (place + 1) d
  Some (Declared report)

abbrev pub declare_at : ℕ → Data → Option Asking
declare_at place d = do
  report ← text_at place d
  allowed ← option_and_then allowed_of_word (text_at (place + 1) d)
  ended ← ends_at (place + 2) d
  Some (Declare report allowed)

-- by the verb, with the parts from a place on. The others ask nothing
abbrev pub asking_of_verb : Verb → ℕ → Data → Option Asking
asking_of_verb verb.Get place d = get_at place d
asking_of_verb verb.Cell place d = cell_at place d
asking_of_verb verb.Page place d = page_at place d
asking_of_verb verb.Add place d = add_at place d
asking_of_verb verb.Remove place d = remove_at place d
asking_of_verb verb.Declared place d = declared_at place d
asking_of_verb verb.Declare place d = declare_at place d
asking_of_verb verb.Load place d = None
asking_of_verb verb.Open place d = None
asking_of_verb verb.Commit place d = None
asking_of_verb verb.Close place d = None
asking_of_verb verb.Export place d = None

abbrev pub asking_at : Text → ℕ → Data → Option Asking
asking_at word place d = do
  verb ← verb_of_word word
  asking_of_verb verb place d

-- ---- the end of a session, and what is exported

abbrev pub commit_of : Data → Option Line
commit_of d = do
  session ← text_at 1 d
  ended ← ends_at 2 d
  Some (Commit session)

abbrev pub close_of : Data → Option Line
close_of d = do
  session ← text_at 1 d
  ended ← ends_at 2 d
  Some (Close session)

abbrev pub export_of : Data → Option Line
export_of d = do
  name ← text_at 1 d
  ended ← ends_at 2 d
  Some (Export name)

-- ---- by the first text

-- a line that asks something of the session that it names
abbrev pub asking_line : Verb → Data → Option Line
asking_line verb d = do
  session ← text_at 1 d
  asking ← asking_of_verb verb 2 d
  Some (Ask session asking)

abbrev pub line_of_verb : Verb → Data → Option Line
line_of_verb verb.Load d = load_of d
line_of_verb verb.Open d = open_of d
line_of_verb verb.Commit d = commit_of d
line_of_verb verb.Close d = close_of d
line_of_verb verb.Export d = export_of d
line_of_verb verb.Get d = asking_line verb.Get d
line_of_verb verb.Cell d = asking_line verb.Cell d
line_of_verb verb.Page d = asking_line verb.Page d
line_of_verb verb.Add d = asking_line verb.Add d
line_of_verb verb.Remove d = asking_line verb.Remove d
line_of_verb verb.Declared d = asking_line verb.Declared d
line_of_verb verb.Declare d = asking_line verb.Declare d

abbrev pub line_of_word : Text → Data → Option Line
line_of_word word d = do
  verb ← verb_of_word word
  line_of_verb verb d

-- the line that a JSON value is, where it is one of these by its length, its first text and the kinds of its parts
unfoldable pub line_of : Data → Option Line
line_of d = do
  word ← text_at 0 d
  line_of_word word d

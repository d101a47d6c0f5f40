-- Which lines of a script were refused, by their replies. The project's own.
use Rattle.std.specs.Prelude.{ℕ, Bool, true, false, ◌==◌, codes, Option, None, Some, if◌then◌else◌, option_and_then}
use Rattle.std.specs.List.{before_first, after_first}
use Rattle.std.specs.Option.{option_map_or}
use Rattle.filing_model.specs.Common.Text.{Text, text_eq}
use Rattle.filing_model.specs.Reading.JsonText.{json_of}
use Rattle.filing_model.specs.Sessions.Replies as reply
use Rattle.filing_model.specs.Sessions.Replies.{Reply}
use Rattle.script_format.specs.ScriptLines.{text_at}
use Rattle.script_reasons.specs.declared.refusal.Refusal.{Refusal}
use Rattle.script_reasons.specs.declared.refusal.Refusal.TheVariants as refused

abbrev pub is_quote : ℕ → Bool
is_quote c = c == 34

-- the word of a reply: what stands between its first two quotes
abbrev pub word_of : Text → Text
word_of reply = before_first is_quote (after_first is_quote reply)

-- the word of each refusal
abbrev pub refusal_word : Refusal → Text
refusal_word refused.BadLine = codes "bad-line"
refusal_word refused.BadReport = codes "bad-report"
refusal_word refused.BadFact = codes "bad-fact"
refusal_word refused.NameTaken = codes "name-taken"
refusal_word refused.Disallowed = codes "disallowed"
refusal_word refused.NameInUse = codes "name-in-use"
refusal_word refused.NoSession = codes "no-session"
refusal_word refused.NoReport = codes "no-report"
refusal_word refused.ReadOnly = codes "read-only"
refusal_word refused.Taken = codes "taken"
refusal_word refused.Conflict = codes "conflict"
refusal_word refused.NotThere = codes "none"

-- the refusal that a word tells whatever the line is; none where it answers
abbrev pub refusal_of_word : Text → Option Refusal
refusal_of_word word =
    if text_eq word (codes "bad-line") then Some refused.BadLine
    else if text_eq word (codes "bad-report") then Some refused.BadReport
    else if text_eq word (codes "bad-fact") then Some refused.BadFact
    else if text_eq word (codes "name-taken") then Some refused.NameTaken
    else if text_eq word (codes "disallowed") then Some refused.Disallowed
    else if text_eq word (codes "name-in-use") then Some refused.NameInUse
    else if text_eq word (codes "no-session") then Some refused.NoSession
    else if text_eq word (codes "no-report") then Some refused.NoReport
    else if text_eq word (codes "read-only") then Some refused.ReadOnly
    else if text_eq word (codes "taken") then Some refused.Taken
    else if text_eq word (codes "conflict") then Some refused.Conflict
    else None

abbrev pub is_remove : Option Text → Bool
is_remove None = false
is_remove (Some word) = text_eq word (codes "remove")

-- a line that stages that a fact goes, by its first text
abbrev pub is_removal : Text → Bool
is_removal line = is_remove (option_and_then (text_at 0) (json_of line))

-- the refusal of this line by this reply; none where the reply answers it. That there is no fact refuses a removal, and answers any other line
abbrev pub refusal_in : Text → Text → Option Refusal
refusal_in line reply =
    if text_eq (word_of reply) (codes "none")
    then (if is_removal line then Some refused.NotThere else None)
    else refusal_of_word (word_of reply)

-- whether a refusal tells that the line itself is malformed or out of place.
-- The others tell what the repository had: a fact or a report that is there or not, duplicates, a conflict
abbrev pub is_mistake : Refusal → Bool
is_mistake refused.BadLine = true
is_mistake refused.BadReport = true
is_mistake refused.BadFact = true
is_mistake refused.NameInUse = true
is_mistake refused.NoSession = true
is_mistake refused.NoReport = true
is_mistake refused.ReadOnly = true
is_mistake refused.NameTaken = false
is_mistake refused.Disallowed = false
is_mistake refused.Taken = false
is_mistake refused.Conflict = false
is_mistake refused.NotThere = false

-- so does a reply, by its word
abbrev pub tells_mistake : Text → Bool
tells_mistake reply = option_map_or is_mistake (refusal_of_word (word_of reply)) false

-- a reply to a step that tells that its line is out of place
abbrev pub is_mistaken : Reply → Bool
is_mistaken reply.NoReport = true
is_mistaken reply.ReadOnly = true
is_mistaken (reply.BadFact fault) = true
is_mistaken r = false

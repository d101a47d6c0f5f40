-- What is told of the sessions and the loads of a history, and of the batches that have them. All of it is the project's own.
use Rattle.std.specs.Prelude.{◌≡◌, ◌⊎◌, ℕ, ◌+◌, ◌==◌, ◌&&◌, ◌++◌, cond, Bool, true, false, List, [], ◌∷◌, Option, Some}
use Rattle.std.specs.Prelude.{◌-◌, None, length, option_map, option_and_then, slice_get, Result, Err, codes, decimal}
use Rattle.std.specs.List.{cons_option, filter_map, flat_map, range_with_len}
use Rattle.std.specs.Option.{option_map_or}
use Rattle.json.specs.Print.{quoted}
use Rattle.filing_model.specs.Common.Text.{Text}
use Rattle.filing_model.specs.Sessions.Replies as reply
use Rattle.filing_model.specs.Sessions.Replies.{Reply}
use Rattle.filing_model.specs.Histories.History.{Step, Load, Open, Ask, Commit, Close, Entry, History, is_of, repository}
use Rattle.filing_model.specs.Histories.Lawful.{openings}
use Rattle.filing_model.specs.Histories.Touches.{number_in}
use Rattle.filing_model.specs.Histories.Versions.{counts}
use Rattle.filing_model.specs.declared.kind.Kind.{Kind}
use Rattle.filing_model.specs.declared.kind.Kind.TheVariants.{Review, Amend}
use Rattle.line_io.specs.Devices.{SinkState}
use Rattle.line_io.specs.declared.fault.ScriptFault.{ScriptFault}
use Rattle.line_io.specs.declared.fault.ScriptFault.TheVariants.{NoMemory}
use Rattle.script_format.specs.ReplyText.{reply_text}
use Rattle.history_format.specs.EntryText.{session_text}
use Rattle.session_pictures.specs.Told.{End, Told}
use Rattle.script_runs.specs.HistoryRun.{WritesText}
use Rattle.history_views.specs.Batches.{Batches, name_told, time_at}
use Rattle.session_pictures.specs.Columns.{touching}
use Rattle.session_pictures.specs.Picture.{Shows, picture_in, text_in}
use Rattle.session_pictures.specs.declared.drawing.Drawing.{Drawing}
use Rattle.session_pictures.specs.declared.told.Ending.{Ending}
use Rattle.session_pictures.specs.declared.told.Ending.TheVariants.{Committed, Conflict, Closed, Disallowed}

-- at its opening, in a batch that was put then
abbrev pub told_first : Kind → ℕ → Option Text → Option Text → Told
told_first kind number name time = record {
  kind = kind;
  opened_at = number;
  staged = 0;
  ended = None;
  touched_by = None;
  name = name;
  time = time;
}

-- whether it tells that a call was staged
abbrev pub is_staged : Reply → Bool
is_staged reply.Staged = true
is_staged _ = false

-- after a call
unfoldable pub with_call : Reply → Told → Told
with_call r t = cond (is_staged r) (record t { staged = t.staged + 1 }) t

-- how a session ended, by the reply; where that is none of the others, it was closed
abbrev pub ending_of : Reply → Ending
ending_of (reply.Committed number) = Committed
ending_of (reply.Conflict number thing) = Conflict number
ending_of (reply.Disallowed name class ids) = Disallowed
ending_of _ = Closed

-- after its end, by the reply, the number of the version then, the session that touched what it had read,
-- and when the batch was put that has the end
abbrev pub with_end : Reply → ℕ → Option ℕ → Option Text → Told → Told
with_end r number by time t = record t {
  ended = Some (record { ending = ending_of r; reply = reply_text r; version = number });
  touched_by = by;
  time = time;
}

-- the session whose commit made the version of a number; none where a load made it
abbrev pub maker : ℕ → History → Option ℕ
maker number [] = None
maker number (e ∷ older) = cond (counts e.reply && (number_in e.reply == number)) e.session (maker number older)

-- the session whose commit touched what another had read, where that ended so
abbrev pub toucher : Ending → History → Option ℕ
toucher ending older = option_and_then (λ number. maker number older) (touching ending)

-- an end by the entry that has it
abbrev pub with_end_of : Batches → Entry → History → Told → Told
with_end_of b e older = with_end e.reply (repository (e ∷ older)).count (toucher (ending_of e.reply) older)
    (time_at b (length older))

-- of the step and the entry that has it
abbrev pub told_after : Batches → Step → Entry → History → Option Told → Option Told
told_after b (Load name x) e older told = told
told_after b (Open kind) e older told =
    Some (told_first kind (repository older).count (name_told b e.session) (time_at b (length older)))
told_after b (Ask call) e older told = option_map (with_call e.reply) told
told_after b Commit e older told = option_map (with_end_of b e older) told
told_after b Close e older told = option_map (with_end_of b e older) told

-- what is told of the session of a number, where it was opened
abbrev pub told_of : Batches → ℕ → History → Option Told
told_of b s [] = None
told_of b s (e ∷ older) =
    cond (is_of s e) (told_after b e.step e older (told_of b s older)) (told_of b s older)

-- of all sessions, in the order of their openings
abbrev pub sessions_of : Batches → History → List Told
sessions_of b h = filter_map (λ s. told_of b s h) (range_with_len 1 (openings h))

-- ---- what has a line

-- the session of a number; or a report that was loaded, with the number of the version that this made, and when its
-- batch was put
pub data Line : Type 0 where
  Opened : ℕ → Line
  Loaded : Text → ℕ → Option Text → Line

abbrev pub load_made : Text → Option Text → Reply → Option Line
load_made name time (reply.Loaded number) = Some (Loaded name number time)
load_made name time _ = None

-- an opening has one, and a load that was accepted, here as entry of this index
abbrev pub line_made : Batches → ℕ → Option ℕ → Step → Reply → Option Line
line_made b index session (Load name x) r = load_made name (time_at b index) r
line_made b index session (Open kind) r = option_map Opened session
line_made b index session (Ask call) r = None
line_made b index session Commit r = None
line_made b index session Close r = None

-- in the order of entries
abbrev pub lines_of : Batches → History → List Line
lines_of b [] = []
lines_of b (e ∷ older) = lines_of b older ++ cons_option (line_made b (length older) e.session e.step e.reply) []

abbrev pub version_loaded : Line → Option ℕ
version_loaded (Opened s) = None
version_loaded (Loaded name number time) = Some number

-- the versions that loads made
abbrev pub loads_in : List Line → List ℕ
loads_in lines = filter_map version_loaded lines

-- ---- lines

abbrev pub kind_word : Kind → Text
kind_word Review = codes "\"review\""
kind_word Amend = codes "\"amend\""

abbrev pub end_text : Option End → Text
end_text None = codes "null"
end_text (Some e) = e.reply

abbrev pub text_or_null : Option Text → Text
text_or_null None = codes "null"
text_or_null (Some text) = quoted text

unfoldable pub session_line : ℕ → Told → Text
session_line s t =
    codes "[" ++ (decimal s ++ (codes "," ++ (kind_word t.kind ++ (codes "," ++ (decimal t.opened_at ++ (codes ","
    ++ (end_text t.ended ++ (codes ","
    ++ (decimal t.staged ++ (codes "," ++ (session_text t.touched_by ++ (codes "," ++ (text_or_null t.name ++ (codes ","
    ++ (text_or_null t.time ++ codes "]\n")))))))))))))))

unfoldable pub load_line : Text → ℕ → Option Text → Text
load_line name number time =
    codes "[null,\"load\"," ++ (quoted name ++ (codes ",[\"loaded\"," ++ (decimal number ++ (codes "],"
    ++ (text_or_null time ++ codes "]\n")))))

-- by what is told of the sessions
abbrev pub line_text : List Told → Line → Text
line_text ts (Opened s) = option_map_or (session_line s) (slice_get ts (s - 1)) []
line_text ts (Loaded name number time) = load_line name number time

abbrev pub log_text : List Told → List Line → Text
log_text ts lines = flat_map (line_text ts) lines

-- a line for each session, in the order of their openings, and for each load among them
abbrev pub log_of : Batches → History → Text
log_of b h = log_text (sessions_of b h) (lines_of b h)

-- a drawing of at most 200 sessions, from the one of this number on, and of the versions that loads made is written;
-- or memory was refused for it, and nothing is
abbrev pub WritesPicture : ℕ → List Told → List ℕ → Result (Unit {0}) ScriptFault → SinkState → SinkState → Type 0
WritesPicture first ts loaded result sink sink' =
    ((drawing : Drawing)
    × (Shows first ts loaded (picture_in drawing) × WritesText (text_in drawing) 1 result sink sink'))
    ⊎ ((result ≡ Err (NoMemory 1)) × (sink' ≡ sink))

-- What is told of a session. All of it is the project's own.
use Rattle.std.specs.Prelude.{ℕ, Option, option_map, string_bytes}
use Rattle.filing_model.specs.Common.Text.{Text}
use Rattle.filing_model.specs.declared.kind.Kind.{Kind}
use Rattle.session_pictures.specs.declared.told.Ending.{Ending}
use Rattle.session_pictures.specs.declared.told.SessionEnd.{SessionEnd}
use Rattle.session_pictures.specs.declared.told.ToldSession.{ToldSession}

-- how a session ended, the reply by which it did, and the number of the version then
pub record End : Type 0 where
  pub ending : Ending
  pub reply : Text
  pub version : ℕ

-- what a session may do; the number of the version at its opening; how many of its calls were staged; its end,
-- if it has ended; the session whose commit touched what it read, where it ended by a conflict with one; its name,
-- where that is known; and when it ended, or was opened where it has not ended, where that is known
pub record Told : Type 0 where
  pub kind : Kind
  pub opened_at : ℕ
  pub staged : ℕ
  pub ended : Option End
  pub touched_by : Option ℕ
  pub name : Option Text
  pub time : Option Text

-- ---- as code holds it

abbrev pub end_in : SessionEnd → End
end_in e = record { ending = e.ending; reply = string_bytes e.reply; version = e.version }

abbrev pub told_in : ToldSession → Told
told_in s = record {
  kind = s.kind;
  opened_at = s.opened_at;
  staged = s.staged;
  ended = option_map end_in s.ended;
  touched_by = s.touched_by;
  name = option_map string_bytes s.name;
  time = option_map string_bytes s.time;
}

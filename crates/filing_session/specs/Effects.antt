-- What a call does to a session, told before it is done. The project's own.
use Rattle.std.specs.Prelude.{Option, Some, None}
use Rattle.std.specs.Option.{option_map_or}
use Rattle.filing_model.specs.Common.Text.{Text}
use Rattle.filing_model.specs.Oim.Facts.{Fact}
use Rattle.filing_model.specs.Sessions.Repository.{Repository, with_fact_at}
use Rattle.filing_model.specs.Sessions.Changes.{Change, with_change}
use Rattle.filing_model.specs.Oim.Reports.{Report}
use Rattle.filing_model.specs.Sessions.Calls.{Call, report_of_call}
use Rattle.filing_model.specs.Sessions.Replies as reply
use Rattle.filing_model.specs.Sessions.Replies.{Reply}
use Rattle.filing_model.specs.Sessions.Things as thing
use Rattle.filing_model.specs.Sessions.Things.{Thing}
use Rattle.filing_model.specs.Sessions.Sessions.{Answer, answer_in, answer}
use Rattle.filing_model.specs.Histories.Touches.{read_in, read_by}
use Rattle.filing_model.specs.declared.kind.Kind.{Kind}
use Rattle.filing_session.specs.States.{SessionState, with_thing, staging}

-- the reply, the thing that is read, and the copy and the change that take the place of the session's where something is staged
pub record Effect : Type 0 where
  pub reply : Reply
  pub thing : Option Thing
  pub staged : Option (Repository × Change)

-- what is staged by a call with this answer
abbrev pub staged_by : Call → Answer → Change → Option (Repository × Change)
staged_by ask (reply.Staged, copy) change = Some (copy, staging ask copy change)
staged_by ask _ change = None

abbrev pub effect_of : Kind → Call → Repository → Change → Effect
effect_of kind ask copy change = record {
  reply = (answer kind ask copy).0;
  thing = read_by kind ask copy;
  staged = staged_by ask (answer kind ask copy) change;
}

abbrev pub effect_on : Call → SessionState → Effect
effect_on ask s = effect_of s.kind ask s.copy s.change

-- the session after it
abbrev pub with_effect : Effect → SessionState → SessionState
with_effect e s = record s {
  copy = option_map_or (λ p. p.0) e.staged s.copy;
  change = option_map_or (λ p. p.1) e.staged s.change;
  reads = with_thing s.reads e.thing;
}

-- ---- by parts

-- of a call that a review may not make
abbrev pub no_effect : Effect
no_effect = record { reply = reply.ReadOnly; thing = None; staged = None }

-- of one that names a report which is not there
abbrev pub effect_nowhere : Call → Effect
effect_nowhere ask = record { reply = reply.NoReport; thing = Some (thing.Report (report_of_call ask)); staged = None }

-- of any other, in the report that it names
abbrev pub effect_in : Call → Repository → Change → Option Report → Effect
effect_in ask copy change None = effect_nowhere ask
effect_in ask copy change (Some r) = record {
  reply = (answer_in copy ask r).0;
  thing = read_in ask r;
  staged = staged_by ask (answer_in copy ask r) change;
}

-- what is staged at an identifier
abbrev pub put_effect : Text → Text → Option Fact → Repository → Change → Effect
put_effect name id fact copy change = record {
  reply = reply.Staged;
  thing = Some (thing.Id name id);
  staged = Some (with_fact_at copy name id fact, with_change change name id fact);
}

-- A session as its calls leave it. The project's own.
use Rattle.std.specs.Prelude.{cond, List, [], ◌∷◌, ◌++◌, Option, Some, None}
use Rattle.filing_model.specs.Common.TextMap.{empty}
use Rattle.filing_model.specs.Sessions.Repository.{Repository, fact_at}
use Rattle.filing_model.specs.Sessions.Changes.{Change, with_change, with_declared}
use Rattle.filing_model.specs.Sessions.Calls as call
use Rattle.filing_model.specs.Sessions.Calls.{Call}
use Rattle.filing_model.specs.Sessions.Replies as reply
use Rattle.filing_model.specs.Sessions.Replies.{Reply}
use Rattle.filing_model.specs.Sessions.Things.{Thing, has_thing}
use Rattle.filing_model.specs.Sessions.Sessions.{answer}
use Rattle.filing_model.specs.Histories.Touches.{read_by}
use Rattle.filing_model.specs.declared.kind.Kind.{Kind}

-- the repository of its opening, its own copy of it, what it has staged, and the things that it has read, each once
pub record SessionState : Type 0 where
  pub kind : Kind
  pub base : Repository
  pub copy : Repository
  pub change : Change
  pub reads : List Thing

abbrev pub opened : Kind → Repository → SessionState
opened kind base = record { kind = kind; base = base; copy = base; change = empty; reads = [] }

-- the things with one more after them, unless it is among them
abbrev pub with_thing : List Thing → Option Thing → List Thing
with_thing things None = things
with_thing things (Some t) = cond (has_thing things t) things (things ++ t ∷ [])

-- the change with what a call stages, by the copy that the call leaves
abbrev pub staging : Call → Repository → Change → Change
staging (call.Add name id raw) copy change = with_change change name id (fact_at copy name id)
staging (call.Remove name id) copy change = with_change change name id (fact_at copy name id)
staging (call.Declare name value) copy change = with_declared change name value
staging _ copy change = change

-- by what the call is answered
abbrev pub change_after : Call → Reply → Repository → Change → Change
change_after ask reply.Staged copy change = staging ask copy change
change_after ask _ copy change = change

abbrev pub called : Call → SessionState → SessionState
called ask s = record s {
  copy = (answer s.kind ask s.copy).1;
  change = change_after ask (answer s.kind ask s.copy).0 (answer s.kind ask s.copy).1 s.change;
  reads = with_thing s.reads (read_by s.kind ask s.copy);
}

-- after calls one after another
abbrev pub after_calls : List Call → SessionState → SessionState
after_calls [] s = s
after_calls (ask ∷ calls) s = after_calls calls (called ask s)

-- what each of them is answered
abbrev pub replies_to : List Call → SessionState → List Reply
replies_to [] s = []
replies_to (ask ∷ calls) s = (answer s.kind ask s.copy).0 ∷ replies_to calls (called ask s)

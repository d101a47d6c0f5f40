-- A session and what is made ready of a call, as code holds them. The project's own.
use Rattle.std.specs.Prelude.{◌≡◌, Bool, Result, Ok, Err}
use Rattle.std.specs.declared.alloc.AllocError.{AllocError}
use Rattle.filing_model.specs.Sessions.Calls.{Call}
use Rattle.filing_model.specs.Sessions.Sessions.{answer}
use Rattle.filing_step.specs.declared.reply.Reply.{Reply}
use Rattle.filing_step.specs.Steps.{reply_of}
use Rattle.filing_session.specs.States.{SessionState, called}

-- its state, and whether it has capacity for one more thing read
pub record OpenSession : Type 0 where
  pub state : SessionState
  pub has_room : Bool

-- the reply is the call's, and the session is as the call leaves it
pub record IsAnswered (ask : Call) (old new : SessionState) (told : Reply) : Type 0 where
  pub told_so : reply_of told ≡ (answer old.kind ask old.copy).0
  pub left_so : new ≡ called ask old

-- or it is as it was, for want of memory
abbrev pub Answers : Call → SessionState → SessionState → Result Reply AllocError → Type 0
Answers ask old new (Ok told) = IsAnswered ask old new told
Answers ask old new (Err fault) = new ≡ old

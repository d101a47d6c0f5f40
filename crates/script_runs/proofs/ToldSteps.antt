-- What the text of a reply says of the step that it answers.
use Rattle.std.proofs.Common.{◌∙◌, ap, sym, ℕ, Option, Result, Ok, Err, IfOk, OnOk}
use Rattle.std.specs.Option.{option_map_or}
use Rattle.filing_model.specs.Common.Text.{Text}
use Rattle.filing_model.specs.Sessions.Replies as model
use Rattle.filing_model.specs.Histories.History.{Step, History}
use Rattle.filing_step.specs.declared.reply.Reply.{Reply}
use Rattle.filing_core.specs.declared.fault.CoreFault.{CoreFault}
use Rattle.filing_core.specs.declared.fault.CoreFault.TheVariants.{NoSession, NoMemory}
use Rattle.script_format.specs.ReplyText.{reply_text, no_session_text}
use Rattle.script_runs.specs.StepsTaken.{IsTold, Takes, Tells}

pub told_of : (has_taken : History → Type 0) (h : History) (session : Option ℕ) (step : Step) (outcome : Result Reply CoreFault) (text : Text)
    → Takes has_taken h session step outcome → IsTold outcome text → Tells has_taken h session step text
told_of has_taken h session step (Ok r) text takes is = (
  is ∙ ap (λ (o : Option model.Reply). option_map_or reply_text o no_session_text)
      (sym takes.0),
  takes.1,
)
told_of has_taken h session step (Err NoSession) text takes is =
    (is ∙ ap (λ (o : Option model.Reply). option_map_or reply_text o no_session_text) (sym takes.0), takes.1)
told_of has_taken h session step (Err NoMemory) text takes is = absurd is

-- where a text was given, so was what comes with it
pub told_with : {X E : Type 0} (r : Result X E) (P Q : X → Type 0) (A B : Type 0) → ((x : X) → P x → A → B → Q x) → IfOk r P → OnOk r A → OnOk r B → IfOk r Q
told_with (Ok x) P Q A B by is a b = by x is a b
told_with (Err e) P Q A B by is a b = tt

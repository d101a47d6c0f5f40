-- What a step that a line asks for says of the call that was read.
use Rattle.std.proofs.Common.{◌≡◌, ap, sym, refl, Result, Ok, Err, String, string_bytes, is_ok, true≢false}
use Rattle.std.specs.declared.alloc.Global.{Global}
use Rattle.filing_model.specs.Common.Text.{Text}
use Rattle.filing_model.specs.Sessions.Calls.{Call}
use Rattle.filing_model.specs.Histories.History as model
use Rattle.filing_step.specs.Steps.{step_of}
use Rattle.filing_step.specs.declared.step.Step.{Step}
use Rattle.script_format.specs.Script.{State, ReplyNow, asking_outcome}
use Rattle.script_format.specs.AskedStep.{IsAsked}

-- the step in it, or another
abbrev step_in : model.Step → Result model.Step Text → model.Step
step_in other (Ok s) = s
step_in other (Err text) = other

-- the text in it, or another
abbrev text_in : Text → Result model.Step Text → Text
text_in other (Ok s) = other
text_in other (Err text) = text

-- a step makes the call that was read
pub call_of_asked : (s : Step) (reading : Result Call Text) → IsAsked (Ok s) reading
    → (c : Call) × ((reading ≡ Ok c) × (step_of s ≡ model.Ask c))
call_of_asked s (Ok c) asked = (c, (refl, ap (step_in (step_of s)) asked))
call_of_asked s (Err text) asked = absurd (true≢false (ap is_ok asked))

-- a reply refuses what was read
pub refusal_of_asked : (text : String Global) (reading : Result Call Text) → IsAsked (Err text) reading
    → reading ≡ Err (string_bytes text)
refusal_of_asked text (Ok c) asked = absurd (true≢false (ap is_ok (sym asked)))
refusal_of_asked text (Err told) asked = ap (λ r. Err (text_in told r)) (sym asked)

-- or to that reply
pub refusal_outcome : (state : State) (session : Text) (text : String Global) (reading : Result Call Text) → IsAsked (Err text) reading
    → asking_outcome state session reading ≡ ReplyNow (string_bytes text)
refusal_outcome state session text reading asked = ap (asking_outcome state session) (refusal_of_asked text reading asked)

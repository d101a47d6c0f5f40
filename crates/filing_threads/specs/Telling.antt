-- The replies to the lines of a script once its desk has taken its steps. The project's own.
use Rattle.std.specs.Prelude.{◌≡◌, Bool, true, false, List, [], ◌∷◌, ◌++◌, Option, Some, None, string_bytes}
use Rattle.std.specs.declared.string.String.{String}
use Rattle.std.specs.declared.alloc.Global.{Global}
use Rattle.std.specs.Option.{option_map_or}
use Rattle.filing_model.specs.Common.Text.{Text}
use Rattle.filing_step.specs.Steps.{reply_of}
use Rattle.script_format.specs.ReplyText.{reply_text, name_in_use_text, no_session_text}
use Rattle.filing_office.specs.Runs.{is_no_memory}
use Rattle.filing_office.specs.declared.outcome.Outcome.{Outcome}
use Rattle.filing_office.specs.declared.outcome.Outcome.TheVariants.{Answered, NameInUse, NoSession, NoMemory}

-- the reply that an outcome is, and none where memory was wanted
abbrev pub outcome_text : {J : Type 0} → Outcome J → Option Text
outcome_text (Answered a) = Some (reply_text (reply_of a.reply))
outcome_text NameInUse = Some name_in_use_text
outcome_text NoSession = Some no_session_text
outcome_text NoMemory = None

-- the replies to the lines, in their order, up to the first step that has none:
-- the one that a line has at once, and where there is none that of the next outcome of the desk
abbrev pub replies_of : {J : Type 0} → List (Option (String Global)) → List (Outcome J) → List Text
replies_of [] os = []
replies_of (Some text ∷ told) os = string_bytes text ∷ replies_of told os
replies_of (None ∷ told) [] = []
replies_of (None ∷ told) (o ∷ os) = option_map_or (λ text. text ∷ replies_of told os) (outcome_text o) []

-- whether each line has its reply
abbrev pub all_told : {J : Type 0} → List (Option (String Global)) → List (Outcome J) → Bool
all_told [] os = true
all_told (Some text ∷ told) os = all_told told os
all_told (None ∷ told) [] = false
all_told (None ∷ told) (o ∷ os) = option_map_or (λ text. all_told told os) (outcome_text o) false

-- a text has grown by this reply where there is one, and is as it was where there is none
abbrev pub GrowsBy : Option Text → Bool → Text → Text → Type 0
GrowsBy (Some reply) there text text' = (there ≡ true) × (text' ≡ text ++ reply)
GrowsBy None there text text' = (there ≡ false) × (text' ≡ text)

-- a text has grown by the next reply, if there is one, with the outcomes before and after it
abbrev pub NextReply : {J : Type 0} → Option (String Global) → List (Outcome J) → List (Outcome J) → Bool → Text → Text
    → Type 0
NextReply (Some at_once) os left there text text' = GrowsBy (Some (string_bytes at_once)) there text text' × (left ≡ os)
NextReply None [] left there text text' = GrowsBy None there text text'
NextReply None (o ∷ os) left there text text' = GrowsBy (outcome_text o) there text text' × (left ≡ os)

-- each line has its reply, and each outcome is told
abbrev pub AllUsed : {J : Type 0} → List (Option (String Global)) → List (Outcome J) → Type 0
AllUsed [] os = os ≡ []
AllUsed (Some text ∷ told) os = AllUsed told os
AllUsed (None ∷ told) [] = ⊥
AllUsed (None ∷ told) (o ∷ os) = (is_no_memory o ≡ false) × AllUsed told os

-- Whether a script was found to have a mistake, and the status of its run.
use Rattle.std.specs.Prelude.{◌≡◌, ℕ, Bool, ◌||◌, ◌&&◌, List, Option, if◌then◌else◌}
use Rattle.std.specs.List.{list_any}
use Rattle.std.specs.Io.KnownBytes.{Appends}
use Rattle.line_io.specs.Lines.{lines_text}
use Rattle.script_reasons.specs.Refusals.{tells_mistake}
use Rattle.filing.specs.declared.reasons.explainer.Explainer.{Explainer}

-- what an explainer notes of a line and its reply: whether the reply tells of a mistake
abbrev pub notes : Explainer → List ℕ → List ℕ → Explainer → Type 0
notes before line reply after = after.found_mistake ≡ (before.found_mistake || tells_mistake reply)

-- these replies and nothing else were written, as far as the bytes are known, and the explainer notes whether one of them tells of a mistake
pub record NotesMistakes (written written' : Option (List ℕ)) (before after : Explainer) : Type 0 where
  pub texts : List (List ℕ)
  pub took : Appends written written' (lines_text texts)
  pub found : after.found_mistake ≡ (before.found_mistake || list_any tells_mistake texts)

-- the status of a run that ended without fault, by whether it is strict, and whether a mistake was found
abbrev pub strict_status : Bool → Bool → ℕ
strict_status is_strict found = if is_strict && found then 5 else 0

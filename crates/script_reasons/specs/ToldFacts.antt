-- Of which facts reasons tell. The project's own.
use Rattle.std.specs.Prelude.{◌≡◌, Bool, true, false, codes, List, Option, None, Some, Result, Ok, Err, is_ok, not, is_some, option_map, option_and_then, string_bytes}
use Rattle.std.specs.List.{list_all}
use Rattle.serde_json.specs.Data.{Data, string}
use Rattle.serde_json.specs.Find.{get}
use Rattle.filing_model.specs.Common.Text.{Text, text_eq}
use Rattle.filing_model.specs.Oim.Facts.{Names, RawFact, fit_of}
use Rattle.filing_model.specs.Reading.JsonText.{json_of, without_mark}
use Rattle.filing_model.specs.Reading.ReadFact.{raw_fact_of}
use Rattle.filing_model.specs.declared.faults.Trouble.{Trouble}
use Rattle.script_format.specs.ScriptLines.{Line, Load, Ask, Asking, Add, line_of}
use Rattle.script_reasons.specs.declared.reasons.Reason.{Reason}

-- a report has a fact under this identifier
abbrev pub has_fact : Text → Data → Bool
has_fact id report = is_some (option_and_then (get id) (get (codes "facts") report))

-- so has what stands for a report in the line of a load: an object, or the text of one
abbrev pub has_loaded_fact : Text → Data → Bool
has_loaded_fact id (string text) = is_some (option_and_then (λ report. option_and_then (get id) (get (codes "facts") report)) (json_of (without_mark text)))
has_loaded_fact id report = has_fact id report

-- an added fact has this identifier
abbrev pub is_added : Text → Asking → Bool
is_added id (Add report key fact) = text_eq id key
is_added id asking = false

-- a line has a fact under this identifier: it adds that, or loads a report with it
abbrev pub line_has_fact : Text → Option Line → Bool
line_has_fact id (Some (Load name report)) = has_loaded_fact id report
line_has_fact id (Some (Ask session asking)) = is_added id asking
line_has_fact id line = false

-- where an identifier is told, it is one of these
abbrev pub is_told_of : (Text → Bool) → Option Text → Bool
is_told_of of None = true
is_told_of of (Some id) = of id

-- each identifier that reasons tell is one of these
abbrev pub are_told_of : (Text → Bool) → List Reason → Bool
are_told_of of reasons = list_all (λ r. is_told_of of (option_map string_bytes r.fact)) reasons

-- the identifiers that are told stay among these
abbrev pub KeepsTo : (Text → Bool) → List Reason → List Reason → Type 0
KeepsTo of before after = are_told_of of before ≡ true → are_told_of of after ≡ true

-- each fact of which it is told stands in this line
abbrev pub AreOfFactsIn : Text → List Reason → Type 0
AreOfFactsIn line reasons = are_told_of (λ id. line_has_fact id (option_and_then line_of (json_of line))) reasons ≡ true

-- a fact that was read does not fit these names, where they are known
abbrev pub is_misfit : Option Names → RawFact → Bool
is_misfit None raw = false
is_misfit (Some names) raw = not (is_ok (fit_of names raw))

abbrev pub is_refused_as : Option Names → Result RawFact Trouble → Bool
is_refused_as names (Err trouble) = true
is_refused_as names (Ok raw) = is_misfit names raw

-- a fact is refused as it is read, or by these names
abbrev pub is_refused : Option Names → Data → Bool
is_refused names fact = is_refused_as names (raw_fact_of fact)

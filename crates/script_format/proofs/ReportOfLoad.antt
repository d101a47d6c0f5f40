-- Where the report of a load stands in its line.
use Rattle.std.proofs.Common.{◌≡◌, ◌∙◌, ap, sym, subst, refl, true, false, cond, Option, Some, None}
use Rattle.std.proofs.Common.{is_some, unwrap_or, ◌||◌}
use Rattle.serde_json.specs.Data.{Data}
use Rattle.serde_json.specs.Find.{at, as_str, as_object}
use Rattle.std.specs.Option.{option_map_or}
use Rattle.filing_model.specs.Common.Text.{Text}
use Rattle.script_format.specs.ReplyText.{bad_line_text}
use Rattle.script_format.specs.Script.{State, ReplyNow, report_in, load_outcome, line_outcome, answered, value_answer}
use Rattle.script_format.specs.ScriptLines.{◌>>=◌, Asking, Line, Load, Open, Ask, Commit, Close, Export}
use Rattle.script_format.proofs.LinesByWord.{HoldsOfOthers, of_word, then}
use Rattle.script_format.specs.ScriptLines.{text_at, ends_at, load_of}
use Rattle.script_format.specs.ScriptLines.{asking_line, asking_of_verb, line_of}
use Rattle.script_format.specs.declared.line.Verb.{Verb}

-- a load has its report as the third part of the value
abbrev pub HasReport : Data → Option Line → Type 0
HasReport d None = Unit {0}
HasReport d (Some (Load name r)) = at 2 d ≡ Some r
HasReport d (Some (Open session kind)) = Unit {0}
HasReport d (Some (Ask session asking)) = Unit {0}
HasReport d (Some (Commit session)) = Unit {0}
HasReport d (Some (Close session)) = Unit {0}
HasReport d (Some (Export name)) = Unit {0}

others : (d : Data) → HoldsOfOthers (HasReport d)
others d = record { none = tt; opens = λ session kind. tt; commit = λ session. tt; close = λ session. tt; export = λ name. tt }

of_load : (d : Data) → HasReport d (load_of d)
of_load d =
    then (HasReport d) (others d) (text_at 1 d) _ (λ name.
    elim (at 2 d) as (λ o. at 2 d ≡ o → HasReport d
    ((o >>= λ part. cond (is_some (as_object part) || is_some (as_str part)) (Some part) None)
    >>= λ report. ends_at 3 d >>= λ ended. Some (Load name report))) [
      | None ↦ λ _. tt
      | Some part ↦ λ there. elim (is_some (as_object part) || is_some (as_str part)) as
          (λ b. HasReport d (cond b (Some part) None >>= λ report. ends_at 3 d >>= λ ended. Some (Load name report))) [
            | true ↦ then (HasReport d) (others d) (ends_at 3 d) _ (λ ended. there)
            | false ↦ tt
          ]
    ] refl)

of_asking : (d : Data) (v : Verb) → HasReport d (asking_line v d)
of_asking d v = then (HasReport d) (others d) (text_at 1 d) _ (λ session. thus d session (asking_of_verb v 2 d))
  where
    thus : (d : Data) (session : Text) (o : Option Asking) → HasReport d (o >>= λ asking. Some (Ask session asking))
    thus d session None = tt
    thus d session (Some asking) = tt

pub loaded_part : (d : Data) (name : Text) (r : Data) → Some (Load name r) ≡ line_of d → at 2 d ≡ Some r
unfolding line_of
loaded_part d name r is =
    subst (HasReport d) (sym is) (then (HasReport d) (others d) (text_at 0 d) _
    (λ word. of_word (HasReport d) (others d) d word (of_load d) (λ v named. of_asking d v)))

load_told : (state after : State) (d r report : Data) (key name text : Text) → Some (Load key r) ≡ line_of d → name ≡ key → Some report ≡ at 2 d
    → answered state (load_outcome state name (report_in state.table report)) ≡ (text, after) → value_answer state (Some d) ≡ (text, after)
load_told state after d r report key name text is named part told =
    let same : r ≡ report = ap (λ o. unwrap_or o r) (sym (part ∙ loaded_part d key r is)) in
    ap (λ o. answered state (option_map_or (line_outcome state) o (ReplyNow bad_line_text))) (sym is)
    ∙ (λ i. answered state (load_outcome state (sym named i) (report_in state.table (same i))))
    ∙ told

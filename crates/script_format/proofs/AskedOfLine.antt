-- What a line asks of its session is what is asked by its first text.
use Rattle.std.proofs.Common.{◌≡◌, ◌∙◌, ap, sym, subst, refl, Option, Some, None, option_map, unwrap_or, Result, String}
use Rattle.std.specs.Result.{result_map_both}
use Rattle.std.specs.declared.alloc.Global.{Global}
use Rattle.serde_json.specs.Data.{Data}
use Rattle.filing_model.specs.Histories.History.{Ask as Asks}
use Rattle.filing_model.specs.Common.Text.{Text}
use Rattle.filing_step.specs.declared.step.Step.{Step}
use Rattle.script_format.specs.AskedStep.{AreAsked, IsAsked, asking_in}
use Rattle.script_format.specs.Script.{call_read}
use Rattle.script_format.specs.ScriptLines.{◌>>=◌, Asking, Line, Load, Open, Ask, Commit, Close, Export}
use Rattle.script_format.specs.ScriptLines.{text_at, ends_at, report_part_at, load_of, asking_at, asking_line, asking_of_verb, line_of, line_of_word}
use Rattle.script_format.specs.Verbs.{verb_of_word}
use Rattle.script_format.specs.declared.line.Verb.{Verb}
use Rattle.script_format.proofs.LinesByWord.{HoldsOfOthers, of_word, then}

-- a line that asks something has it in the value
abbrev HasAsking : Data → Option Line → Type 0
HasAsking d None = Unit {0}
HasAsking d (Some (Load name r)) = Unit {0}
HasAsking d (Some (Open session kind)) = Unit {0}
HasAsking d (Some (Ask session asking)) = asking_in 2 d ≡ Some asking
HasAsking d (Some (Commit session)) = Unit {0}
HasAsking d (Some (Close session)) = Unit {0}
HasAsking d (Some (Export name)) = Unit {0}

others : (d : Data) → HoldsOfOthers (HasAsking d)
others d = record { none = tt; opens = λ session kind. tt; commit = λ session. tt; close = λ session. tt; export = λ name. tt }

of_load : (d : Data) → HasAsking d (load_of d)
of_load d =
    then (HasAsking d) (others d) (text_at 1 d) _ (λ name.
    then (HasAsking d) (others d) (report_part_at 2 d) _ (λ report.
    then (HasAsking d) (others d) (ends_at 3 d) _ (λ ended. tt)))

asks : (d : Data) (word session : Text) (v : Verb) (o : Option Asking) → text_at 0 d ≡ Some word → verb_of_word word ≡ Some v
    → asking_of_verb v 2 d ≡ o → HasAsking d (o >>= λ asking. Some (Ask session asking))
asks d word session v None first named is = tt
asks d word session v (Some asking) first named is =
    ap (λ o. o >>= λ word. asking_at word 2 d) first ∙ ap (λ o. o >>= λ v. asking_of_verb v 2 d) named ∙ is

of_asking : (d : Data) (word : Text) → text_at 0 d ≡ Some word → (v : Verb) → verb_of_word word ≡ Some v → HasAsking d (asking_line v d)
of_asking d word first v named =
    then (HasAsking d) (others d) (text_at 1 d) _ (λ session. asks d word session v (asking_of_verb v 2 d) first named refl)

by_first : (d : Data) (o : Option Text) → text_at 0 d ≡ o → HasAsking d (o >>= λ word. line_of_word word d)
by_first d None first = tt
by_first d (Some word) first = of_word (HasAsking d) (others d) d word (of_load d) (of_asking d word first)

pub asked_part : (d : Data) (session : Text) (asking : Asking) → Some (Ask session asking) ≡ line_of d → asking_in 2 d ≡ Some asking
unfolding line_of
asked_part d session asking is = subst (HasAsking d) (sym is) (by_first d (text_at 0 d) refl)

-- what was made of it is a step, or a reply, of what is asked
pub period_filter_of : (asked : Result Step (String Global)) (asking : Asking) (o : Option Asking) → o ≡ Some asking → AreAsked (Some asked) o
    → IsAsked asked (call_read asking)
period_filter_of asked asking o is are =
    ap (λ r. unwrap_or r (result_map_both Asks (λ text. text) (call_read asking)))
    (are ∙ ap (option_map (λ a. result_map_both Asks (λ text. text) (call_read a))) is)

-- The identifiers that are told stay among those of a line.
use Rattle.std.proofs.Common.{◌≡◌, true, codes, List, Option, Some, Result, Ok, Err, OnOk, is_some, option_and_then, unwrap_or, ap, subst, sym, true≢false}
use Rattle.serde_json.specs.Data.{Data, null, boolean, number, string, array, object, Members}
use Rattle.serde_json.specs.Find.{as_object, get, get_member}
use Rattle.filing_model.specs.Common.Text.{Text}
use Rattle.filing_model.proofs.Common.Texts.{text_eq-refl}
use Rattle.script_format.specs.ScriptLines as model
use Rattle.script_reasons.specs.ToldFacts.{KeepsTo, are_told_of, has_fact, line_has_fact}
use Rattle.script_reasons.specs.declared.reasons.Reason.{Reason}

-- what follows from a fact on an answer holds of the same answer
pub on_ok : {A E P Q : Type 0} (r : Result A E) → (P → Q) → OnOk r P → OnOk r Q
on_ok (Ok x) f h = f h
on_ok (Err e) f h = tt

-- first they stayed among those of the report, then among the members of its facts
pub facts_kept : (report : Data) (ms : Members) (before between after : List Reason)
    → get (codes "facts") report ≡ Some (object ms) → KeepsTo (λ id. has_fact id report) before between
    → KeepsTo (λ id. is_some (get_member id ms)) between after → KeepsTo (λ id. has_fact id report) before after
facts_kept report ms before between after e first later h =
    subst (λ (o : Option Data). are_told_of (λ id. is_some (option_and_then (get id) o)) after ≡ true) (sym e)
    (later (subst (λ (o : Option Data). are_told_of (λ id. is_some (option_and_then (get id) o)) between ≡ true) e (first h)))

-- a value with members is their object
pub object_is : (d : Data) (ms : Members) → as_object d ≡ Some ms → d ≡ object ms
object_is null ms e = absurd (true≢false (sym (ap is_some e)))
object_is (boolean b) ms e = absurd (true≢false (sym (ap is_some e)))
object_is (number n) ms e = absurd (true≢false (sym (ap is_some e)))
object_is (string s) ms e = absurd (true≢false (sym (ap is_some e)))
object_is (array ds) ms e = absurd (true≢false (sym (ap is_some e)))
object_is (object ns) ms e = ap (λ o. object (unwrap_or o ns)) e

-- an addition has the fact of its identifier
pub is_its_own : (id : Text) (line : model.Line) (session report : Text) (fact : Data)
    → line ≡ model.Ask session (model.Add report id fact) → line_has_fact id (Some line) ≡ true
is_its_own id line session report fact e =
    subst (λ (l : model.Line). line_has_fact id (Some l) ≡ true) (sym e) (text_eq-refl id)

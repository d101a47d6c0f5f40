-- Where the dimensions of a cell and the fact of an addition stand in the array that asks.
use Rattle.std.proofs.Common.{◌≡◌, ◌∙◌, ap, sym, subst, refl, ℕ, ◌+◌, true, false, cond, Option, Some, None}
use Rattle.std.proofs.Common.{IsSome, is_some, unwrap_or, option_map, option_and_then, Result, String}
use Rattle.std.specs.declared.alloc.Global.{Global}
use Rattle.std.specs.Result.{result_map_both}
use Rattle.serde_json.specs.Data.{Data}
use Rattle.serde_json.specs.Find.{at, as_object}
use Rattle.filing_model.specs.Common.Text.{Text}
use Rattle.filing_model.specs.Reading.ReadReport.{allowed_of_word}
use Rattle.filing_model.specs.Histories.History.{Ask}
use Rattle.filing_step.specs.declared.step.Step.{Step}
use Rattle.script_format.specs.AskedStep.{AreAsked, IsAsked, asking_in}
use Rattle.script_format.specs.Script.{call_read}
use Rattle.script_format.specs.ScriptLines.{◌>>=◌, Asking, Cell, Add, text_at}
use Rattle.script_format.specs.ScriptLines.{object_at, asked_at, nullable_at, limit_at, ends_at, get_at, cell_at}
use Rattle.script_format.specs.ScriptLines.{page_at, add_at, remove_at, declared_at, declare_at, asking_at, asking_of_verb}
use Rattle.script_format.specs.Verbs.{verb_of_word}
use Rattle.script_format.specs.declared.line.Verb.{Verb}
use Rattle.script_format.specs.declared.line.Verb.TheVariants as verb

-- behind a report, or behind a report and an identifier
abbrev HasPart : ℕ → Data → Option Asking → Type 0
HasPart place d (Some (Cell report dims)) = at (place + 1) d ≡ Some dims
HasPart place d (Some (Add report id fact)) = at (place + 2) d ≡ Some fact
HasPart place d _ = Unit {0}

then : {A : Type 0} (place : ℕ) (d : Data) (first : Option A) (second : A → Option Asking) → ((x : A) → HasPart place d (second x))
    → HasPart place d (first >>= second)
then place d None second h = tt
then place d (Some x) second h = h x

-- with the object that stands at a place
with_object : (place : ℕ) (d : Data) (n : ℕ) (second : Data → Option Asking)
    → ((part : Data) → at n d ≡ Some part → HasPart place d (second part)) → HasPart place d (object_at n d >>= second)
with_object place d n second h =
    elim (at n d) as (λ o. at n d ≡ o → HasPart place d ((o >>= λ part. cond (is_some (as_object part)) (Some part) None) >>= second)) [
      | None ↦ λ _. tt
      | Some part ↦ λ there. elim (is_some (as_object part)) as (λ b. HasPart place d (cond b (Some part) None >>= second)) [
        | true ↦ h part there
        | false ↦ tt
      ]
    ] refl

of_get : (place : ℕ) (d : Data) → HasPart place d (get_at place d)
of_get place d =
    then place d (text_at place d) _ (λ report. then place d (text_at (place + 1) d) _ (λ id. then place d (ends_at (place + 2) d) _ (λ ended. tt)))

of_cell : (place : ℕ) (d : Data) → HasPart place d (cell_at place d)
of_cell place d =
    then place d (text_at place d) _ (λ report.
    with_object place d (place + 1) _ (λ dims there. then place d (ends_at (place + 2) d) _ (λ ended. there)))

of_page : (place : ℕ) (d : Data) → HasPart place d (page_at place d)
of_page place d =
    then place d (text_at place d) _ (λ report. then place d (text_at (place + 1) d) _ (λ concept.
    then place d (asked_at (place + 2) d) _ (λ period. then place d (nullable_at (place + 3) d) _ (λ after.
    then place d (limit_at (place + 4) d) _ (λ limit. then place d (ends_at (place + 5) d) _ (λ ended. tt))))))

of_add : (place : ℕ) (d : Data) → HasPart place d (add_at place d)
of_add place d =
    then place d (text_at place d) _ (λ report. then place d (text_at (place + 1) d) _ (λ id.
    with_object place d (place + 2) _ (λ fact there. then place d (ends_at (place + 3) d) _ (λ ended. there))))

of_remove : (place : ℕ) (d : Data) → HasPart place d (remove_at place d)
of_remove place d =
    then place d (text_at place d) _ (λ report. then place d (text_at (place + 1) d) _ (λ id. then place d (ends_at (place + 2) d) _ (λ ended. tt)))

of_declared : (place : ℕ) (d : Data) → HasPart place d (declared_at place d)
of_declared place d = then place d (text_at place d) _ (λ report. then place d (ends_at (place + 1) d) _ (λ ended. tt))

of_declare : (place : ℕ) (d : Data) → HasPart place d (declare_at place d)
of_declare place d =
    then place d (text_at place d) _ (λ report. then place d (option_and_then allowed_of_word (text_at (place + 1) d)) _ (λ allowed.
    then place d (ends_at (place + 2) d) _ (λ ended. tt)))

of_verb : (v : Verb) (place : ℕ) (d : Data) → HasPart place d (asking_of_verb v place d)
of_verb verb.Get place d = of_get place d
of_verb verb.Cell place d = of_cell place d
of_verb verb.Page place d = of_page place d
of_verb verb.Add place d = of_add place d
of_verb verb.Remove place d = of_remove place d
of_verb verb.Declared place d = of_declared place d
of_verb verb.Declare place d = of_declare place d
of_verb verb.Load place d = tt
of_verb verb.Open place d = tt
of_verb verb.Commit place d = tt
of_verb verb.Close place d = tt
of_verb verb.Export place d = tt

of_word : (word : Text) (place : ℕ) (d : Data) → HasPart place d (asking_at word place d)
of_word word place d = then place d (verb_of_word word) _ (λ v. of_verb v place d)

cell_part : (word : Text) (place : ℕ) (d : Data) (report : Text) (dims : Data)
    → Some (Cell report dims) ≡ asking_at word place d → at (place + 1) d ≡ Some dims
cell_part word place d report dims is = subst (HasPart place d) (sym is) (of_word word place d)

fact_part : (word : Text) (place : ℕ) (d : Data) (report id : Text) (fact : Data)
    → Some (Add report id fact) ≡ asking_at word place d → at (place + 2) d ≡ Some fact
fact_part word place d report id fact is = subst (HasPart place d) (sym is) (of_word word place d)

-- so they can be taken out of it
pub cell_has_part : (word : Text) (place : ℕ) (d : Data) (report : Text) (dims : Data)
    → Some (Cell report dims) ≡ asking_at word place d → IsSome (at (place + 1) d)
cell_has_part word place d report dims is = subst IsSome (sym (cell_part word place d report dims is)) refl

pub addition_has_part : (word : Text) (place : ℕ) (d : Data) (report id : Text) (fact : Data)
    → Some (Add report id fact) ≡ asking_at word place d → IsSome (at (place + 2) d)
addition_has_part word place d report id fact is = subst IsSome (sym (fact_part word place d report id fact is)) refl

-- what is made of the asking by this word is made of what the array asks
of_first : (place : ℕ) (d : Data) (asked : Result Step (String Global)) (word : Text) (asking made : Asking)
    → Some word ≡ text_at 0 d → Some asking ≡ asking_at word place d → made ≡ asking → IsAsked asked (call_read made)
    → AreAsked (Some asked) (asking_in place d)
of_first place d asked word asking made named is same makes =
    ap (λ r. Some r) makes
    ∙ ap (λ a. Some (result_map_both Ask (λ text. text) (call_read a))) same
    ∙ ap (option_map (λ a. result_map_both Ask (λ text. text) (call_read a)))
    (is ∙ ap (λ first. first >>= λ w. asking_at w place d) named)

-- so of dimensions that were taken out
pub cell_is_asked : (place : ℕ) (d : Data) (asked : Result Step (String Global)) (word report own : Text) (dims part : Data)
    → Some word ≡ text_at 0 d → Some (Cell report dims) ≡ asking_at word place d → own ≡ report → Some part ≡ at (place + 1) d
    → IsAsked asked (call_read (Cell own part)) → AreAsked (Some asked) (asking_in place d)
cell_is_asked place d asked word report own dims part named is owned taken makes =
    let same : part ≡ dims = ap (λ o. unwrap_or o part) (taken ∙ cell_part word place d report dims is) in
    of_first place d asked word (Cell report dims) (Cell own part) named is (λ i. Cell (owned i) (same i)) makes

-- and of a fact
pub addition_is_asked : (place : ℕ) (d : Data) (asked : Result Step (String Global)) (word report id own own_id : Text) (fact part : Data)
    → Some word ≡ text_at 0 d → Some (Add report id fact) ≡ asking_at word place d → own ≡ report → own_id ≡ id
    → Some part ≡ at (place + 2) d → IsAsked asked (call_read (Add own own_id part)) → AreAsked (Some asked) (asking_in place d)
addition_is_asked place d asked word report id own own_id fact part named is owned owned_id taken makes =
    let same : part ≡ fact = ap (λ o. unwrap_or o part) (taken ∙ fact_part word place d report id fact is) in
    of_first place d asked word (Add report id fact) (Add own own_id part) named is
    (λ i. Add (owned i) (owned_id i) (same i)) makes

-- A loop over the members of an object that reads them one by one.
use Rattle.std.proofs.Common.{◌≡◌, ◌∙◌, ap, sym, List, [], ◌∷◌, ◌++◌, map, Option, None, Some, Result, Ok, String, string_bytes}
use Rattle.std.proofs.lemmas.List.{append-nil, map-append}
use Rattle.std.specs.declared.alloc.Global.{Global}
use Rattle.serde_json.specs.Data.{Data}
use Rattle.serde_json.specs.View.{view, members_view}
use Rattle.serde_json.specs.declared.value.Value.{Value}
use Rattle.filing_model.specs.Common.Text.{Text}
use Rattle.filing_model.specs.Common.Try.{each, with_front, Fails}
use Rattle.filing_model.specs.Reading.JsonText.{pairs}
use Rattle.filing_model.proofs.Reading.Tries.{each_more, each_refused}

abbrev pub Entry : Type 0
Entry = String Global × Value

-- what was read, as it is seen, in front of what f reads of the rest
abbrev pub read_on : {P X E : Type 0} → (P → X) → (Text × Data → Result X E) → List P → List Entry → Result (List X) E
read_on seen f before left = with_front (map seen before) (each f (pairs (members_view left)))

pub read_turn : {P X E : Type 0} (seen : P → X) (f : Text × Data → Result X E) (left rest : List Entry)
    (k : String Global) (v : Value) (before later : List P) (p : P) (goal : Result (List X) E)
    → left ≡ (k, v) ∷ rest → later ≡ before ++ p ∷ [] → f (string_bytes k, view v) ≡ Ok (seen p)
    → read_on seen f before left ≡ goal → read_on seen f later rest ≡ goal
read_turn seen f left rest k v before later p goal left_is later_is read h =
    ap (λ ps. with_front ps (each f (pairs (members_view rest)))) (ap (λ ps. map seen ps) later_is ∙ map-append seen before (p ∷ []))
    ∙ each_more f (map seen before) (string_bytes k, view v) (seen p) (pairs (members_view rest)) read
    ∙ ap (λ es. read_on seen f before es) (sym left_is)
    ∙ h

-- the first member that is refused is the fault of all
pub read_refused : {P X E : Type 0} (seen : P → X) (f : Text × Data → Result X E) (left rest : List Entry)
    (k : String Global) (v : Value) (before : List P) (goal : Result (List X) E) (fault : Option E)
    → left ≡ (k, v) ∷ rest → Fails fault (f (string_bytes k, view v))
    → read_on seen f before left ≡ goal → Fails fault goal
read_refused seen f left rest k v before goal None left_is fails h = tt
read_refused seen f left rest k v before goal (Some e) left_is fails h =
    sym h ∙ ap (λ es. read_on seen f before es) left_is
    ∙ each_refused f (map seen before) (string_bytes k, view v) e (pairs (members_view rest)) fails

-- nothing is left
pub read_all : {P X E : Type 0} (seen : P → X) (f : Text × Data → Result X E) (left : List Entry) (before : List P) (goal : Result (List X) E)
    → left ≡ [] → read_on seen f before left ≡ goal → goal ≡ Ok (map seen before)
read_all seen f left before goal left_is h =
    sym h ∙ ap (λ es. read_on seen f before es) left_is ∙ ap (λ xs. Ok xs) (append-nil (map seen before))

-- Facts that are read one by one into a list.
use Rattle.std.proofs.Common.{◌≡◌, ◌∙◌, ap, sym, subst, refl, Bool, true, ◌&&◌, T, List, [], ◌∷◌, ◌++◌, Option, None, Some, option_map, is_lt, Result, Ok, Err, String}
use Rattle.std.proofs.lemmas.List.{map-append}
use Rattle.std.specs.List.{list_all}
use Rattle.std.specs.Arc.{arc_value}
use Rattle.std.specs.declared.sync.Arc.{Arc}
use Rattle.std.specs.declared.alloc.Global.{Global}
use Rattle.std.specs.FinMap.Entries.{is_sorted, below_all}
use Rattle.serde_json.specs.Data.{Data}
use Rattle.filing_model.specs.Common.Text.{Text, text_cmp}
use Rattle.filing_model.specs.Common.Try.{◌>>=◌, each, map_err, Fails}
use Rattle.filing_model.specs.Oim.Dimensions.{AreDims}
use Rattle.filing_model.specs.Oim.Facts.{Fact, Names, RawFact, fit_of}
use Rattle.filing_model.specs.Reading.Fitted.{IsFitted}
use Rattle.filing_model.specs.Reading.ReadFact.{raw_fact_of}
use Rattle.filing_model.specs.Reading.ReadReport.{ReportFault, BadFact, entry_of}
use Rattle.filing_model.specs.declared.faults.FactFault.{FactFault}
use Rattle.filing_model.specs.declared.faults.Trouble.{Trouble}
use Rattle.filing_model.specs.declared.faults.Trouble.TheVariants.{Fit}
use Rattle.filing_model.proofs.Common.MapsOfLists.{names}
use Rattle.oim_report.specs.Parts.{fact_view, facts_view}
use Rattle.oim_report.specs.Readable.{AreFitted}
use Rattle.oim_report.specs.Readings.{fitted_of}

-- a fact under its identifier, or its fault
abbrev under : Text → Result Fact FactFault → Result (Text × Fact) ReportFault
under id r = map_err (λ fault. BadFact id (Fit fault)) r >>= λ fact. Ok (id, fact)

-- ---- a fact that is refused

refused_under : (id : Text) (r : Result Fact FactFault) (t : Trouble) → map_err Fit r ≡ Err t → under id r ≡ Err (BadFact id t)
refused_under id (Ok fact) t h = cc
refused_under id (Err fault) t h = let same : Fit fault ≡ t = cc in ap (λ t. Err (BadFact id t)) same

entry_of-read : (names : Names) (id : Text) (d : Data) (raw : RawFact) → raw_fact_of d ≡ Ok raw → entry_of names (id, d) ≡ under id (fit_of names raw)
entry_of-read names id d raw h = ap (λ r. map_err (BadFact id) r >>= λ raw. under id (fit_of names raw)) h

-- the fault of a fact that does not fit
pub entry_refused : (names : Names) (id : Text) (d : Data) (raw : RawFact) (trouble : Option Trouble) (fault : Option ReportFault)
    → raw_fact_of d ≡ Ok raw → Fails trouble (fitted_of names raw) → fault ≡ option_map (BadFact id) trouble → Fails fault (entry_of names (id, d))
entry_refused names id d raw None fault read fails h = subst (λ f. Fails f (entry_of names (id, d))) (sym h) tt
entry_refused names id d raw (Some t) fault read fails h =
    subst (λ f. Fails f (entry_of names (id, d))) (sym h) (entry_of-read names id d raw read ∙ refused_under id (fit_of names raw) t fails)

-- ---- each fact that was read is fitted

fitted_grows : (names : Names) (es : List (Text × Fact)) (e : Text × Fact) → AreFitted names es → AreDims e.1.dims
    → IsFitted names e.1 → AreFitted names (es ++ e ∷ [])
fitted_grows names [] e h dims fitted = (dims, fitted, tt)
fitted_grows names (f ∷ es) e h dims fitted = (h.0, h.1, fitted_grows names es e h.2 dims fitted)

pub fitted_turn : (names : Names) (before later : List (String Global × Arc Fact Global)) (p : String Global × Arc Fact Global)
    → later ≡ before ++ p ∷ [] → AreDims (arc_value p.1).dims → IsFitted names (arc_value p.1)
    → AreFitted names (facts_view before) → AreFitted names (facts_view later)
fitted_turn names before later p later_is dims fitted h =
    subst (AreFitted names) (sym (ap facts_view later_is ∙ map-append fact_view before (p ∷ [])))
    (fitted_grows names (facts_view before) (fact_view p) h dims fitted)

-- ---- facts stand in the order of their members

abbrev below : Text → List Text → Bool
below k ks = list_all (λ q. is_lt (text_cmp k q)) ks

abbrev rise : List Text → Bool
rise [] = true
rise (k ∷ ks) = below k ks && rise ks

below_names : {X : Type 0} (k : Text) (es : List (Text × X)) → below_all text_cmp k es ≡ below k (names es)
below_names k [] = refl
below_names k (e ∷ es) = ap (λ b. is_lt (text_cmp k e.0) && b) (below_names k es)

rise_names : {X : Type 0} (es : List (Text × X)) → is_sorted text_cmp es ≡ rise (names es)
rise_names [] = refl
rise_names (e ∷ es) = λ i. below_names e.0 es i && rise_names es i

-- a reading that keeps the name
abbrev KeepsName : {X E : Type 0} → (Text × Data → Result (Text × X) E) → Type 0
KeepsName {X} f = (m : Text × Data) (e : Text × X) → f m ≡ Ok e → e.0 ≡ m.0

names_stay : {X E : Type 0} (f : Text × Data → Result (Text × X) E) → KeepsName f
    → (ms : List (Text × Data)) (es : List (Text × X)) → each f ms ≡ Ok es → names es ≡ names ms
names_stay f keeps [] es h = let none : es ≡ [] = cc in ap names none
names_stay {X} f keeps (m ∷ ms) es h =
    elim (f m) as (λ r. f m ≡ r → (r >>= λ y. each f ms >>= λ ys. Ok (y ∷ ys)) ≡ Ok es → names es ≡ names (m ∷ ms)) [
      | Err fault ↦ λ _ h. cc
      | Ok y ↦ λ first h. elim (each f ms) as (λ r. each f ms ≡ r → (r >>= λ ys. Ok (y ∷ ys)) ≡ Ok es → names es ≡ names (m ∷ ms)) [
        | Err fault ↦ λ _ h. cc
        | Ok ys ↦ λ rest h.
            let all : es ≡ y ∷ ys = cc in
            ap names all ∙ (λ i. keeps m y first i ∷ names_stay f keeps ms ys rest i)
      ] refl h
    ] refl h

entry_of-name : (names : Names) → KeepsName (entry_of names)
entry_of-name names m e h =
    elim (raw_fact_of m.1) as (λ r. (map_err (BadFact m.0) r >>= λ raw. under m.0 (fit_of names raw)) ≡ Ok e → e.0 ≡ m.0) [
      | Err fault ↦ λ h. cc
      | Ok raw ↦ λ h. elim (fit_of names raw) as (λ r. under m.0 r ≡ Ok e → e.0 ≡ m.0) [
        | Err fault ↦ λ h. cc
        | Ok fact ↦ λ h. let here : e ≡ (m.0, fact) = cc in ap (λ p. p.0) here
      ] h
    ] h

pub sorted_facts : (names : Names) (ms : List (Text × Data)) (es : List (Text × Fact))
    → each (entry_of names) ms ≡ Ok es → T (is_sorted text_cmp ms) → T (is_sorted text_cmp es)
sorted_facts table ms es h sorted =
    subst T (rise_names ms ∙ ap rise (sym (names_stay (entry_of table) (entry_of-name table) ms es h)) ∙ sym (rise_names es)) sorted

-- Faults that are told one behind another.
use Rattle.std.proofs.Common.{◌≡◌, ◌∙◌, ap, sym, subst, refl, List, [], ◌∷◌, ◌++◌, map, Option, None, Some, is_some, true, true≢false, Result, Ok}
use Rattle.std.proofs.lemmas.List.{append-nil, append_assoc, map-append}
use Rattle.std.specs.List.{AllByRecursion}
use Rattle.filing_model.specs.Common.Try.{Fails}
use Rattle.filing_model.specs.Reading.ReadReport.{ReportFault}
use Rattle.report_inspection.specs.EachFault.{fault_in}
use Rattle.report_inspection.specs.Inspections.{AddsFaults, AreFaults, HasReasons, TellsFault, reading_fault}
use Rattle.report_inspection.specs.declared.fault.Fault.{Fault}

all_more : {X : Type 0} (P : X → Type 0) (xs ys : List X) → AllByRecursion P xs → AllByRecursion P ys → AllByRecursion P (xs ++ ys)
all_more P [] ys h k = k
all_more P (x ∷ xs) ys (h, hs) k = (h, all_more P xs ys hs k)

-- one more
pub one_more : (before after : List Fault) (f : Fault) (x : ReportFault)
    → after ≡ before ++ f ∷ [] → reading_fault f ≡ Some x → HasReasons f → AddsFaults (x ∷ []) before after
one_more before after f x after_is is some earlier h =
    subst (AreFaults (earlier ++ x ∷ [])) (sym after_is) (record {
      are =
          map-append reading_fault before (f ∷ [])
          ∙ (λ i. h.are i ++ is i ∷ [])
          ∙ sym (map-append (λ fault. Some fault) earlier (x ∷ []));
      reasons = all_more HasReasons before (f ∷ []) h.reasons (some, tt);
    })

-- no more
pub no_more : (before : List Fault) → AddsFaults [] before before
no_more before earlier h = subst (λ fs. AreFaults fs before) (sym (append-nil earlier)) h

-- some, and then others
pub then_more : (fs gs : List ReportFault) (a b c : List Fault) → AddsFaults fs a b → AddsFaults gs b c → AddsFaults (fs ++ gs) a c
then_more fs gs a b c h k earlier are =
    subst (λ xs. AreFaults xs c) (append_assoc earlier fs gs) (k (earlier ++ fs) (h earlier are))

-- one that is a fault
pub told_one : (fault : Option ReportFault) (before after : List Fault) (f : Fault) → is_some fault ≡ true
    → after ≡ before ++ f ∷ [] → reading_fault f ≡ fault → HasReasons f → TellsFault fault before after
told_one None before after f some after_is is has = absurd (true≢false (sym some))
told_one (Some x) before after f some after_is is has = one_more before after f x after_is is has

-- the fault of a reading that failed so
pub of_reading : {A : Type 0} (reading : Result A ReportFault) (fault : Option ReportFault) (before after : List Fault)
    → Fails fault reading → TellsFault fault before after → AddsFaults (fault_in reading) before after
of_reading reading None before after fails h = absurd h
of_reading reading (Some x) before after fails h = subst (λ fs. AddsFaults fs before after) (sym (ap fault_in fails)) h

-- none of a reading that gave a value
pub of_value : {A : Type 0} (reading : Result A ReportFault) (x : A) (before : List Fault) → reading ≡ Ok x → AddsFaults (fault_in reading) before before
of_value reading x before is = subst (λ fs. AddsFaults fs before before) (sym (ap fault_in is)) (no_more before)

-- none before the first
pub none_yet : AreFaults [] []
none_yet = record { are = refl; reasons = tt }

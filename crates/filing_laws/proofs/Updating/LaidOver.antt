-- What stands at each place of a repository with a change laid over it, and that repositories with the same reports are one.
use Rattle.std.proofs.Common.{◌≡◌, ◌∙◌, ap, sym, refl, Bool, true, false, cond, T, List, [], ◌∷◌, Option, Some, None, option_map, option_and_then, unwrap_or}
use Rattle.std.specs.Option.{option_map_or}
use Rattle.std.specs.FinMap.Entries.{find, is_sorted, below_all}
use Rattle.filing_model.specs.Common.Text.{Text, text_cmp, text_eq}
use Rattle.filing_model.specs.Oim.Facts.{Fact}
use Rattle.filing_model.specs.Oim.Reports.{Report}
use Rattle.filing_model.specs.Reading.DeclaredValue.{report_declaring}
use Rattle.filing_model.specs.Sessions.Repository.{Repository, report_at, fact_in, fact_at, with_fact, with_report_at, with_fact_at, declaring_at}
use Rattle.filing_model.specs.Sessions.Changes.{ReportChange, Change, no_change, change_in, change_at, declared_in, with_facts}
use Rattle.filing_model.specs.Sessions.Changes.{declaring_if, changed, changed_at, with_changes, laid_over}
use Rattle.filing_model.specs.declared.duplicates.Allowed.{Allowed}
use Rattle.filing_model.proofs.Common.TextMaps.{same_map, get-insert}
use Rattle.filing_model.proofs.Common.Texts.{text_same}
use Rattle.filing_model.proofs.Common.Tests.{second_holds}
use Rattle.filing_laws.proofs.Updating.FirstFound.{none_behind}
use Rattle.filing_laws.proofs.Lists.WithOneFact.{fact_in-with_fact}
use Rattle.filing_laws.proofs.Lists.WithOneValue.{bare, bare_at, bare-with_fact, bare-declaring_if, facts-declaring_if}

-- ---- one report

pub bare-with_facts : (es : List (Text × Option Fact)) (r : Report) → bare (with_facts es r) ≡ bare r
bare-with_facts [] r = refl
bare-with_facts (e ∷ es) r = bare-with_fact (with_facts es r) e.0 e.1 ∙ bare-with_facts es r

pub fact_in-with_facts : (es : List (Text × Option Fact)) (r : Report) (q : Text) → fact_in (with_facts es r) q ≡ unwrap_or (find text_cmp q es) (fact_in r q)
fact_in-with_facts [] r q = refl
fact_in-with_facts (e ∷ es) r q = fact_in-with_fact (with_facts es r) e.0 e.1 q ∙ by (text_eq q e.0) (fact_in-with_facts es r q)
  where
    by : (b : Bool) → fact_in (with_facts es r) q ≡ unwrap_or (find text_cmp q es) (fact_in r q)
        → cond b e.1 (fact_in (with_facts es r) q) ≡ unwrap_or (cond b (Some e.1) (find text_cmp q es)) (fact_in r q)
    by true later = refl
    by false later = later

-- a changed report declares the value, and has the facts of the change laid over its own
pub bare-changed : (change : ReportChange) (r : Report) → bare (changed change r) ≡ declaring_if change.declared (bare r)
bare-changed change r = bare-with_facts change.facts.entries (declaring_if change.declared r) ∙ bare-declaring_if change.declared r

pub fact_in-changed : (change : ReportChange) (r : Report) (q : Text)
    → fact_in (changed change r) q ≡ unwrap_or (find text_cmp q change.facts.entries) (fact_in r q)
fact_in-changed change r q =
    fact_in-with_facts change.facts.entries (declaring_if change.declared r) q
    ∙ ap (unwrap_or (find text_cmp q change.facts.entries)) (facts-declaring_if change.declared r q)

pub reports_same : (r s : Report) → bare r ≡ bare s → ((q : Text) → fact_in r q ≡ fact_in s q) → r ≡ s
reports_same r s heads facts = λ i. record {
  info = (heads i).info;
  names = (heads i).names;
  allowed = (heads i).allowed;
  facts = same_map r.facts s.facts facts i;
}

-- ---- all reports

pub repositories_same : (c d : Repository) → c.count ≡ d.count → ((m : Text) → report_at c m ≡ report_at d m) → c ≡ d
repositories_same c d count same = λ i. record { count = count i; reports = same_map c.reports d.reports same i }

report_at-changed_at : (c : Repository) (e : Text × ReportChange) (m : Text)
    → report_at (changed_at c e) m ≡ cond (text_eq m e.0) (option_map (changed e.1) (report_at c m)) (report_at c m)
report_at-changed_at c e m = by (report_at c e.0) refl (text_eq m e.0) refl
  where
    by : (o : Option Report) → report_at c e.0 ≡ o → (b : Bool) → text_eq m e.0 ≡ b
        → report_at (option_map_or (λ r. with_report_at c e.0 (changed e.1 r)) o c) m ≡ cond b (option_map (changed e.1) (report_at c m)) (report_at c m)
    by None is true same =
        let gone : report_at c m ≡ None = ap (report_at c) (text_same m e.0 same) ∙ is in
        gone ∙ sym (ap (option_map (changed e.1)) gone)
    by None is false other = refl
    by (Some r) is true same =
        get-insert c.reports e.0 (changed e.1 r) m
        ∙ ap (λ b. cond b (Some (changed e.1 r)) (report_at c m)) same
        ∙ sym (ap (option_map (changed e.1)) (ap (report_at c) (text_same m e.0 same) ∙ is))
    by (Some r) is false other =
        get-insert c.reports e.0 (changed e.1 r) m
        ∙ ap (λ b. cond b (Some (changed e.1 r)) (report_at c m)) other

pub unchanged : (o : Option Report) → option_map (changed no_change) o ≡ o
unchanged None = refl
unchanged (Some r) = refl

abbrev pub change_of : List (Text × ReportChange) → Text → ReportChange
change_of es m = unwrap_or (find text_cmp m es) no_change

report_at-with_changes : (es : List (Text × ReportChange)) (c : Repository) (m : Text) → T (is_sorted text_cmp es)
    → report_at (with_changes es c) m ≡ option_map (changed (change_of es m)) (report_at c m)
report_at-with_changes [] c m sorted = sym (unchanged (report_at c m))
report_at-with_changes (e ∷ es) c m sorted =
    report_at-changed_at (with_changes es c) e m
    ∙ by (text_eq m e.0) refl (report_at-with_changes es c m (second_holds (below_all text_cmp e.0 es) (is_sorted text_cmp es) sorted))
  where
    by : (b : Bool) → text_eq m e.0 ≡ b → report_at (with_changes es c) m ≡ option_map (changed (change_of es m)) (report_at c m)
        → cond b (option_map (changed e.1) (report_at (with_changes es c) m)) (report_at (with_changes es c) m)
        ≡ option_map (changed (unwrap_or (cond b (Some e.1) (find text_cmp m es)) no_change)) (report_at c m)
    by true same later =
        ap (option_map (changed e.1))
        (later
        ∙ ap (λ (o : Option ReportChange). option_map (changed (unwrap_or o no_change)) (report_at c m)) (none_behind m e es sorted same)
        ∙ unchanged (report_at c m))
    by false other later = later

-- each report that is there has the change of it
pub report_at-laid_over : (change : Change) (c : Repository) (m : Text)
    → report_at (laid_over change c) m ≡ option_map (changed (change_in change m)) (report_at c m)
report_at-laid_over change c m = report_at-with_changes change.entries c m change.sorted

count-changed_at : (c : Repository) (e : Text × ReportChange) → (changed_at c e).count ≡ c.count
count-changed_at c e = by (report_at c e.0)
  where
    by : (o : Option Report) → (option_map_or (λ r. with_report_at c e.0 (changed e.1 r)) o c).count ≡ c.count
    by None = refl
    by (Some r) = refl

count-with_changes : (es : List (Text × ReportChange)) (c : Repository) → (with_changes es c).count ≡ c.count
count-with_changes [] c = refl
count-with_changes (e ∷ es) c = count-changed_at (with_changes es c) e ∙ count-with_changes es c

pub count-laid_over : (change : Change) (c : Repository) → (laid_over change c).count ≡ c.count
count-laid_over change c = count-with_changes change.entries c

-- a repository is what a change makes of another where its reports are the other's with the declared values and its facts the changed ones
pub laid_over_makes : (change : Change) (c d : Repository) → c.count ≡ d.count
    → ((m : Text) → bare_at d m ≡ option_map (declaring_if (declared_in change m)) (bare_at c m))
    → ((m q : Text) → unwrap_or (change_at change m q) (fact_at c m q) ≡ fact_at d m q) → laid_over change c ≡ d
laid_over_makes change c d count heads facts = repositories_same (laid_over change c) d (count-laid_over change c ∙ count)
    (λ m. report_at-laid_over change c m ∙ by m (report_at c m) (report_at d m) refl refl (heads m))
  where
    by : (m : Text) (o p : Option Report) → report_at c m ≡ o → report_at d m ≡ p
        → option_map bare p ≡ option_map (declaring_if (declared_in change m)) (option_map bare o) → option_map (changed (change_in change m)) o ≡ p
    by m None None there made heads = refl
    by m None (Some r) there made heads = let apart : Some (bare r) ≡ None = heads in cc
    by m (Some r) None there made heads = let apart : None ≡ Some (declaring_if (declared_in change m) (bare r)) = heads in cc
    by m (Some r) (Some x) there made heads =
        let same : bare x ≡ declaring_if (declared_in change m) (bare r) = cc in
        ap Some (reports_same (changed (change_in change m) r) x (bare-changed (change_in change m) r ∙ sym same) (λ q.
        fact_in-changed (change_in change m) r q
        ∙ ap (λ o. unwrap_or (change_at change m q) (option_and_then (λ r. fact_in r q) o)) (sym there)
        ∙ facts m q
        ∙ ap (option_and_then (λ r. fact_in r q)) made))

-- ---- one fact put or removed, and one value declared

pub count-with_fact_at : (c : Repository) (name id : Text) (fact : Option Fact) → (with_fact_at c name id fact).count ≡ c.count
count-with_fact_at c name id fact = by (report_at c name)
  where
    by : (o : Option Report) → (option_map_or (λ r. with_report_at c name (with_fact r id fact)) o c).count ≡ c.count
    by None = refl
    by (Some r) = refl

pub count-declaring_at : (c : Repository) (name : Text) (value : Allowed) → (declaring_at c name value).count ≡ c.count
count-declaring_at c name value = by (report_at c name)
  where
    by : (o : Option Report) → (option_map_or (λ r. with_report_at c name (report_declaring r value)) o c).count ≡ c.count
    by None = refl
    by (Some r) = refl

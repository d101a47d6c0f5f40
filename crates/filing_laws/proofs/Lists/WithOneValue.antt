-- What stands at each place of a repository in which a fact was put or a value declared: all of a report but its facts, and its facts.
use Rattle.std.proofs.Common.{◌≡◌, ◌∙◌, ap, sym, refl, Bool, true, false, cond, List, [], ◌∷◌, Option, Some, None, is_some, option_map}
use Rattle.std.proofs.Common.{option_and_then, true≢false}
use Rattle.std.specs.Option.{option_map_or, option_or}
use Rattle.filing_model.specs.Common.Text.{Text, text_eq}
use Rattle.filing_model.specs.Common.TextMap.{empty}
use Rattle.filing_model.specs.Oim.Facts.{Fact}
use Rattle.filing_model.specs.Oim.Reports.{Report}
use Rattle.filing_model.specs.Reading.DeclaredValue.{report_declaring}
use Rattle.filing_model.specs.Sessions.Repository.{Repository, report_at, fact_in, fact_at, with_fact, with_report_at, with_fact_at, declaring_at}
use Rattle.filing_model.specs.Sessions.Changes.{declaring_if}
use Rattle.filing_model.specs.declared.duplicates.Allowed.{Allowed}
use Rattle.filing_model.proofs.Common.Texts.{text_same}
use Rattle.filing_model.proofs.Common.TextMaps.{get-insert}
use Rattle.filing_model.proofs.Reading.DeclaredValues.{set_twice}
use Rattle.filing_laws.proofs.Lists.WithOneFact.{names_at, report_at-with_fact_at}

-- ---- all of a report but its facts

abbrev pub bare : Report → Report
bare r = record r { facts = empty }

abbrev pub bare_at : Repository → Text → Option Report
bare_at c name = option_map bare (report_at c name)

-- the declared value of a report, where it is there
abbrev pub value_at : Repository → Text → Option Allowed
value_at c name = option_map (λ r. r.allowed) (report_at c name)

pub bare-with_fact : (r : Report) (id : Text) (fact : Option Fact) → bare (with_fact r id fact) ≡ bare r
bare-with_fact r id None = refl
bare-with_fact r id (Some fact) = refl

-- names and values are those of the bare report
pub names_of_bare : (c : Repository) (m : Text) → names_at c m ≡ option_map (λ (r : Report). r.names) (bare_at c m)
names_of_bare c m = by (report_at c m)
  where
    by : (o : Option Report) → option_map (λ (r : Report). r.names) o ≡ option_map (λ (r : Report). r.names) (option_map bare o)
    by None = refl
    by (Some r) = refl

pub value_of_bare : (c : Repository) (m : Text) → value_at c m ≡ option_map (λ (r : Report). r.allowed) (bare_at c m)
value_of_bare c m = by (report_at c m)
  where
    by : (o : Option Report) → option_map (λ (r : Report). r.allowed) o ≡ option_map (λ (r : Report). r.allowed) (option_map bare o)
    by None = refl
    by (Some r) = refl

-- ---- a declared value

-- the value, where it is declared for this report
abbrev pub value_for : Text → Option (Text × Allowed) → Option Allowed
value_for m None = None
value_for m (Some v) = cond (text_eq m v.0) (Some v.1) None

-- the last value that is declared for this report
abbrev pub last_value : Text → List (Text × Allowed) → Option Allowed
last_value m [] = None
last_value m (v ∷ vs) = option_or (last_value m vs) (value_for m (Some v))

pub or_none : (o : Option Allowed) → option_or o None ≡ o
or_none None = refl
or_none (Some value) = refl

pub bare-declaring_if : (value : Option Allowed) (r : Report) → bare (declaring_if value r) ≡ declaring_if value (bare r)
bare-declaring_if None r = refl
bare-declaring_if (Some value) r = refl

pub names-declaring_if : (value : Option Allowed) (r : Report) → (declaring_if value r).names ≡ r.names
names-declaring_if None r = refl
names-declaring_if (Some value) r = refl

pub facts-declaring_if : (value : Option Allowed) (r : Report) (q : Text) → fact_in (declaring_if value r) q ≡ fact_in r q
facts-declaring_if None r q = refl
facts-declaring_if (Some value) r q = refl

-- of two values declared one after the other the last counts
pub declaring_twice : (first last : Option Allowed) (r : Report) → declaring_if last (declaring_if first r) ≡ declaring_if (option_or last first) r
declaring_twice first None r = refl
declaring_twice None (Some last) r = refl
declaring_twice (Some first) (Some last) r = ap (λ info. record r { info = info; allowed = last }) (set_twice r.info first last)

pub nothing_declared : (o : Option Report) → option_map (declaring_if None) o ≡ o
nothing_declared None = refl
nothing_declared (Some r) = refl

-- ---- repositories

pub report_at-declaring_at : (c : Repository) (name : Text) (value : Allowed) (r : Report) (m : Text) → report_at c name ≡ Some r
    → report_at (declaring_at c name value) m ≡ cond (text_eq m name) (Some (report_declaring r value)) (report_at c m)
report_at-declaring_at c name value r m there =
    ap (λ o. report_at (option_map_or (λ r. with_report_at c name (report_declaring r value)) o c) m) there
    ∙ get-insert c.reports name (report_declaring r value) m

-- a fact leaves all else of every report
pub bare_at-with_fact_at : (c : Repository) (name id : Text) (fact : Option Fact) (m : Text) → bare_at (with_fact_at c name id fact) m ≡ bare_at c m
bare_at-with_fact_at c name id fact m = by (report_at c name) refl
  where
    found : (r : Report) → report_at c name ≡ Some r → (b : Bool) → text_eq m name ≡ b
        → option_map bare (cond b (Some (with_fact r id fact)) (report_at c m)) ≡ bare_at c m
    found r there true same =
        ap Some (bare-with_fact r id fact) ∙ sym (ap (option_map bare) (ap (report_at c) (text_same m name same) ∙ there))
    found r there false other = refl

    by : (o : Option Report) → report_at c name ≡ o → bare_at (with_fact_at c name id fact) m ≡ bare_at c m
    by None gone = ap (λ o. bare_at (option_map_or (λ r. with_report_at c name (with_fact r id fact)) o c) m) gone
    by (Some r) there =
        ap (option_map bare) (report_at-with_fact_at c name id fact r m there) ∙ found r there (text_eq m name) refl

pub bare_at-declaring_at : (c : Repository) (name : Text) (value : Allowed) (m : Text) → is_some (report_at c name) ≡ true
    → bare_at (declaring_at c name value) m ≡ option_map (declaring_if (value_for m (Some (name, value)))) (bare_at c m)
bare_at-declaring_at c name value m there = by (report_at c name) refl
  where
    found : (r : Report) → report_at c name ≡ Some r → (b : Bool) → text_eq m name ≡ b
        → option_map bare (cond b (Some (report_declaring r value)) (report_at c m)) ≡ option_map (declaring_if (cond b (Some value) None)) (bare_at c m)
    found r is true same =
        sym (ap (λ o. option_map (declaring_if (Some value)) (option_map bare o)) (ap (report_at c) (text_same m name same) ∙ is))
    found r is false other = sym (nothing_declared (bare_at c m))

    by : (o : Option Report) → report_at c name ≡ o
        → bare_at (declaring_at c name value) m ≡ option_map (declaring_if (value_for m (Some (name, value)))) (bare_at c m)
    by None gone = absurd (true≢false (sym there ∙ ap is_some gone))
    by (Some r) is =
        ap (option_map bare) (report_at-declaring_at c name value r m is) ∙ found r is (text_eq m name) refl

-- a value leaves every fact
pub fact_at-declaring_at : (c : Repository) (name : Text) (value : Allowed) (m q : Text) → fact_at (declaring_at c name value) m q ≡ fact_at c m q
fact_at-declaring_at c name value m q = by (report_at c name) refl
  where
    found : (r : Report) → report_at c name ≡ Some r → (b : Bool) → text_eq m name ≡ b
        → option_and_then (λ r. fact_in r q) (cond b (Some (report_declaring r value)) (report_at c m)) ≡ fact_at c m q
    found r is true same = sym (ap (option_and_then (λ r. fact_in r q)) (ap (report_at c) (text_same m name same) ∙ is))
    found r is false other = refl

    by : (o : Option Report) → report_at c name ≡ o → fact_at (declaring_at c name value) m q ≡ fact_at c m q
    by None gone = ap (λ o. fact_at (option_map_or (λ r. with_report_at c name (report_declaring r value)) o c) m q) gone
    by (Some r) is = ap (option_and_then (λ r. fact_in r q)) (report_at-declaring_at c name value r m is) ∙ found r is (text_eq m name) refl

-- the values of reports: a fact leaves them, a declared one is the last
pub value_at-with_fact_at : (c : Repository) (name id : Text) (fact : Option Fact) (m : Text) → value_at (with_fact_at c name id fact) m ≡ value_at c m
value_at-with_fact_at c name id fact m =
    value_of_bare (with_fact_at c name id fact) m
    ∙ ap (option_map (λ (r : Report). r.allowed)) (bare_at-with_fact_at c name id fact m)
    ∙ sym (value_of_bare c m)

pub names_at-declaring_at : (c : Repository) (name : Text) (value : Allowed) (m : Text) → is_some (report_at c name) ≡ true
    → names_at (declaring_at c name value) m ≡ names_at c m
names_at-declaring_at c name value m there =
    names_of_bare (declaring_at c name value) m
    ∙ ap (option_map (λ (r : Report). r.names)) (bare_at-declaring_at c name value m there)
    ∙ by (value_for m (Some (name, value))) (bare_at c m)
    ∙ sym (names_of_bare c m)
  where
    by : (v : Option Allowed) (o : Option Report)
        → option_map (λ (r : Report). r.names) (option_map (declaring_if v) o) ≡ option_map (λ (r : Report). r.names) o
    by v None = refl
    by v (Some r) = ap Some (names-declaring_if v r)

-- the value that a report declares, where this one is declared for it, or its old one
pub value_at-declaring_at : (c : Repository) (name : Text) (value : Allowed) (m : Text) → is_some (report_at c name) ≡ true
    → value_at (declaring_at c name value) m ≡ cond (text_eq m name) (Some value) (value_at c m)
value_at-declaring_at c name value m there = by (report_at c name) refl
  where
    found : (r : Report) → (b : Bool)
        → option_map (λ (r : Report). r.allowed) (cond b (Some (report_declaring r value)) (report_at c m)) ≡ cond b (Some value) (value_at c m)
    found r true = refl
    found r false = refl

    by : (o : Option Report) → report_at c name ≡ o → value_at (declaring_at c name value) m ≡ cond (text_eq m name) (Some value) (value_at c m)
    by None gone = absurd (true≢false (sym there ∙ ap is_some gone))
    by (Some r) is = ap (option_map (λ (r : Report). r.allowed)) (report_at-declaring_at c name value r m is) ∙ found r (text_eq m name)

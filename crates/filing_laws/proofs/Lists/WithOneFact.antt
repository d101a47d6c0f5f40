-- What stands at each place of a repository in which one fact was put or removed.
use Rattle.std.proofs.Common.{◌≡◌, ◌∙◌, ap, sym, refl, Bool, true, false, cond, ◌&&◌, Option, Some, None, is_some, option_map, option_and_then, true≢false}
use Rattle.std.specs.Option.{option_map_or}
use Rattle.filing_model.specs.Common.Text.{Text, text_eq}
use Rattle.filing_model.specs.Oim.Facts.{Fact, Names}
use Rattle.filing_model.specs.Oim.Reports.{Report}
use Rattle.filing_model.specs.Sessions.Repository.{Repository, report_at, fact_in, fact_at, with_fact, with_report_at, with_fact_at}
use Rattle.filing_model.proofs.Common.Texts.{text_same}
use Rattle.filing_model.proofs.Common.TextMaps.{get-insert, get-remove}

-- the names by which the facts of a report are read, where it is there
abbrev pub names_at : Repository → Text → Option Names
names_at c name = option_map (λ r. r.names) (report_at c name)

-- ---- reports

pub fact_in-with_fact : (r : Report) (id : Text) (fact : Option Fact) (q : Text) → fact_in (with_fact r id fact) q ≡ cond (text_eq q id) fact (fact_in r q)
fact_in-with_fact r id None q = get-remove r.facts id q
fact_in-with_fact r id (Some fact) q = get-insert r.facts id fact q

names-with_fact : (r : Report) (id : Text) (fact : Option Fact) → (with_fact r id fact).names ≡ r.names
names-with_fact r id None = refl
names-with_fact r id (Some fact) = refl

-- ---- repositories

pub report_at-with_fact_at : (c : Repository) (name id : Text) (fact : Option Fact) (r : Report) (m : Text) → report_at c name ≡ Some r
    → report_at (with_fact_at c name id fact) m ≡ cond (text_eq m name) (Some (with_fact r id fact)) (report_at c m)
report_at-with_fact_at c name id fact r m there =
    ap (λ o. report_at (option_map_or (λ r. with_report_at c name (with_fact r id fact)) o c) m) there
    ∙ get-insert c.reports name (with_fact r id fact) m

-- a fact that is put or removed leaves the names of every report
pub names_at-with_fact_at : (c : Repository) (name id : Text) (fact : Option Fact) (m : Text) → names_at (with_fact_at c name id fact) m ≡ names_at c m
names_at-with_fact_at c name id fact m = by (report_at c name) refl
  where
    found : (r : Report) → report_at c name ≡ Some r → (b : Bool) → text_eq m name ≡ b → option_map (λ r. r.names) (cond b (Some (with_fact r id fact)) (report_at c m)) ≡ names_at c m
    found r there true same = ap Some (names-with_fact r id fact) ∙ sym (ap (option_map (λ (r : Report). r.names)) there) ∙ ap (λ n. names_at c n) (sym (text_same m name same))
    found r there false other = refl

    by : (o : Option Report) → report_at c name ≡ o → names_at (with_fact_at c name id fact) m ≡ names_at c m
    by None gone = ap (λ o. names_at (option_map_or (λ r. with_report_at c name (with_fact r id fact)) o c) m) gone
    by (Some r) there = ap (option_map (λ (r : Report). r.names)) (report_at-with_fact_at c name id fact r m there) ∙ found r there (text_eq m name) refl

-- in a report that is there, the fact is new at that identifier, and each other is as before
pub fact_at-with_fact_at : (c : Repository) (name id : Text) (fact : Option Fact) (m q : Text) → is_some (report_at c name) ≡ true
    → fact_at (with_fact_at c name id fact) m q ≡ cond (text_eq m name && text_eq q id) fact (fact_at c m q)
fact_at-with_fact_at c name id fact m q there = by (report_at c name) refl
  where
    found : (r : Report) → report_at c name ≡ Some r → (b : Bool) → text_eq m name ≡ b
        → option_and_then (λ r. fact_in r q) (cond b (Some (with_fact r id fact)) (report_at c m)) ≡ cond (b && text_eq q id) fact (fact_at c m q)
    found r is true same = fact_in-with_fact r id fact q ∙ ap (λ o. cond (text_eq q id) fact o) (sym (ap (option_and_then (λ r. fact_in r q)) (ap (report_at c) (text_same m name same) ∙ is)))
    found r is false other = refl

    by : (o : Option Report) → report_at c name ≡ o → fact_at (with_fact_at c name id fact) m q ≡ cond (text_eq m name && text_eq q id) fact (fact_at c m q)
    by None gone = absurd (true≢false (sym there ∙ ap is_some gone))
    by (Some r) is = ap (option_and_then (λ r. fact_in r q)) (report_at-with_fact_at c name id fact r m is) ∙ found r is (text_eq m name) refl

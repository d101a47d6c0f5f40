-- The version that a load or a change makes, by the reports that it holds.
use Rattle.std.proofs.Common.{◌≡◌, ◌∙◌, ap, sym, refl, subst, T, Bool, true, false, cond, ◌&&◌, ◌||◌, List, []}
use Rattle.std.proofs.Common.{◌∷◌, map, Option, Some, None, is_some, option_map, option_and_then, unwrap_or, ℕ}
use Rattle.std.proofs.Common.{◌+◌, true≢false, arith}
use Rattle.std.specs.Prelude.{◌≤◌}
use Rattle.std.specs.List.{list_any}
use Rattle.std.specs.Option.{option_map_or}
use Rattle.std.specs.FinMap.Entries.{find, is_sorted, below_all}
use Rattle.filing_model.specs.Common.Text.{Text, text_cmp, text_eq}
use Rattle.filing_model.specs.Common.TextMap.{TextMap, get, insert}
use Rattle.filing_model.specs.Oim.Facts.{Fact}
use Rattle.filing_model.specs.Oim.Reports.{Report}
use Rattle.filing_model.specs.Oim.Duplicates.{has_dims}
use Rattle.filing_model.specs.Sessions.Queries.{answers_query}
use Rattle.filing_model.specs.Sessions.Repository.{Repository, report_at, fact_at, fact_in, with_report}
use Rattle.filing_model.specs.Sessions.Changes.{ReportChange, Change, no_change, change_in, changed, after_change}
use Rattle.filing_model.specs.Sessions.Things as thing
use Rattle.filing_model.specs.Sessions.Things.{Thing, thing_eq, report_of}
use Rattle.filing_model.specs.Histories.Touches.{passes_at, is_within}
use Rattle.filing_model.specs.Histories.Stamps.{is_stamped, version_after, version_with}
use Rattle.filing_model.proofs.Common.TextMaps.{get-insert, get-from_entries}
use Rattle.filing_model.proofs.Common.Texts.{text_same, text_eq-refl}
use Rattle.filing_model.proofs.Common.Tests.{first_holds, second_holds}
use Rattle.filing_model.proofs.Common.MapsOfLists.{tied_is_not_found}
use Rattle.filing_laws.proofs.Lists.EachElement.{Each}
use Rattle.filing_laws.proofs.Updating.FirstFound.{each_is_found}
use Rattle.filing_laws.proofs.Lists.EqualThings.{thing_same, thing_itself}
use Rattle.filing_laws.proofs.Updating.LaidOver.{report_at-laid_over, fact_in-changed, repositories_same}
use Rattle.filing_facts.specs.FactChanges.{FactChange, Id, Cell, Range, fact_changes_of, passes, is_touched_by, is_touched}
use Rattle.filing_version.specs.StampedReports.{StampedReport, mapped, stamp_in, stamp_at, version_of, new_stamped_report}
use Rattle.filing_version.specs.StampedReports.{changed_stamped_report, stamped_reports_after, ChangesWhatIsThere, IsStampedUpTo}

-- ---- maps whose values are looked at

find-mapped : {X Y : Type 0} (f : X → Y) (q : Text) (es : List (Text × X)) → find text_cmp q (map (λ e. (e.0, f e.1)) es) ≡ option_map f (find text_cmp q es)
find-mapped f q [] = refl
find-mapped f q (e ∷ es) = by (text_eq q e.0) (find-mapped f q es)
  where
    by : (b : Bool) → find text_cmp q (map (λ e. (e.0, f e.1)) es) ≡ option_map f (find text_cmp q es)
        → cond b (Some (f e.1)) (find text_cmp q (map (λ e. (e.0, f e.1)) es)) ≡ option_map f (cond b (Some e.1) (find text_cmp q es))
    by true later = refl
    by false later = later

pub get-mapped : {X Y : Type 0} (f : X → Y) (m : TextMap X) (q : Text) → get (mapped f m) q ≡ option_map f (get m q)
get-mapped f m q = get-from_entries (map (λ e. (e.0, f e.1)) m.entries) q ∙ find-mapped f q m.entries

pub report_at-version_of : (number : ℕ) (reports : TextMap StampedReport) (name : Text)
    → report_at (version_of number reports).repository name ≡ option_map (λ f. f.report) (get reports name)
report_at-version_of number reports name = get-mapped (λ (f : StampedReport). f.report) reports name

-- ---- a change of reports

-- the stamped report, with its change where it has one
abbrev changed_by : ℕ → Option ReportChange → StampedReport → StampedReport
changed_by number None f = f
changed_by number (Some change) f = changed_stamped_report number change f

same_option : (number : ℕ) (o : Option StampedReport) → o ≡ option_map (changed_by number None) o
same_option number None = refl
same_option number (Some f) = refl

pub get-stamped_reports_after : (number : ℕ) (es : List (Text × ReportChange)) (reports : TextMap StampedReport) (q : Text) → T (is_sorted text_cmp es)
    → get (stamped_reports_after number es reports) q ≡ option_map (changed_by number (find text_cmp q es)) (get reports q)
get-stamped_reports_after number [] reports q sorted = same_option number (get reports q)
get-stamped_reports_after number (e ∷ es) reports q sorted =
    get-stamped_reports_after number es (option_map_or (λ f. insert reports e.0 (changed_stamped_report number e.1 f)) (get reports e.0) reports) q
    (second_holds (below_all text_cmp e.0 es) (is_sorted text_cmp es) sorted)
    ∙ by (get reports e.0) refl (text_eq q e.0) refl
  where
    gone : text_eq q e.0 ≡ true → find text_cmp q es ≡ None
    gone same = tied_is_not_found q e.0 es same (first_holds (below_all text_cmp e.0 es) (is_sorted text_cmp es) sorted)

    by : (o : Option StampedReport) → get reports e.0 ≡ o → (b : Bool) → text_eq q e.0 ≡ b
        → option_map (changed_by number (find text_cmp q es)) (get (option_map_or (λ f. insert reports e.0 (changed_stamped_report number e.1 f)) o reports) q)
        ≡ option_map (changed_by number (cond b (Some e.1) (find text_cmp q es))) (get reports q)
    by None is true same =
        let absent : get reports q ≡ None = ap (get reports) (text_same q e.0 same) ∙ is in
        ap (option_map (changed_by number (find text_cmp q es))) absent ∙ sym (ap (option_map (changed_by number (Some e.1))) absent)
    by None is false other = refl
    by (Some f) is true same =
        ap (option_map (changed_by number (find text_cmp q es)))
        (get-insert reports e.0 (changed_stamped_report number e.1 f) q ∙ ap (λ b. cond b (Some (changed_stamped_report number e.1 f)) (get reports q)) same)
        ∙ ap (λ c. Some (changed_by number c (changed_stamped_report number e.1 f))) (gone same)
        ∙ sym (ap (option_map (changed_by number (Some e.1))) (ap (get reports) (text_same q e.0 same) ∙ is))
    by (Some f) is false other =
        ap (option_map (changed_by number (find text_cmp q es)))
        (get-insert reports e.0 (changed_stamped_report number e.1 f) q ∙ ap (λ b. cond b (Some (changed_stamped_report number e.1 f)) (get reports q)) other)

-- ---- its repository

module _ (number : ℕ) (change : Change) (reports : TextMap StampedReport) where
  abbrev after : TextMap StampedReport
  after = stamped_reports_after (number + 1) change.entries reports

  reported : (o : Option ReportChange) (p : Option StampedReport)
      → option_map (λ f. f.report) (option_map (changed_by (number + 1) o) p)
      ≡ option_map (changed (unwrap_or o no_change)) (option_map (λ f. f.report) p)
  reported o None = refl
  reported None (Some f) = refl
  reported (Some c) (Some f) = refl

  reports_after : (name : Text)
      → report_at (version_of (number + 1) after).repository name ≡ report_at (after_change change (version_of number reports).repository) name
  reports_after name =
      report_at-version_of (number + 1) after name
      ∙ ap (option_map (λ f. f.report)) (get-stamped_reports_after (number + 1) change.entries reports name change.sorted)
      ∙ reported (get change name) (get reports name)
      ∙ sym (ap (option_map (changed (change_in change name))) (report_at-version_of number reports name))
      ∙ sym (report_at-laid_over change (version_of number reports).repository name)

  repository_after : (version_of (number + 1) after).repository ≡ after_change change (version_of number reports).repository
  repository_after =
      repositories_same (version_of (number + 1) after).repository (after_change change (version_of number reports).repository) refl reports_after

  -- ---- its stamps

  -- the facts of an identifier before and after, in a report that is changed
  module _ (name : Text) (f : StampedReport) (c : ReportChange) (there : get reports name ≡ Some f) (changes : get change name ≡ Some c) where
    abbrev base : Repository
    base = (version_of number reports).repository

    abbrev next : Repository
    next = after_change change base

    fact_before : (id : Text) → fact_at base name id ≡ fact_in f.report id
    fact_before id = ap (option_and_then (λ r. fact_in r id)) (report_at-version_of number reports name ∙ ap (option_map (λ f. f.report)) there)

    fact_after : (id : Text) → fact_at next name id ≡ unwrap_or (get c.facts id) (fact_in f.report id)
    fact_after id =
        ap (option_and_then (λ r. fact_in r id))
        (report_at-laid_over change base name
        ∙ ap (option_map (changed (change_in change name))) (report_at-version_of number reports name ∙ ap (option_map (λ f. f.report)) there)
        ∙ ap (λ o. Some (changed (unwrap_or o no_change) f.report)) changes)
        ∙ fact_in-changed c f.report id

    abbrev change_of : Text × Option Fact → FactChange
    change_of e = record { id = e.0; old = get f.report.facts e.0; new = e.1 }

    passes_there : (test : Fact → Bool) (id : Text) (new : Option Fact) → get c.facts id ≡ Some new
        → passes test (change_of (id, new)) ≡ passes_at test base next name id
    passes_there test id new found = λ i.
        option_map_or test (sym (fact_before id) i) false
        || option_map_or test (sym (fact_after id ∙ ap (λ o. unwrap_or o (fact_in f.report id)) found) i) false

    -- a test of fact changes and one of identifiers that tell the same of each
    any_same : (p : FactChange → Bool) (q : Text → Bool) (es : List (Text × Option Fact))
        → ((id : Text) (new : Option Fact) → get c.facts id ≡ Some new → p (change_of (id, new)) ≡ q id)
        → Each (λ e. find text_cmp e.0 c.facts.entries ≡ Some e.1) es
        → list_any p (map change_of es) ≡ list_any (λ e. q e.0) es
    any_same p q [] same each = refl
    any_same p q (e ∷ es) same each = λ i. same e.0 e.1 each.0 i || any_same p q es same each.1 i

    each_there : Each (λ e. find text_cmp e.0 c.facts.entries ≡ Some e.1) c.facts.entries
    each_there = each_is_found c.facts.entries c.facts.sorted

    abbrev fact_changes : List FactChange
    fact_changes = fact_changes_of c.facts.entries f.report.facts

    moved_cell : (dims : _) → is_touched fact_changes (Cell dims) ≡ list_any (λ e. passes_at (has_dims dims) base next name e.0) c.facts.entries
    moved_cell dims = any_same (is_touched_by (Cell dims)) (λ id. passes_at (has_dims dims) base next name id) c.facts.entries
        (λ id new found. passes_there (has_dims dims) id new found) each_there

    moved_range : (query : _) (upto : Option Text) → is_touched fact_changes (Range query upto)
        ≡ list_any (λ e. is_within query.after upto e.0 && passes_at (answers_query query.concept query.period) base next name e.0) c.facts.entries
    moved_range query upto = any_same (is_touched_by (Range query upto)) (λ id. is_within query.after upto id
        && passes_at (answers_query query.concept query.period) base next name id) c.facts.entries
        (λ id new found. ap (λ b. is_within query.after upto id && b) (passes_there (answers_query query.concept query.period) id new found)) each_there

    -- one identifier is among the changed ones exactly where something is found under it
    one_of : (q : Text → Bool) (id : Text) (es : List (Text × Option Fact))
        → list_any (λ e. text_eq id e.0 && q e.0) es ≡ (is_some (find text_cmp id es) && q id)
    one_of q id [] = refl
    one_of q id (e ∷ es) = by (text_eq id e.0) refl (one_of q id es)
      where
        absorbed : (b : Bool) (o : Option (Option Fact)) → (b || (is_some o && b)) ≡ b
        absorbed true o = refl
        absorbed false None = refl
        absorbed false (Some x) = refl

        by : (b : Bool) → text_eq id e.0 ≡ b → list_any (λ e. text_eq id e.0 && q e.0) es ≡ (is_some (find text_cmp id es) && q id)
            → ((b && q e.0) || list_any (λ e. text_eq id e.0 && q e.0) es) ≡ (is_some (cond b (Some e.1) (find text_cmp id es)) && q id)
        by true same later =
            (λ i. q (sym (text_same id e.0 same) i) || later i) ∙ absorbed (q id) (find text_cmp id es)
        by false other later = later

    moved_id : (id : Text) → is_touched fact_changes (Id id) ≡ (is_some (get c.facts id) && passes_at (λ fact. true) base next name id)
    moved_id id =
        any_same (is_touched_by (Id id)) (λ other. text_eq id other && passes_at (λ fact. true) base next name other) c.facts.entries
        (λ other new found. ap (λ b. text_eq id other && b) (passes_there (λ fact. true) other new found)) each_there
        ∙ one_of (λ other. passes_at (λ fact. true) base next name other) id c.facts.entries

    -- what is stamped in it
    stamped_there : (t : Thing) → report_of t ≡ name
        → stamp_in t (changed_stamped_report (number + 1) c f) ≡ cond (is_stamped base next change t) (number + 1) (stamp_in t f)
    stamped_there (thing.Report other) is = refl
    stamped_there (thing.Id other id) is =
        ap (λ b. cond b (number + 1) (f.stamp (Id id)))
        (moved_id id ∙ λ i. is_some (get (unwrap_or (sym (ap (get change) is ∙ changes) i) no_change).facts id) && passes_at (λ fact. true) base next
        (sym is i) id)
    stamped_there (thing.Cell other dims) is =
        ap (λ b. cond b (number + 1) (f.stamp (Cell dims)))
        (moved_cell dims ∙ λ i. list_any (λ e. passes_at (has_dims dims) base next (sym is i) e.0)
        (unwrap_or (sym (ap (get change) is ∙ changes) i) no_change).facts.entries)
    stamped_there (thing.Range other query upto) is =
        ap (λ b. cond b (number + 1) (f.stamp (Range query upto)))
        (moved_range query upto
        ∙ λ i. list_any (λ e. is_within query.after upto e.0
        && passes_at (answers_query query.concept query.period) base next (sym is i) e.0)
        (unwrap_or (sym (ap (get change) is ∙ changes) i) no_change).facts.entries)
    stamped_there (thing.Policy other) is =
        ap (λ o. cond (is_some (unwrap_or o no_change).declared) (number + 1) f.declared) (sym (ap (get change) is ∙ changes))

  -- nothing is stamped in a report that the change leaves as it is
  unstamped : (t : Thing) → get change (report_of t) ≡ None
      → is_stamped (version_of number reports).repository (after_change change (version_of number reports).repository) change t ≡ false
  unstamped (thing.Report name) is = refl
  unstamped (thing.Id name id) is = ap (λ o. is_some (get (unwrap_or o no_change).facts id)
      && passes_at (λ fact. true) (version_of number reports).repository
      (after_change change (version_of number reports).repository) name id) is
  unstamped (thing.Cell name dims) is = ap
      (λ o. list_any (λ e. passes_at (has_dims dims) (version_of number reports).repository
      (after_change change (version_of number reports).repository) name e.0) (unwrap_or o no_change).facts.entries) is
  unstamped (thing.Range name query upto) is = ap
      (λ o. list_any (λ e. is_within query.after upto e.0
      && passes_at (answers_query query.concept query.period) (version_of number reports).repository
      (after_change change (version_of number reports).repository) name e.0) (unwrap_or o no_change).facts.entries) is
  unstamped (thing.Policy name) is = ap (λ o. is_some (unwrap_or o no_change).declared) is

  stamps_after : ChangesWhatIsThere change reports → (t : Thing)
      → stamp_at after t
      ≡ cond (is_stamped (version_of number reports).repository (after_change change (version_of number reports).repository) change t) (number + 1)
      (stamp_at reports t)
  stamps_after there t =
      ap (λ o. option_map_or (stamp_in t) o 0) (get-stamped_reports_after (number + 1) change.entries reports (report_of t) change.sorted)
      ∙ by (get reports (report_of t)) refl (get change (report_of t)) refl
    where
      stamped : Bool
      stamped = is_stamped (version_of number reports).repository (after_change change (version_of number reports).repository) change t

      left : (o : Option StampedReport) → get reports (report_of t) ≡ o → stamped ≡ false → (p : Option StampedReport) → p ≡ o
          → option_map_or (stamp_in t) p 0 ≡ cond stamped (number + 1) (stamp_at reports t)
      left o is not p same =
          ap (λ p. option_map_or (stamp_in t) p 0) (same ∙ sym is) ∙ sym (ap (λ b. cond b (number + 1) (stamp_at reports t)) not)

      by : (o : Option StampedReport) → get reports (report_of t) ≡ o → (q : Option ReportChange) → get change (report_of t) ≡ q
          → option_map_or (stamp_in t) (option_map (changed_by (number + 1) q) o) 0 ≡ cond stamped (number + 1) (stamp_at reports t)
      by None gone q is = left None gone (unstamped t (there (report_of t) gone)) None refl
      by (Some f) held None is = left (Some f) held (unstamped t is) (Some f) refl
      by (Some f) held (Some c) is =
          stamped_there (report_of t) f c held is t refl
          ∙ ap (λ o. cond stamped (number + 1) (option_map_or (stamp_in t) o 0)) (sym held)

-- the reports with the changes laid over them are those of the version after the change
pub version_after_change : (number : ℕ) (change : Change) (reports : TextMap StampedReport) → ChangesWhatIsThere change reports
    → version_of (number + 1) (stamped_reports_after (number + 1) change.entries reports) ≡ version_after change (version_of number reports)
version_after_change number change reports there = λ i. record {
  repository = repository_after number change reports i;
  stamp = λ t. stamps_after number change reports there t i;
}

-- ---- a load

module _ (number : ℕ) (name : Text) (r : Report) (reports : TextMap StampedReport) where
  abbrev loaded : TextMap StampedReport
  loaded = insert reports name (new_stamped_report (number + 1) r)

  reports_with : (q : Text) → report_at (version_of (number + 1) loaded).repository q ≡ report_at (with_report (version_of number reports).repository name r) q
  reports_with q =
      report_at-version_of (number + 1) loaded q
      ∙ ap (option_map (λ f. f.report)) (get-insert reports name (new_stamped_report (number + 1) r) q)
      ∙ by (text_eq q name) (report_at-version_of number reports q)
      ∙ sym (get-insert (version_of number reports).repository.reports name r q)
    where
      by : (b : Bool) → report_at (version_of number reports).repository q ≡ option_map (λ f. f.report) (get reports q)
          → option_map (λ f. f.report) (cond b (Some (new_stamped_report (number + 1) r)) (get reports q))
          ≡ cond b (Some r) (report_at (version_of number reports).repository q)
      by true same = refl
      by false same = sym same

  new_stamp : (t : Thing) → report_of t ≡ name → stamp_in t (new_stamped_report (number + 1) r) ≡ cond (thing_eq t (thing.Report name)) (number + 1) 0
  new_stamp (thing.Report other) is =
      sym (ap (λ b. cond b (number + 1) 0) (ap (λ n. thing_eq (thing.Report n) (thing.Report name)) is ∙ thing_itself (thing.Report name)))
  new_stamp (thing.Id other id) is = refl
  new_stamp (thing.Cell other dims) is = refl
  new_stamp (thing.Range other query upto) is = refl
  new_stamp (thing.Policy other) is = refl

  other_thing : (t : Thing) → text_eq (report_of t) name ≡ false → thing_eq t (thing.Report name) ≡ false
  other_thing t apart = by (thing_eq t (thing.Report name)) refl
    where
      by : (b : Bool) → thing_eq t (thing.Report name) ≡ b → b ≡ false
      by true same = absurd (true≢false (sym (ap (λ u. text_eq (report_of u) name) (thing_same t (thing.Report name) same) ∙ text_eq-refl name) ∙ apart))
      by false other = refl

  stamps_with : get reports name ≡ None → (t : Thing) → stamp_at loaded t ≡ cond (thing_eq t (thing.Report name)) (number + 1) (stamp_at reports t)
  stamps_with absent t =
      ap (λ o. option_map_or (stamp_in t) o 0) (get-insert reports name (new_stamped_report (number + 1) r) (report_of t))
      ∙ by (text_eq (report_of t) name) refl
    where
      by : (b : Bool) → text_eq (report_of t) name ≡ b
          → option_map_or (stamp_in t) (cond b (Some (new_stamped_report (number + 1) r)) (get reports (report_of t))) 0
          ≡ cond (thing_eq t (thing.Report name)) (number + 1) (stamp_at reports t)
      by true same =
          let is = text_same (report_of t) name same in
          new_stamp t is
          ∙ ap (λ o. cond (thing_eq t (thing.Report name)) (number + 1) (option_map_or (stamp_in t) o 0)) (sym (ap (get reports) is ∙ absent))
      by false other = sym (ap (λ b. cond b (number + 1) (stamp_at reports t)) (other_thing t other))

-- the reports with one more are those of the version with it
pub version_with_report : (number : ℕ) (name : Text) (r : Report) (reports : TextMap StampedReport) → get reports name ≡ None
    → version_of (number + 1) (insert reports name (new_stamped_report (number + 1) r)) ≡ version_with name r (version_of number reports)
version_with_report number name r reports absent = λ i. record {
  repository = repositories_same (version_of (number + 1) (loaded number name r reports)).repository
      (with_report (version_of number reports).repository name r) refl (reports_with number name r reports) i;
  stamp = λ t. stamps_with number name r reports absent t i;
}

-- ---- no stamp is greater than the number

up_to_next : (b : Bool) (number old : ℕ) → old ≤ number → cond b (number + 1) old ≤ number + 1
up_to_next true number old h = omega arith
up_to_next false number old h = omega arith

pub with_is_stamped_up_to : (number : ℕ) (name : Text) (r : Report) (reports : TextMap StampedReport) → get reports name ≡ None → IsStampedUpTo number reports
    → IsStampedUpTo (number + 1) (insert reports name (new_stamped_report (number + 1) r))
with_is_stamped_up_to number name r reports absent h = record {
  up_to = λ t. subst (λ n. n ≤ number + 1) (sym (stamps_with number name r reports absent t))
      (up_to_next (thing_eq t (thing.Report name)) number (stamp_at reports t) (h.up_to t));
}

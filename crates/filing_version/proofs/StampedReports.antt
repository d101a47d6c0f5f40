-- The version that stamped reports are, look-up by look-up, and after a load or a change.
use Rattle.std.proofs.Common.{◌≡◌, ◌∙◌, ap, sym, refl, subst, cond, true, false, Bool, ◌||◌, filter, filter_map}
use Rattle.std.proofs.Common.{fold, true≢false, List, [], ◌∷◌, Option, Some, None, option_map, option_and_then}
use Rattle.std.proofs.Common.{is_some, ℕ, max, arith}
use Rattle.std.specs.Prelude.{◌≤◌}
use Rattle.std.specs.Option.{option_map_or, option_or}
use Rattle.std.proofs.lemmas.Bool.{and_parts}
use Rattle.filing_model.specs.Common.Text.{Text, text_eq}
use Rattle.filing_model.specs.Common.TextMap.{TextMap, get, insert}
use Rattle.filing_model.specs.Oim.Reports.{Report}
use Rattle.filing_model.specs.Sessions.Repository.{Repository, report_at, with_fact, with_report_at}
use Rattle.filing_model.specs.Oim.Dimensions.{Dims}
use Rattle.filing_model.specs.Oim.Facts.{Fact}
use Rattle.filing_model.specs.Sessions.Changes.{ReportChange, Change, with_facts, declaring_if, changed, changed_at, least_changed}
use Rattle.filing_model.specs.Sessions.Changes.{find_map, first_disallowed, after_change}
use Rattle.filing_model.specs.Oim.Duplicates.{has_dims, lesser_dims}
use Rattle.filing_model.specs.Sessions.Sessions.{repository_obeys, refusal_of}
use Rattle.filing_laws.specs.Updating.NetChange.{refusal_at}
use Rattle.filing_laws.proofs.Updating.NewFacts.{each_change_is_decided_by_its_new_facts}
use Rattle.filing_model.specs.Sessions.Queries.{answers_query}
use Rattle.filing_model.specs.Histories.Touches.{is_within}
use Rattle.filing_model.specs.declared.duplicates.Allowed.{Allowed}
use Rattle.filing_model.specs.Sessions.Things as thing
use Rattle.filing_model.specs.Sessions.Things.{Thing, report_of}
use Rattle.filing_model.proofs.Common.TextMaps.{same_map, get-insert}
use Rattle.filing_model.proofs.Common.Texts.{text_same}
use Rattle.filing_facts.specs.FactChanges.{Part, Id, Cell, Range, FactChange, fact_changes_of, passes, is_touched_by, is_touched, stamped_by, with_changes}
use Rattle.filing_index.specs.ChangedIndexes.{fact_changes_in}
use Rattle.filing_stamps.specs.Stamps.{stamp_in as part_stamp}
use Rattle.filing_version.specs.StampedReports.{StampedReport, mapped, stamp_in, stamp_at, changed_stamped_report, stamped_reports_after}
use Rattle.filing_version.specs.StampedReports.{StampedReportValue, stamped_report_of, StampedReports, KeepsItsStamps, IsStampedUpTo}
use Rattle.filing_version.specs.StampedReports.{thing_in, version_of, version_in, repository_in}
use Rattle.filing_version.proofs.NextVersions.{get-mapped, report_at-version_of}

-- ---- look-ups

both_mapped : (o : Option StampedReportValue) → option_map (λ (f : StampedReport). f.report) (option_map stamped_report_of o) ≡ option_map (λ r. r.report) o
both_mapped None = refl
both_mapped (Some r) = refl

-- the report of a name
pub reported : (v : StampedReports) (name : Text) → report_at (repository_in v) name ≡ option_map (λ r. r.report) (get v.reports name)
reported v name =
    report_at-version_of v.number (mapped stamped_report_of v.reports) name
    ∙ ap (option_map (λ (f : StampedReport). f.report)) (get-mapped stamped_report_of v.reports name)
    ∙ both_mapped (get v.reports name)

stamp_mapped : (t : Thing) (o : Option StampedReportValue)
    → option_map_or (stamp_in t) (option_map stamped_report_of o) 0 ≡ option_map_or (λ r. stamp_in t (stamped_report_of r)) o 0
stamp_mapped t None = refl
stamp_mapped t (Some r) = refl

-- the stamp of a thing
stamped : (m : TextMap StampedReportValue) (t : Thing)
    → stamp_at (mapped stamped_report_of m) t ≡ option_map_or (λ r. stamp_in t (stamped_report_of r)) (get m (report_of t)) 0
stamped m t = ap (λ o. option_map_or (stamp_in t) o 0) (get-mapped stamped_report_of m (report_of t)) ∙ stamp_mapped t (get m (report_of t))

-- where its report is held
pub stamp_there : (m : TextMap StampedReportValue) (t : Thing) (r : StampedReportValue) → get m (report_of t) ≡ Some r
    → stamp_in t (stamped_report_of r) ≡ stamp_at (mapped stamped_report_of m) t
stamp_there m t r is = sym (stamped m t ∙ ap (λ o. option_map_or (λ r. stamp_in t (stamped_report_of r)) o 0) is)

-- where it is not
pub stamp_nowhere : (m : TextMap StampedReportValue) (t : Thing) → get m (report_of t) ≡ None → 0 ≡ stamp_at (mapped stamped_report_of m) t
stamp_nowhere m t none = sym (stamped m t ∙ ap (λ o. option_map_or (λ r. stamp_in t (stamped_report_of r)) o 0) none)

-- where no version came since, none is greater
pub none_since : (number since : ℕ) (v : StampedReports) (t : Thing) → IsStampedUpTo number (mapped stamped_report_of v.reports) → number ≤ since
    → max since 0 ≡ max since ((version_in v).stamp t)
none_since number since v t stamped least =
    let under : stamp_at (mapped stamped_report_of v.reports) t ≤ number = stamped.up_to t in
    omega (arith, under, least)

-- the stamp of a part of a report is that of the thing that it is
pub part_stamped : (m : TextMap StampedReportValue) (name : Text) (part : Part)
    → option_map_or (λ r. part_stamp r.stamps part) (get m name) 0 ≡ stamp_at (mapped stamped_report_of m) (thing_in name part)
part_stamped m name (Id id) = sym (stamped m (thing.Id name id))
part_stamped m name (Cell dims) = sym (stamped m (thing.Cell name dims))
part_stamped m name (Range query upto) = sym (stamped m (thing.Range name query upto))

-- where no report is seen, none is held
pub absent_held : (v : StampedReports) (name : Text) → report_at (repository_in v) name ≡ None → get (mapped stamped_report_of v.reports) name ≡ None
absent_held v name none = get-mapped stamped_report_of v.reports name ∙ by (get v.reports name) refl
  where
    by : (o : Option StampedReportValue) → get v.reports name ≡ o → option_map stamped_report_of o ≡ None
    by None is = refl
    by (Some r) is =
        let apart : Some r.report ≡ None = sym (reported v name ∙ ap (option_map (λ r. r.report)) is) ∙ none in
        cc

-- no report, none seen
pub absent_seen : (v : StampedReports) (name : Text) → get (mapped stamped_report_of v.reports) name ≡ None → report_at (repository_in v) name ≡ None
absent_seen v name none =
    report_at-version_of v.number (mapped stamped_report_of v.reports) name ∙ ap (option_map (λ (f : StampedReport). f.report)) none

-- the stamps of the parts of a report that is held are not greater than those of the things
pub parts_up_to : (number : ℕ) (m : TextMap StampedReportValue) (name : Text) (r : StampedReportValue) → get m name ≡ Some r
    → ((t : Thing) → stamp_at (mapped stamped_report_of m) t ≤ number)
    → (part : Part) → part_stamp r.stamps part ≤ number
parts_up_to number m name r held up_to part = at part
  where
    seen : (t : Thing) → report_of t ≡ name → stamp_in t (stamped_report_of r) ≤ number
    seen t is = subst (λ n. n ≤ number)
        (ap (λ o. option_map_or (stamp_in t) o 0)
        (get-mapped stamped_report_of m (report_of t) ∙ ap (λ q. option_map stamped_report_of (get m q)) is ∙ ap (option_map stamped_report_of) held)) (up_to t)

    at : (part : Part) → part_stamp r.stamps part ≤ number
    at (Id id) = seen (thing.Id name id) refl
    at (Cell dims) = seen (thing.Cell name dims) refl
    at (Range query upto) = seen (thing.Range name query upto) refl

-- ---- a report put

pub mapped-insert : (m : TextMap StampedReportValue) (name : Text) (r : StampedReportValue)
    → mapped stamped_report_of (insert m name r) ≡ insert (mapped stamped_report_of m) name (stamped_report_of r)
mapped-insert m name r = same_map _ _ (λ q.
    get-mapped stamped_report_of (insert m name r) q
    ∙ ap (option_map stamped_report_of) (get-insert m name r q)
    ∙ by q (text_eq q name)
    ∙ ap (λ o. cond (text_eq q name) (Some (stamped_report_of r)) o) (sym (get-mapped stamped_report_of m q))
    ∙ sym (get-insert (mapped stamped_report_of m) name (stamped_report_of r) q))
  where
    by : (q : Text) (b : Bool)
        → option_map stamped_report_of (cond b (Some r) (get m q)) ≡ cond b (Some (stamped_report_of r)) (option_map stamped_report_of (get m q))
    by q true = refl
    by q false = refl

-- with its change, in the place of the one before
pub stamped_one : (number : ℕ) (m next : TextMap StampedReportValue) (part : Text × ReportChange) (old new : StampedReportValue)
    → get m part.0 ≡ Some old → stamped_report_of new ≡ changed_stamped_report number part.1 (stamped_report_of old) → next ≡ insert m part.0 new
    → mapped stamped_report_of next ≡ stamped_reports_after number (part ∷ []) (mapped stamped_report_of m)
stamped_one number m next part old new held made put =
    let seen : get (mapped stamped_report_of m) part.0 ≡ Some (stamped_report_of old) =
    get-mapped stamped_report_of m part.0 ∙ ap (option_map stamped_report_of) held in
    ap (mapped stamped_report_of) put
    ∙ mapped-insert m part.0 new
    ∙ ap (insert (mapped stamped_report_of m) part.0) made
    ∙ sym (ap (λ o. option_map_or (λ (f : StampedReport). insert (mapped stamped_report_of m) part.0 (changed_stamped_report number part.1 f)) o
    (mapped stamped_report_of m)) seen)

-- ---- the reports of a change laid one after another

-- what the rest of the changes makes of the reports so far is what all make of the first ones, and no stamp is greater than the number
pub record LaysTheRest (number : ℕ) (all : List (Text × ReportChange)) (first : TextMap StampedReport) (rest : List (Text × ReportChange))
    (so_far : TextMap StampedReport) : Type 0 where
  pub same : stamped_reports_after number rest so_far ≡ stamped_reports_after number all first
  pub up_to : (t : Thing) → stamp_at so_far t ≤ number

-- one that is there
lays_one : (number : ℕ) (all : List (Text × ReportChange)) (first : TextMap StampedReport) (e : Text × ReportChange) (es : List (Text × ReportChange))
    (m : TextMap StampedReport) (f : StampedReport)
    → get m e.0 ≡ Some f → LaysTheRest number all first (e ∷ es) m → LaysTheRest number all first es (insert m e.0 (changed_stamped_report number e.1 f))
lays_one number all first e es m f held h = record {
  same = sym (ap (λ o. stamped_reports_after number es (option_map_or (λ f. insert m e.0 (changed_stamped_report number e.1 f)) o m)) held) ∙ h.same;
  up_to = λ t. subst (λ n. n ≤ number) (sym (ap (λ o. option_map_or (stamp_in t) o 0) (get-insert m e.0 (changed_stamped_report number e.1 f) (report_of t))))
      (by t (text_eq (report_of t) e.0) refl);
}
  where
    capped : (b : Bool) (old : ℕ) → old ≤ number → cond b number old ≤ number
    capped true old h = omega arith
    capped false old h = h

    within : (t : Thing) → stamp_in t f ≤ number → stamp_in t (changed_stamped_report number e.1 f) ≤ number
    within (thing.Report name) h = h
    within (thing.Id name id) h = capped (is_touched (fact_changes_of e.1.facts.entries f.report.facts) (Id id)) (f.stamp (Id id)) h
    within (thing.Cell name dims) h = capped (is_touched (fact_changes_of e.1.facts.entries f.report.facts) (Cell dims)) (f.stamp (Cell dims)) h
    within (thing.Range name query upto) h =
        capped (is_touched (fact_changes_of e.1.facts.entries f.report.facts) (Range query upto)) (f.stamp (Range query upto)) h
    within (thing.Policy name) h = capped (is_some e.1.declared) f.declared h

    by : (t : Thing) (b : Bool) → text_eq (report_of t) e.0 ≡ b
        → option_map_or (stamp_in t) (cond b (Some (changed_stamped_report number e.1 f)) (get m (report_of t))) 0 ≤ number
    by t true same =
        within t (subst (λ n. n ≤ number) (ap (λ o. option_map_or (stamp_in t) o 0) (ap (get m) (text_same (report_of t) e.0 same) ∙ held)) (h.up_to t))
    by t false other = h.up_to t

-- one that is not
lays_none : (number : ℕ) (all : List (Text × ReportChange)) (first : TextMap StampedReport) (e : Text × ReportChange) (es : List (Text × ReportChange))
    (m : TextMap StampedReport)
    → get m e.0 ≡ None → LaysTheRest number all first (e ∷ es) m → LaysTheRest number all first es m
lays_none number all first e es m none h = record {
  same = sym (ap (λ o. stamped_reports_after number es (option_map_or (λ f. insert m e.0 (changed_stamped_report number e.1 f)) o m)) none) ∙ h.same;
  up_to = h.up_to;
}

-- either
pub lays_next : (number : ℕ) (all : List (Text × ReportChange)) (first : TextMap StampedReport) (e : Text × ReportChange) (es : List (Text × ReportChange))
    (m next : TextMap StampedReport)
    → next ≡ stamped_reports_after number (e ∷ []) m → LaysTheRest number all first (e ∷ es) m → LaysTheRest number all first es next
lays_next number all first e es m next is h = subst (LaysTheRest number all first es) (sym is) (by (get m e.0) refl)
  where
    by : (o : Option StampedReport) → get m e.0 ≡ o
        → LaysTheRest number all first es (option_map_or (λ f. insert m e.0 (changed_stamped_report number e.1 f)) (get m e.0) m)
    by None none =
        subst (λ o. LaysTheRest number all first es (option_map_or (λ f. insert m e.0 (changed_stamped_report number e.1 f)) o m)) (sym none)
        (lays_none number all first e es m none h)
    by (Some f) held =
        subst (λ o. LaysTheRest number all first es (option_map_or (λ f. insert m e.0 (changed_stamped_report number e.1 f)) o m)) (sym held)
        (lays_one number all first e es m f held h)

-- ---- the first disallowed cell

-- what is found in one changed report
abbrev pub disallowed_at : Repository → Text × ReportChange → Option (Text × Dims)
disallowed_at c e = option_map (λ dims. (e.0, dims)) (option_and_then (least_changed e.1) (report_at c e.0))

-- what is found in the first changed report counts
pub found_first : (c : Repository) (e : Text × ReportChange) (es : List (Text × ReportChange)) (dims : Dims)
    → option_and_then (least_changed e.1) (report_at c e.0) ≡ Some dims → Some (e.0, dims) ≡ find_map (disallowed_at c) (e ∷ es)
found_first c e es dims found = sym (ap (λ o. option_or (option_map (λ dims. (e.0, dims)) o) (find_map (disallowed_at c) es)) found)

pub found_later : (c : Repository) (e : Text × ReportChange) (es : List (Text × ReportChange))
    → option_and_then (least_changed e.1) (report_at c e.0) ≡ None → find_map (disallowed_at c) es ≡ find_map (disallowed_at c) (e ∷ es)
found_later c e es none = sym (ap (λ o. option_or (option_map (λ dims. (e.0, dims)) o) (find_map (disallowed_at c) es)) none)

-- where the version before obeyed, it decides the commit
pub decides : (c base : Repository) (change : Change) → repository_obeys base ≡ true → c ≡ after_change change base
    → refusal_of c ≡ option_map (refusal_at c) (first_disallowed c change)
decides c base change obeys is =
    ap refusal_of is
    ∙ (each_change_is_decided_by_its_new_facts base change obeys).refusal
    ∙ sym (ap (λ (c : Repository). option_map (refusal_at c) (first_disallowed c change)) is)

-- ---- the least of some dimensions

-- one more
pub least_with_one : (d : Dims → Bool) (least : Option Dims) (x : Dims) (xs : List Dims)
    → fold lesser_dims (fold lesser_dims least (filter d (x ∷ []))) (filter d xs) ≡ fold lesser_dims least (filter d (x ∷ xs))
least_with_one d least x xs = by (d x)
  where
    by : (b : Bool)
        → fold lesser_dims (fold lesser_dims least (cond b (x ∷ []) [])) (filter d xs) ≡ fold lesser_dims least (cond b (x ∷ filter d xs) (filter d xs))
    by true = refl
    by false = refl

-- ---- the facts that are put

pub facts_put : (e : Text × Option Fact) (es : List (Text × Option Fact)) (fact : Fact) → e.1 ≡ Some fact
    → filter_map (λ e. e.1) (e ∷ es) ≡ fact ∷ filter_map (λ e. e.1) es
facts_put (id, o) es fact is = ap (λ o. filter_map (λ e. e.1) ((id, o) ∷ es)) is

-- a report with its facts changed by identifier
pub with_facts-report : (es : List (Text × Option Fact)) (r : Report) → with_facts es r ≡ record r { facts = with_changes es r.facts }
with_facts-report [] r = refl
with_facts-report (e ∷ es) r = ap (λ (x : Report). with_fact x e.0 e.1) (with_facts-report es r) ∙ by e.1
  where
    by : (o : Option Fact) → with_fact (record r { facts = with_changes es r.facts }) e.0 o ≡ record r { facts = with_changes ((e.0, o) ∷ es) r.facts }
    by (Some fact) = refl
    by None = refl

-- ---- fact changes that touch nothing

-- what passes a test stands there
there_where_passes : (test : Fact → Bool) (m : FactChange) → passes test m ≡ true → passes (λ fact. true) m ≡ true
there_where_passes test m h = by m.old m.new h
  where
    by : (o n : Option Fact) → (option_map_or test o false || option_map_or test n false) ≡ true
        → (option_map_or (λ fact. true) o false || option_map_or (λ fact. true) n false) ≡ true
    by None None h = h
    by None (Some f) h = refl
    by (Some f) n h = refl

touches_where_there : (part : Part) (m : FactChange) → is_touched_by part m ≡ true → passes (λ fact. true) m ≡ true
touches_where_there (Id id) m h = (and_parts (text_eq id m.id) (passes (λ fact. true) m) h).1
touches_where_there (Cell dims) m h = there_where_passes (has_dims dims) m h
touches_where_there (Range query upto) m h =
    there_where_passes (answers_query query.concept query.period) m
    (and_parts (is_within query.after upto m.id) (passes (answers_query query.concept query.period) m) h).1

any_there : (part : Part) (ms : List FactChange) → is_touched (filter (passes (λ fact. true)) ms) part ≡ is_touched ms part
any_there part [] = refl
any_there part (m ∷ ms) = by (any_there part ms) (passes (λ fact. true) m) refl (is_touched_by part m) refl
  where
    by : is_touched (filter (passes (λ fact. true)) ms) part ≡ is_touched ms part → (b : Bool) → passes (λ fact. true) m ≡ b → (t : Bool)
        → is_touched_by part m ≡ t
        → is_touched (cond b (m ∷ filter (passes (λ fact. true)) ms) (filter (passes (λ fact. true)) ms)) part ≡ (is_touched_by part m || is_touched ms part)
    by later true is t touches = ap (λ b. is_touched_by part m || b) later
    by later false is true touches = absurd (true≢false (sym (touches_where_there part m touches) ∙ is))
    by later false is false touches = later ∙ sym (ap (λ b. b || is_touched ms part) touches)

-- so what fact changes stamp is told by those that have a fact
pub stamped_by-fact_changes_in : (changes : List (Text × Option Fact)) (facts : TextMap Fact) (number : ℕ) (stamp : Part → ℕ)
    → stamped_by (fact_changes_in changes facts) number stamp ≡ stamped_by (fact_changes_of changes facts) number stamp
stamped_by-fact_changes_in changes facts number stamp = λ i part. cond (any_there part (fact_changes_of changes facts) i) number (stamp part)

-- ---- a changed report

declared_facts : (o : Option Allowed) (r : Report) → (declaring_if o r).facts ≡ r.facts
declared_facts None r = refl
declared_facts (Some value) r = refl

same_front : (o : Option Allowed) (header : Report) (facts after : TextMap Fact)
    → record (declaring_if o header) { facts = after } ≡ record (declaring_if o (record header { facts = facts })) { facts = after }
same_front None header facts after = refl
same_front (Some value) header facts after = refl

-- the header with its declared value and the facts with their changes are the report with both
pub changed_front : (change : ReportChange) (header : Report) (facts : TextMap Fact)
    → record (declaring_if change.declared header) { facts = with_changes change.facts.entries facts } ≡ changed change (record header { facts = facts })
changed_front change header facts =
    same_front change.declared header facts (with_changes change.facts.entries facts)
    ∙ ap (λ m. record (declaring_if change.declared (record header { facts = facts }))
    { facts = with_changes change.facts.entries m })
    (sym (declared_facts change.declared (record header { facts = facts })))
    ∙ sym (with_facts-report change.facts.entries (declaring_if change.declared (record header { facts = facts })))

-- ---- another report of the same stamps

mapped_put : {X Y : Type 0} (f : X → Y) (m : TextMap X) (name : Text) (x : X) → mapped f (insert m name x) ≡ insert (mapped f m) name (f x)
mapped_put f m name x = same_map _ _ (λ q.
    get-mapped f (insert m name x) q
    ∙ ap (option_map f) (get-insert m name x q)
    ∙ by q (text_eq q name)
    ∙ ap (λ o. cond (text_eq q name) (Some (f x)) o) (sym (get-mapped f m q))
    ∙ sym (get-insert (mapped f m) name (f x) q))
  where
    by : (q : Text) (b : Bool) → option_map f (cond b (Some x) (get m q)) ≡ cond b (Some (f x)) (option_map f (get m q))
    by q true = refl
    by q false = refl

-- a stamp is not the report's
stamp_of_another : (t : Thing) (f : StampedReport) (r : Report) → stamp_in t (record f { report = r }) ≡ stamp_in t f
stamp_of_another (thing.Report name) f r = refl
stamp_of_another (thing.Id name id) f r = refl
stamp_of_another (thing.Cell name dims) f r = refl
stamp_of_another (thing.Range name query upto) f r = refl
stamp_of_another (thing.Policy name) f r = refl

module _ (v : StampedReports) (name : Text) (old new : StampedReportValue) (keeps : KeepsItsStamps v.reports name old new) where
  abbrev reports : TextMap StampedReport
  reports = mapped stamped_report_of v.reports

  held : get reports name ≡ Some (stamped_report_of old)
  held = get-mapped stamped_report_of v.reports name ∙ ap (option_map stamped_report_of) keeps.held

  stamps_stay : (t : Thing) → stamp_at (insert reports name (stamped_report_of new)) t ≡ stamp_at reports t
  stamps_stay t =
      ap (λ o. option_map_or (stamp_in t) o 0) (get-insert reports name (stamped_report_of new) (report_of t)) ∙ by (text_eq (report_of t) name) refl
    where
      by : (b : Bool) → text_eq (report_of t) name ≡ b
          → option_map_or (stamp_in t) (cond b (Some (stamped_report_of new)) (get reports (report_of t))) 0 ≡ stamp_at reports t
      by true same =
          ap (stamp_in t) keeps.stamps
          ∙ stamp_of_another t (stamped_report_of old) new.report
          ∙ sym (ap (λ o. option_map_or (stamp_in t) o 0) (ap (get reports) (text_same (report_of t) name same) ∙ held))
      by false other = refl

  put_there : mapped stamped_report_of (insert v.reports name new) ≡ insert reports name (stamped_report_of new)
  put_there = mapped-insert v.reports name new

  pub another_stamp : (t : Thing) → stamp_at (mapped stamped_report_of (insert v.reports name new)) t ≡ stamp_at reports t
  another_stamp t = ap (λ m. stamp_at m t) put_there ∙ stamps_stay t

  pub another_report : version_of v.number (mapped stamped_report_of (insert v.reports name new))
      ≡ record (version_in v) { repository = with_report_at (repository_in v) name new.report }
  another_report = λ i. record {
    repository = record {
      count = v.number;
      reports =
          (ap (mapped (λ (f : StampedReport). f.report)) put_there ∙ mapped_put (λ (f : StampedReport). f.report) reports name (stamped_report_of new)) i;
    };
    stamp = λ t. another_stamp t i;
  }

  pub another_up_to : IsStampedUpTo v.number reports → IsStampedUpTo v.number (mapped stamped_report_of (insert v.reports name new))
  another_up_to h = record { up_to = λ t. subst (λ n. n ≤ v.number) (sym (another_stamp t)) (h.up_to t) }

-- one that is made so keeps its stamps
pub keeps_its_stamps : (reports : TextMap StampedReportValue) (name : Text) (old new : StampedReportValue) (r : Report)
    → get reports name ≡ Some old → stamped_report_of new ≡ record (stamped_report_of old) { report = r } → KeepsItsStamps reports name old new
keeps_its_stamps reports name old new r held made = record {
  held = held;
  stamps = made ∙ ap (λ x. record (stamped_report_of old) { report = x }) (sym (ap (λ (f : StampedReport). f.report) made));
}

-- what is made of the report that is held is made of the repository
module _ (v : StampedReports) (name : Text) (old new : StampedReportValue) (held : get v.reports name ≡ Some old) where
  found : report_at (repository_in v) name ≡ Some old.report
  found = reported v name ∙ ap (option_map (λ (r : StampedReportValue). r.report)) held

  pub changed_there : (change : ReportChange) → stamped_report_of new ≡ record (stamped_report_of old) { report = changed change old.report }
      → with_report_at (repository_in v) name new.report ≡ changed_at (repository_in v) (name, change)
  changed_there change made =
      ap (λ (f : StampedReport). with_report_at (repository_in v) name f.report) made
      ∙ sym (ap (λ o. option_map_or (λ r. with_report_at (repository_in v) name (changed change r)) o (repository_in v)) found)

-- What a session read and no later entry touched stands as at its opening: by induction for all sessions at once, since a commit touches by its own opening.
use Rattle.std.proofs.Common.{◌≡◌, ◌∙◌, ap, sym, refl, subst, ℕ, Bool, true, false, cond, not, ◌&&◌, List, [], ◌∷◌}
use Rattle.std.proofs.Common.{filter, inl, inr, Option, Some, None, is_some, option_map, option_and_then}
use Rattle.std.proofs.Common.{true≢false}
use Rattle.std.specs.Option.{option_map_or, option_or}
use Rattle.std.proofs.lemmas.Bool.{and_parts, or_parts}
use Rattle.filing_model.specs.Common.Text.{Text, text_eq}
use Rattle.filing_model.specs.Common.TextMap.{get}
use Rattle.filing_model.specs.Oim.Reports.{Report}
use Rattle.filing_model.specs.Sessions.Repository.{Repository, report_at, fact_in, fact_at, with_report}
use Rattle.filing_model.specs.Sessions.Calls.{Call}
use Rattle.filing_model.specs.Sessions.Changes.{Change, declaring_if, declared_in}
use Rattle.filing_model.specs.Sessions.Replies.{Reply}
use Rattle.filing_model.specs.declared.duplicates.Allowed.{Allowed}
use Rattle.filing_model.specs.Sessions.Things as thing
use Rattle.filing_model.specs.Sessions.Things.{Thing, report_of, thing_eq, each_once}
use Rattle.filing_model.specs.Sessions.Sessions.{solo_copy}
use Rattle.filing_model.specs.Histories.History.{Step, Load, Open, Ask, Commit, Close, Entry, History, Status, Live, Ended}
use Rattle.filing_model.specs.Histories.History.{is_of, is_opening, opens, status_after, status_of, calls_of, replies_of}
use Rattle.filing_model.specs.Histories.History.{base_of, repository}
use Rattle.filing_model.specs.Histories.Touches.{reads, staged_places, staged_values, change_between, net_change_of, is_changed, is_loaded}
use Rattle.filing_model.specs.Histories.Touches.{touches_with, touches, number_in, last_touch, first_conflict}
use Rattle.filing_model.specs.Histories.Lawful.{IsLawful, IsNext, IsNextStep}
use Rattle.filing_model.specs.Histories.Versions.{counts}
use Rattle.filing_model.specs.declared.kind.Kind.{Kind}
use Rattle.filing_model.specs.declared.kind.Kind.TheVariants.{Amend}
use Rattle.filing_model.proofs.Common.Texts.{text_same}
use Rattle.filing_model.proofs.Sessions.Things.{thing_decides}
use Rattle.filing_model.proofs.Common.TextMaps.{get-insert}
use Rattle.filing_model.proofs.Common.Tests.{none_from_not_is_some}
use Rattle.filing_laws.specs.Serial.Untouched.{ReadsAreUntouched}
use Rattle.filing_laws.proofs.Lists.EachElement.{Each, each_mapped, IsNever}
use Rattle.filing_laws.proofs.Lists.EqualThings.{thing_same}
use Rattle.filing_laws.proofs.Lists.WithOneFact.{names_at}
use Rattle.filing_laws.proofs.Lists.WithOneValue.{bare_at, value_at, value_of_bare, last_value, nothing_declared}
use Rattle.filing_laws.proofs.Agreement.AgreeOnThings.{Agree, agree_itself, agree_then, agree_fact, shown, shown_value}
use Rattle.filing_laws.proofs.Opening.OwnReplies.{own_replies}
use Rattle.filing_laws.proofs.Agreement.RunsAlike.{run_alike, IsAlikeRun, IsValid, readings_valid, run_leaves_names, run_leaves_facts}
use Rattle.filing_laws.proofs.Agreement.RunsAlike.{run_leaves_heads, staged_were_read, is_place}
use Rattle.filing_laws.proofs.Touching.ChangedPlaces.{IsSameAt, IsLeftOut, changed_or_same, change_at-with_values, declared_in-with_values, shown_as_before}
use Rattle.filing_laws.proofs.Touching.ReportsStay.{reports_stay}
use Rattle.filing_laws.proofs.Touching.EntryCases.{Quiet, Accepted, Passed, IsAcceptedLoad, IsPassedCommit, entry_case, quiet_repository, passed_copy}

-- ---- none of the things read was touched

abbrev pub IsUntouched : ℕ → History → Thing → Type 0
IsUntouched s h t = last_touch s t h ≡ None

no_conflict_here : (t : Thing) (o : Option ℕ) (p : Option (ℕ × Thing)) → option_or (option_map (λ n. (n, t)) o) p ≡ None → (o ≡ None) × (p ≡ None)
no_conflict_here t None p e = (refl, e)
no_conflict_here t (Some n) p e = cc

pub untouched_things : (s : ℕ) (ts : List Thing) (h : History) → first_conflict s ts h ≡ None → Each (IsUntouched s h) ts
untouched_things s [] h none = tt
untouched_things s (t ∷ ts) h none =
    let parts = no_conflict_here t (last_touch s t h) (first_conflict s ts h) none in
    (parts.0, untouched_things s ts h parts.1)

each_other : (P : Thing → Type 0) (t : Thing) (ts : List Thing) → P t → Each P (filter (λ u. not (thing_eq t u)) ts) → Each P ts
each_other P t [] here each = tt
each_other P t (u ∷ ts) here each = by (each_other P t ts here) (thing_eq t u) refl each
  where
    by : (Each P (filter (λ u. not (thing_eq t u)) ts) → Each P ts) → (b : Bool) → thing_eq t u ≡ b
        → Each P (cond (not b) (u ∷ filter (λ u. not (thing_eq t u)) ts) (filter (λ u. not (thing_eq t u)) ts)) → P u × Each P ts
    by later true same each = (subst P (thing_same t u same) here, later each)
    by later false other each = (each.0, later each.1)

pub each_of_once : (P : Thing → Type 0) (ts : List Thing) → Each P (each_once ts) → Each P ts
each_of_once P [] each = tt
each_of_once P (t ∷ ts) each = (each.0, each_of_once P ts (each_other P t (each_once ts) each.0 each.1))

-- ---- what is known of all sessions

abbrev pub IsKnown : History → Type 0
IsKnown h = (s : ℕ) (kind : Kind) → status_of s h ≡ Live kind → (t : Thing) → IsValid t (base_of s h) → IsUntouched s h t → Agree t (base_of s h) (repository h)

each_joint : (P Q R : Thing → Type 0) → ((t : Thing) → P t → Q t → R t) → (ts : List Thing) → Each P ts → Each Q ts → Each R ts
each_joint P Q R f [] p q = tt
each_joint P Q R f (t ∷ ts) p q = (f t p.0 q.0, each_joint P Q R f ts p.1 q.1)

-- what an untouched session read, the repository agrees on with that of its opening
pub reads_agree : (h : History) (s : ℕ) (kind : Kind) → IsKnown h → status_of s h ≡ Live kind → ReadsAreUntouched kind s h
    → Each (λ t. Agree t (base_of s h) (repository h)) (reads kind (base_of s h) (calls_of s h))
reads_agree h s kind known live none =
    let things = reads kind (base_of s h) (calls_of s h) in
    let untouched = each_of_once (IsUntouched s h) things (untouched_things s (each_once things) h none) in
    each_joint (λ t. IsValid t (base_of s h)) (IsUntouched s h) (λ t. Agree t (base_of s h) (repository h)) (known s kind live) things
    (readings_valid kind (calls_of s h) (base_of s h)) untouched

-- ---- what an entry does not touch it keeps

kept_where_same : (t : Thing) (c d : Repository) → d ≡ c → Agree t c d
kept_where_same t c d same = subst (Agree t c) (sym same) (agree_itself t c)

apart_from_load : (t : Thing) (c : Repository) (name : Text) → IsValid t c → is_some (report_at c name) ≡ false → thing_eq t (thing.Report name) ≡ false
    → text_eq (report_of t) name ≡ false
apart_from_load t c name valid new apart = by t (text_eq (report_of t) name) refl valid apart
  where
    names_there : (o : Option Report) → is_some (option_map (λ r. r.names) o) ≡ is_some o
    names_there None = refl
    names_there (Some r) = refl

    clash : (m : Text) → text_eq m name ≡ true → is_some (names_at c m) ≡ true → ⊥
    clash m same valid = true≢false (sym valid ∙ names_there (report_at c m) ∙ ap (λ n. is_some (report_at c n)) (text_same m name same) ∙ new)

    by : (t : Thing) (b : Bool) → text_eq (report_of t) name ≡ b → IsValid t c → thing_eq t (thing.Report name) ≡ false → b ≡ false
    by t false is valid apart = refl
    by (thing.Report m) true is valid apart =
        absurd (true≢false (sym ((thing_decides (thing.Report m) (thing.Report name)).1 (ap thing.Report (text_same m name is))) ∙ apart))
    by t true is valid apart = absurd (clash (report_of t) is valid)

load_keeps : (t : Thing) (c : Repository) (name : Text) (x : Report) → text_eq (report_of t) name ≡ false → Agree t c (with_report c name x)
load_keeps t c name x apart =
    let same : report_at (with_report c name x) (report_of t) ≡ report_at c (report_of t) =
    get-insert c.reports name x (report_of t) ∙ ap (λ b. cond b (Some x) (get c.reports (report_of t))) apart in
    record {
      names = sym (ap (option_map (λ (r : Report). r.names)) same);
      facts = λ id. sym (ap (λ o. shown t id (option_and_then (λ r. fact_in r id) o)) same);
      value = sym (ap (λ o. shown_value t (option_map (λ (r : Report). r.allowed) o)) same);
    }

accepted_keeps : (older : History) (e : Entry) (t : Thing) → IsAcceptedLoad older e → IsValid t (repository older) → touches e older t ≡ false
    → Agree t (repository older) (repository (e ∷ older))
accepted_keeps older e t load valid untouched =
    let loaded : touches e older t ≡ thing_eq t (thing.Report load.name) =
    ap (λ r. touches_with r e older t) load.reply ∙ ap (λ step. is_loaded step t) load.step in
    subst (Agree t (repository older)) (sym load.result)
    (load_keeps t (repository older) load.name load.report (apart_from_load t (repository older) load.name valid load.new (sym loaded ∙ untouched)))

-- a place that an untouched session staged and that its net change leaves out
left_place : (h : History) (s : ℕ) → IsAlikeRun Amend (calls_of s h) (base_of s h) (repository h) → (after : Repository)
    → ((m q : Text) → fact_at after m q ≡ fact_at (passed_copy s h) m q)
    → (p : Text × Text) → Agree (thing.Id p.0 p.1) (base_of s h) (repository h)
    → IsLeftOut (base_of s h) (solo_copy Amend (base_of s h) (calls_of s h)) (repository h) after p
left_place h s run after facts p agree out =
    let copy : Repository = solo_copy Amend (base_of s h) (calls_of s h) in
    let parts = or_parts (is_some (fact_at (base_of s h) p.0 p.1)) (is_some (fact_at copy p.0 p.1)) out in
    sym (agree_fact p.0 p.1 (base_of s h) (repository h) agree)
    ∙ none_from_not_is_some (fact_at (base_of s h) p.0 p.1) parts.0
    ∙ sym (none_from_not_is_some (fact_at copy p.0 p.1) parts.1)
    ∙ agree_fact p.0 p.1 copy (passed_copy s h) (run.kept (thing.Id p.0 p.1) agree)
    ∙ sym (facts p.0 p.1)

passed_keeps : (older : History) (e : Entry) (t : Thing) → IsLawful older → IsKnown older → IsPassedCommit older e → touches e older t ≡ false
    → Agree t (repository older) (repository (e ∷ older))
passed_keeps older e t lawful known passed untouched = record {
  names = sym (ap (λ c. names_at c (report_of t)) passed.result ∙ run_leaves_names Amend calls before (report_of t));
  facts = λ id. elim (changed_or_same opening copy before after places (report_of t) id left (out id)) [
    | inl changed ↦ shown_as_before t before after net id unchanged
        (ap is_some (change_at-with_values values (change_between opening copy places) (report_of t) id) ∙ changed)
    | inr same ↦ ap (shown t id) same
  ];
  value = value_kept t unchanged;
}
  where
    before : Repository
    before = repository older

    after : Repository
    after = repository (e ∷ older)

    calls : List Call
    calls = calls_of passed.s older

    opening : Repository
    opening = base_of passed.s older

    copy : Repository
    copy = solo_copy Amend opening calls

    places : List (Text × Text)
    places = staged_places calls (replies_of passed.s older)

    values : List (Text × Allowed)
    values = staged_values calls (replies_of passed.s older)

    net : Change
    net = net_change_of passed.s older

    facts : (m q : Text) → fact_at after m q ≡ fact_at (passed_copy passed.s older) m q
    facts m q = ap (λ c. fact_at c m q) passed.result

    agree : Each (λ t. Agree t opening before) (reads Amend opening calls)
    agree = reads_agree older passed.s Amend known passed.live passed.untouched

    run : IsAlikeRun Amend calls opening before
    run = run_alike Amend calls opening before (reports_stay older passed.s lawful) agree

    staged : Each (λ (p : Text × Text). Agree (thing.Id p.0 p.1) opening before) places
    staged = subst (λ rs. Each (λ (p : Text × Text). Agree (thing.Id p.0 p.1) opening before) (staged_places calls rs))
        (sym (own_replies older passed.s Amend lawful passed.live))
        (staged_were_read (λ t. Agree t opening before) Amend calls opening agree)

    left : Each (IsLeftOut opening copy before after) places
    left = each_mapped (λ (p : Text × Text). Agree (thing.Id p.0 p.1) opening before) (IsLeftOut opening copy before after)
        (left_place older passed.s run after facts) places staged

    out : (id : Text) → IsNever (is_place (report_of t) id) places → IsSameAt before after (report_of t, id)
    out id never = sym (facts (report_of t) id
        ∙ run_leaves_facts Amend calls before (report_of t) id
        (subst (λ rs. IsNever (is_place (report_of t) id) (staged_places calls rs)) passed.earlier never))

    unchanged : is_changed before after net t ≡ false
    unchanged =
        sym (ap (λ r. touches_with r e older t) passed.reply
        ∙ ap (λ o. option_map_or (λ s. is_changed before after (net_change_of s older) t) o false) passed.of_it)
        ∙ untouched

    undeclared : (name : Text) (o : Option Allowed) → last_value name values ≡ o
        → is_some (option_or o (declared_in (change_between opening copy places) name)) ≡ false → o ≡ None
    undeclared name None is none = refl
    undeclared name (Some value) is none = absurd (true≢false none)

    value_same : (name : Text) → is_some (declared_in net name) ≡ false → value_at before name ≡ value_at after name
    value_same name none =
        let last : last_value name values ≡ None = undeclared name (last_value name values) refl
        (sym (ap is_some (declared_in-with_values values (change_between opening copy places) name)) ∙ none) in
        sym (ap (λ c. value_at c name) passed.result
        ∙ value_of_bare (passed_copy passed.s older) name
        ∙ ap (option_map (λ (r : Report). r.allowed)) (run_leaves_heads Amend calls before name)
        ∙ ap (λ rs. option_map (λ (r : Report). r.allowed) (option_map (declaring_if (last_value name (staged_values calls rs))) (bare_at before name)))
        (sym passed.earlier)
        ∙ ap (λ v. option_map (λ (r : Report). r.allowed) (option_map (declaring_if v) (bare_at before name))) last
        ∙ ap (option_map (λ (r : Report). r.allowed)) (nothing_declared (bare_at before name))
        ∙ sym (value_of_bare before name))

    value_kept : (t : Thing) → is_changed before after net t ≡ false
        → shown_value t (value_at before (report_of t)) ≡ shown_value t (value_at after (report_of t))
    value_kept (thing.Policy name) none = value_same name none
    value_kept t none = refl

pub step_keeps : (older : History) (e : Entry) (t : Thing) → IsLawful older → IsKnown older → IsNext older e → IsValid t (repository older)
    → touches e older t ≡ false → Agree t (repository older) (repository (e ∷ older))
step_keeps older e t lawful known next valid untouched = elim (entry_case older e next) [
  | Quiet quiet ↦ kept_where_same t (repository older) (repository (e ∷ older)) (quiet_repository older e quiet)
  | Accepted load ↦ accepted_keeps older e t load valid untouched
  | Passed passed ↦ passed_keeps older e t lawful known passed untouched
]

-- ---- the induction

opening_is_quiet : (older : History) (session : Option ℕ) (step : Step) (r : Reply) → IsNextStep older session step r → is_opening step ≡ true
    → counts r ≡ false
opening_is_quiet older session (Open kind) r h is = ap counts h.1
opening_is_quiet older session step r h is = absurd (true≢false (sym is))

live_after : (step : Step) (status : Status) (kind : Kind) → is_opening step ≡ false → status_after step status ≡ Live kind → status ≡ Live kind
live_after (Load name x) status kind other live = live
live_after (Open k) status kind other live = absurd (true≢false other)
live_after (Ask call) status kind other live = live
live_after Commit status kind other live = let apart : Ended ≡ Live kind = live in cc
live_after Close status kind other live = let apart : Ended ≡ Live kind = live in cc

-- a session that is open after an entry that is not its opening was open before
pub live_before : (s : ℕ) (kind : Kind) (e : Entry) (older : History) → opens s e ≡ false → status_of s (e ∷ older) ≡ Live kind → status_of s older ≡ Live kind
live_before s kind e older other live = by (is_of s e) refl other live
  where
    by : (b : Bool) → is_of s e ≡ b → (b && is_opening e.step) ≡ false → cond b (status_after e.step (status_of s older)) (status_of s older) ≡ Live kind
        → status_of s older ≡ Live kind
    by true is other live = live_after e.step (status_of s older) kind other live
    by false is other live = live

not_touched : (b : Bool) (n : ℕ) (o : Option ℕ) → cond b (Some n) o ≡ None → (b ≡ false) × (o ≡ None)
not_touched true n o e = cc
not_touched false n o e = (refl, e)

pub known : (h : History) → IsLawful h → IsKnown h
known [] lawful s kind live t valid untouched = agree_itself t (repository [])
known (e ∷ older) lawful s kind live t valid untouched = by (known older lawful.0) (opens s e) refl valid untouched
  where
    by : IsKnown older → (b : Bool) → opens s e ≡ b → IsValid t (cond b (repository older) (base_of s older))
        → cond b None (cond (touches e older t) (Some (number_in e.reply)) (last_touch s t older)) ≡ None
        → Agree t (cond b (repository older) (base_of s older)) (repository (e ∷ older))
    by before true is valid untouched =
        let opening = (and_parts (is_of s e) (is_opening e.step) is).1 in
        kept_where_same t (repository older) (repository (e ∷ older))
        (quiet_repository older e (opening_is_quiet older e.session e.step e.reply lawful.1 opening))
    by before false is valid untouched =
        let parts = not_touched (touches e older t) (number_in e.reply) (last_touch s t older) untouched in
        let agree = before s kind (live_before s kind e older is live) t valid parts.1 in
        agree_then t (base_of s older) (repository older) (repository (e ∷ older)) agree
        (step_keeps older e t lawful.0 before lawful.1 (sym (ap is_some agree.names) ∙ valid) parts.0)

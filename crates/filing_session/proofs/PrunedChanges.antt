-- A change without removals of what the base does not have, look-up by look-up, and that changes which look alike are one.
use Rattle.std.proofs.Common.{◌≡◌, ◌∙◌, ap, sym, refl, Bool, true, false, cond, T, ◌&&◌, ◌||◌, filter, List, [], ◌∷◌, map, Option, Some}
use Rattle.std.proofs.Common.{None, is_some, unwrap_or, Less, Equal, Greater, true≢false}
use Rattle.std.specs.List.{list_any}
use Rattle.std.specs.Option.{option_or}
use Rattle.std.specs.FinMap.Entries.{find, by_order, put, is_sorted, below_all}
use Rattle.filing_model.specs.Common.Text.{Text, text_cmp, text_eq}
use Rattle.filing_model.specs.Common.TextMap.{TextMap, empty, get, insert}
use Rattle.filing_model.specs.Oim.Facts.{Fact}
use Rattle.filing_model.specs.Sessions.Repository.{Repository, fact_at}
use Rattle.filing_model.specs.Sessions.Changes.{ReportChange, Change, no_change, change_in, change_at, declared_in, with_change, with_declared}
use Rattle.filing_model.specs.Sessions.Calls.{Call}
use Rattle.filing_model.specs.Sessions.Sessions.{solo_copy, solo_replies}
use Rattle.filing_model.specs.Histories.Touches.{staged_places, staged_values, change_between, with_values, net_change}
use Rattle.filing_model.specs.declared.duplicates.Allowed.{Allowed}
use Rattle.filing_model.specs.declared.kind.Kind.TheVariants.{Amend}
use Rattle.filing_model.proofs.Common.Texts.{text_same, text_cmp-Equal}
use Rattle.filing_model.proofs.Common.TextMaps.{same_list, same_map, get-insert, get-from_entries}
use Rattle.filing_model.proofs.Common.Tests.{second_holds}
use Rattle.filing_model.proofs.Common.FilteredEntries.{only, find-filter}
use Rattle.filing_laws.proofs.Lists.WithOneValue.{last_value, or_none}
use Rattle.filing_laws.proofs.Agreement.RunsAlike.{is_place}
use Rattle.filing_laws.proofs.Touching.ChangedPlaces.{change_at-with_values, declared_in-with_values, declared_in-change_between}
use Rattle.filing_laws.proofs.Updating.FirstFound.{none_behind}
use Rattle.filing_laws.proofs.Updating.NetChanges.{change_at-change_between}
use Rattle.filing_session.specs.States.{opened, after_calls}
use Rattle.filing_session.specs.Runs.{is_put, pruned_report, is_more, changes_something, pruned, EachAmendmentStagesItsNetChange}
use Rattle.filing_session.proofs.StagedChanges.{value_is, put_is, makes_the_copy}

-- ---- changes in which each report has something

-- what changes, if anything does
abbrev if_any : Text → ReportChange → Option ReportChange
if_any name change = cond (changes_something (name, change)) (Some change) None

abbrev IsFull : Change → Type 0
IsFull change = (name : Text) → get change name ≡ if_any name (change_in change name)

-- two such changes that declare and put the same are one
same_change : (c d : Change) → IsFull c → IsFull d
    → ((m : Text) → declared_in c m ≡ declared_in d m) → ((m q : Text) → change_at c m q ≡ change_at d m q) → c ≡ d
same_change c d full also values facts = same_map c d (λ m.
    full m
    ∙ ap (if_any m) (λ i. record { declared = values m i; facts = same_map (change_in c m).facts (change_in d m).facts (facts m) i })
    ∙ sym (also m))

-- something that changes, in place of another report's change
full_with : (change : Change) (name : Text) (new : ReportChange) → changes_something (name, new) ≡ true → IsFull change → IsFull (insert change name new)
full_with change name new some full m = by (text_eq m name) refl
  where
    found : (b : Bool) → text_eq m name ≡ b → get (insert change name new) m ≡ cond b (Some new) (get change m)
    found b is = get-insert change name new m ∙ ap (λ b. cond b (Some new) (get change m)) is

    by : (b : Bool) → text_eq m name ≡ b → get (insert change name new) m ≡ if_any m (change_in (insert change name new) m)
    by true same =
        found true same
        ∙ sym (ap (λ t. cond t (Some new) None) some)
        ∙ sym (ap (λ o. if_any m (unwrap_or o no_change)) (found true same))
    by false other = found false other ∙ full m ∙ sym (ap (λ o. if_any m (unwrap_or o no_change)) (found false other))

or_true : (b : Bool) → (b || true) ≡ true
or_true true = refl
or_true false = refl

put_more : (id : Text) (fact : Option Fact) (es : List (Text × Option Fact)) → is_more (put text_cmp id fact es) ≡ true
put_more id fact [] = refl
put_more id fact (e ∷ es) =
    elim (text_cmp id e.0) as (λ o. is_more (by_order o ((id, fact) ∷ e ∷ es) ((e.0, fact) ∷ es) (e ∷ put text_cmp id fact es)) ≡ true) [
      | Less ↦ refl
      | Equal ↦ refl
      | Greater ↦ refl
    ]

full_with_change : (change : Change) (name id : Text) (fact : Option Fact) → IsFull change → IsFull (with_change change name id fact)
full_with_change change name id fact full =
    full_with change name (record (change_in change name) { facts = insert (change_in change name).facts id fact })
    (ap (λ b. is_some (change_in change name).declared || b) (put_more id fact (change_in change name).facts.entries)
    ∙ or_true (is_some (change_in change name).declared)) full

full_with_declared : (change : Change) (name : Text) (value : Allowed) → IsFull change → IsFull (with_declared change name value)
full_with_declared change name value full = full_with change name (record (change_in change name) { declared = Some value }) refl full

full_between : (opening copy : Repository) (places : List (Text × Text)) → IsFull (change_between opening copy places)
full_between opening copy [] = λ m. refl
full_between opening copy (p ∷ ps) = by (is_some (fact_at opening p.0 p.1) || is_some (fact_at copy p.0 p.1)) (full_between opening copy ps)
  where
    by : (b : Bool) → IsFull (change_between opening copy ps)
        → IsFull (cond b (with_change (change_between opening copy ps) p.0 p.1 (fact_at copy p.0 p.1)) (change_between opening copy ps))
    by true full = full_with_change (change_between opening copy ps) p.0 p.1 (fact_at copy p.0 p.1) full
    by false full = full

full_values : (values : List (Text × Allowed)) (change : Change) → IsFull change → IsFull (with_values values change)
full_values [] change full = full
full_values (v ∷ vs) change full = full_values vs (with_declared change v.0 v.1) (full_with_declared change v.0 v.1 full)

-- ---- a pruned change

-- in one report
abbrev without : Repository → Text → ReportChange → ReportChange
without base name change = (pruned_report base (name, change)).1

if_there : Repository → Text → Option ReportChange → Option ReportChange
if_there base name None = None
if_there base name (Some change) = if_any name (without base name change)

find_pruned : (base : Repository) (m : Text) (es : List (Text × ReportChange)) → T (is_sorted text_cmp es)
    → find text_cmp m (filter changes_something (map (pruned_report base) es)) ≡ if_there base m (find text_cmp m es)
unfolding if_there
find_pruned base m [] sorted = refl
find_pruned base m (e ∷ es) sorted =
    by (changes_something (pruned_report base e)) refl (text_eq m e.0) refl
    (find_pruned base m es (second_holds (below_all text_cmp e.0 es) (is_sorted text_cmp es) sorted))
  where
    rest : List (Text × ReportChange)
    rest = filter changes_something (map (pruned_report base) es)

    here : text_eq m e.0 ≡ true → (b : Bool) → changes_something (pruned_report base e) ≡ b
        → cond b (Some (without base e.0 e.1)) None ≡ if_any m (without base m e.1)
    here same b is =
        ap (λ b. cond b (Some (without base e.0 e.1)) None) (sym is)
        ∙ (λ i. if_any (sym (text_same m e.0 same) i) (without base (sym (text_same m e.0 same) i) e.1))

    by : (some : Bool) → changes_something (pruned_report base e) ≡ some → (b : Bool) → text_eq m e.0 ≡ b
        → find text_cmp m rest ≡ if_there base m (find text_cmp m es)
        → find text_cmp m (cond some (pruned_report base e ∷ rest) rest) ≡ if_there base m (cond b (Some e.1) (find text_cmp m es))
    by true some true same later = ap (λ b. cond b (Some (without base e.0 e.1)) (find text_cmp m rest)) same ∙ here same true some
    by false none true same later = later ∙ ap (if_there base m) (none_behind m e es sorted same) ∙ here same false none
    by true some false other later = ap (λ b. cond b (Some (without base e.0 e.1)) (find text_cmp m rest)) other ∙ later
    by false none false other later = later

get_pruned : (base : Repository) (change : Change) (m : Text) → get (pruned base change) m ≡ if_any m (without base m (change_in change m))
unfolding if_there
get_pruned base change m =
    get-from_entries (filter changes_something (map (pruned_report base) change.entries)) m
    ∙ find_pruned base m change.entries change.sorted
    ∙ by (get change m)
  where
    by : (o : Option ReportChange) → if_there base m o ≡ if_any m (without base m (unwrap_or o no_change))
    by None = refl
    by (Some x) = refl

no_more : {X : Type 0} (xs : List X) → is_more xs ≡ false → [] ≡ xs
no_more [] none = refl
no_more (x ∷ xs) none = absurd (true≢false none)

-- what is found in it
in_any : (m : Text) (change : ReportChange) → unwrap_or (if_any m change) no_change ≡ change
in_any m change = by change.declared change.facts (is_more change.facts.entries) refl
  where
    by : (o : Option Allowed) (facts : TextMap (Option Fact)) (b : Bool) → is_more facts.entries ≡ b
        → unwrap_or (cond (is_some o || b) (Some (record { declared = o; facts = facts })) None) no_change ≡ record { declared = o; facts = facts }
    by (Some value) facts b is = refl
    by None facts true is = refl
    by None facts false is = ap (λ fs. record { declared = None; facts = fs }) (same_list empty facts (no_more facts.entries is))

change_in-pruned : (base : Repository) (change : Change) (m : Text) → change_in (pruned base change) m ≡ without base m (change_in change m)
change_in-pruned base change m = ap (λ o. unwrap_or o no_change) (get_pruned base change m) ∙ in_any m (without base m (change_in change m))

full_pruned : (base : Repository) (change : Change) → IsFull (pruned base change)
full_pruned base change m = get_pruned base change m ∙ ap (if_any m) (sym (change_in-pruned base change m))

change_at-pruned : (base : Repository) (change : Change) (m q : Text)
    → change_at (pruned base change) m q ≡ only (λ put. is_put base m (q, put)) (change_at change m q)
change_at-pruned base change m q =
    ap (λ (x : ReportChange). get x.facts q) (change_in-pruned base change m)
    ∙ get-from_entries (filter (is_put base m) (change_in change m).facts.entries) q
    ∙ find-filter text_cmp (λ id put. is_put base m (id, put)) text_cmp-Equal q (change_in change m).facts.entries (change_in change m).facts.sorted

-- ---- an amendment's change

module _ (base : Repository) (calls : List Call) where
  abbrev change : Change
  change = (after_calls calls (opened Amend base)).change

  abbrev copy : Repository
  copy = solo_copy Amend base calls

  abbrev places : List (Text × Text)
  places = staged_places calls (solo_replies Amend base calls)

  abbrev values : List (Text × Allowed)
  values = staged_values calls (solo_replies Amend base calls)

  pub declared_as_net : (m : Text) → declared_in change m ≡ declared_in (net_change base calls (solo_replies Amend base calls)) m
  declared_as_net m =
      value_is base calls m
      ∙ sym (declared_in-with_values values (change_between base copy places) m
      ∙ ap (option_or (last_value m values)) (declared_in-change_between base copy places m)
      ∙ or_none (last_value m values))

  same_values : (m : Text) → declared_in (pruned base change) m ≡ declared_in (net_change base calls (solo_replies Amend base calls)) m
  same_values m = ap (λ (x : ReportChange). x.declared) (change_in-pruned base change m) ∙ declared_as_net m

  same_puts : (m q : Text) → change_at (pruned base change) m q ≡ change_at (net_change base calls (solo_replies Amend base calls)) m q
  same_puts m q =
      change_at-pruned base change m q
      ∙ ap (only (λ put. is_put base m (q, put))) (put_is base calls m q)
      ∙ by (list_any (is_place m q) places)
      ∙ sym (change_at-with_values values (change_between base copy places) m q ∙ change_at-change_between base copy places m q)
    where
      by : (b : Bool) → only (λ put. is_put base m (q, put)) (cond b (Some (fact_at copy m q)) None)
          ≡ cond (b && (is_some (fact_at base m q) || is_some (fact_at copy m q))) (Some (fact_at copy m q)) None
      by true = refl
      by false = refl

  net : pruned base change ≡ net_change base calls (solo_replies Amend base calls)
  net = same_change (pruned base change) (net_change base calls (solo_replies Amend base calls)) (full_pruned base change)
      (full_values values (change_between base copy places) (full_between base copy places)) same_values same_puts

pub each_amendment_stages_its_net_change : EachAmendmentStagesItsNetChange
each_amendment_stages_its_net_change base calls = record { net = net base calls; makes_the_copy = makes_the_copy base calls }

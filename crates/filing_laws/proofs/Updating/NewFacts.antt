-- Where a change is laid over a repository that obeys, its new facts alone decide which cells are disallowed, but for reports that are to declare a value.
use Rattle.std.proofs.Common.{◌≡◌, ◌∙◌, ap, sym, refl, subst, Bool, true, false, cond, not, ◌&&◌, ◌||◌, List, []}
use Rattle.std.proofs.Common.{◌∷◌, map, filter, filter_map, Option, Some, None, is_some, option_map}
use Rattle.std.proofs.Common.{option_and_then, unwrap_or, true≢false, Ordering, Less, Equal, Greater, is_gt}
use Rattle.std.proofs.lemmas.Bool.{not-true}
use Rattle.std.specs.List.{list_all, list_any, cons_option, find as find_in}
use Rattle.std.specs.Option.{option_map_or, option_or}
use Rattle.std.specs.Ordering.{ordering_reverse}
use Rattle.std.specs.FinMap.Entries.{find, where_key, find-where_key, is_sorted-where_key}
use Rattle.filing_model.specs.Common.Text.{Text, text_cmp, text_eq}
use Rattle.filing_model.specs.Common.TextMap.{TextMap, get}
use Rattle.filing_model.specs.Oim.Dimensions.{Dims, dims_cmp, dims_eq}
use Rattle.filing_model.specs.Oim.Facts.{Fact}
use Rattle.filing_model.specs.Oim.Reports.{Report}
use Rattle.filing_model.specs.Sessions.Repository.{Repository, report_at}
use Rattle.filing_model.specs.Oim.Duplicates.{pair_of, class_of, every_pair, allows, permits, facts_of, obeys, has_dims, is_disallowed, least_dims, least_disallowed}
use Rattle.filing_model.specs.Sessions.Queries.{cell_facts, cell_ids}
use Rattle.filing_model.specs.Sessions.Replies as reply
use Rattle.filing_model.specs.Sessions.Replies.{Reply}
use Rattle.filing_model.specs.Sessions.Sessions.{report_obeys, repository_obeys, disallowed_cell, refusal_of}
use Rattle.filing_model.specs.Histories.History.{repository}
use Rattle.filing_model.specs.Sessions.Changes.{ReportChange, Change, no_change, change_in, with_facts, declaring_if, changed, laid_over, least_among, least_changed, find_map, first_disallowed}
use Rattle.filing_model.specs.Histories.Touches.{net_change_of}
use Rattle.filing_model.specs.declared.duplicates.Allowed.{Allowed}
use Rattle.filing_model.specs.declared.duplicates.Class.TheVariants.{Empty}
use Rattle.filing_laws.specs.Updating.Obeying.{is_allowed}
use Rattle.filing_laws.specs.Updating.NetChange.{IsDisallowedCell, least_disallowed_of, refusal_at, IsDecidedByNewFacts}
use Rattle.filing_laws.specs.Updating.NetChange.{EachDisallowedCellHoldsANewFact, EachDisallowedCellOfACopyHoldsANewFact}
use Rattle.filing_laws.specs.Updating.NetChange.{EachChangeIsDecidedByItsNewFacts, EachCopyIsDecidedByItsNewFacts}
use Rattle.filing_laws.proofs.Lists.EachElement.{Each, OnEach, IsNever, never_parts}
use Rattle.filing_model.proofs.Oim.EveryPair.{pairs_filter}
use Rattle.filing_model.proofs.Common.Texts.{text_cmp-Equal, text_same}
use Rattle.filing_model.proofs.Oim.DimensionSets.{dims_same, dims_cmp-Equal, dims_cmp-total}
use Rattle.filing_model.proofs.Oim.DisallowedCells.{obeys_where_no_cell_is_disallowed}
use Rattle.filing_model.proofs.Common.FilteredEntries.{only}
use Rattle.filing_laws.proofs.Lists.FilteredFacts.{those_same}
use Rattle.filing_laws.proofs.Updating.AllowedCells.{has_these, passes_each, kept_where_passed, nothing_least, disallowed_is_there, entries_allowed, each_has, least_of, obeys_where_each_cell_is_allowed}
use Rattle.filing_laws.proofs.Stamping.VersionChain.{repository_obeys_always}
use Rattle.filing_laws.proofs.Updating.LaidOver.{bare-with_facts, fact_in-with_facts, report_at-laid_over}
use Rattle.filing_laws.proofs.Updating.NetChanges.{each_net_change_makes_the_copy}
use Rattle.filing_laws.proofs.Updating.FirstFound.{each_is_found, all_found, first_same}

-- ---- which facts are new

-- what holds of each entry holds of one that is found
each_found : {X : Type 0} (P : Text × X → Type 0) (key : Text) (x : X) (es : List (Text × X)) → Each P es → find text_cmp key es ≡ Some x → P (key, x)
each_found P key x [] each found = let apart : None ≡ Some x = found in cc
each_found P key x (e ∷ es) each found = by (each_found P key x es each.1) (text_eq key e.0) refl found
  where
    by : (find text_cmp key es ≡ Some x → P (key, x)) → (b : Bool) → text_eq key e.0 ≡ b → cond b (Some e.1) (find text_cmp key es) ≡ Some x → P (key, x)
    by later true same is = let value : e.1 ≡ x = cc in subst P (λ i. (sym (text_same key e.0 same) i, value i)) each.0
    by later false other is = later is

-- the facts that are put; a removal puts none
abbrev put_facts : TextMap (Option Fact) → List Fact
put_facts ids = filter_map (λ e. e.1) ids.entries

module _ (test : Fact → Bool) where
  -- of what passes for none of the new facts
  none_new : (es : List (Text × Option Fact)) → IsNever test (filter_map (λ e. e.1) es) → Each (λ e. OnEach (λ f. test f ≡ false) e.1) es
  none_new [] never = tt
  none_new (e ∷ es) never = by (e.1) never (none_new es)
    where
      by : (o : Option Fact) → IsNever test (cons_option o (filter_map (λ e. e.1) es)) → (IsNever test (filter_map (λ e. e.1) es) → Each (λ e. OnEach (λ f. test f ≡ false) e.1) es)
          → OnEach (λ f. test f ≡ false) o × Each (λ e. OnEach (λ f. test f ≡ false) e.1) es
      by None never later = (tt, later never)
      by (Some f) never later = let parts = never_parts test f (filter_map (λ e. e.1) es) never in (parts.0, later parts.1)

  -- a new fact that passes, and where it stands
  record IsNewAt (all : List (Text × Option Fact)) : Type 0 where
    id : Text
    fact : Fact
    found : find text_cmp id all ≡ Some (Some fact)
    passes : test fact ≡ true

  some_new : (all es : List (Text × Option Fact)) → Each (λ e. find text_cmp e.0 all ≡ Some e.1) es → list_any test (filter_map (λ e. e.1) es) ≡ true → IsNewAt all
  some_new all [] each any = absurd (true≢false (sym any))
  some_new all (e ∷ es) each any = by (e.1) refl any (some_new all es each.1)
    where
      by : (o : Option Fact) → e.1 ≡ o → list_any test (cons_option o (filter_map (λ e. e.1) es)) ≡ true → (list_any test (filter_map (λ e. e.1) es) ≡ true → IsNewAt all) → IsNewAt all
      by None is any later = later any
      by (Some f) is any later = at (test f) refl any
        where
          at : (b : Bool) → test f ≡ b → (b || list_any test (filter_map (λ e. e.1) es)) ≡ true → IsNewAt all
          at true passes any = record { id = e.0; fact = f; found = each.0 ∙ ap Some is; passes = passes }
          at false fails any = later any

-- ---- a cell without new facts

all_map : {A B : Type 0} (test : B → Bool) (g : A → B) (xs : List A) → list_all test (map g xs) ≡ list_all (λ x. test (g x)) xs
all_map test g [] = refl
all_map test g (x ∷ xs) = ap (λ b. test (g x) && b) (all_map test g xs)

pairs_map : {A B : Type 0} (test : B → B → Bool) (g : A → B) (xs : List A) → every_pair test (map g xs) ≡ every_pair (λ x y. test (g x) (g y)) xs
pairs_map test g [] = refl
pairs_map test g (x ∷ xs) = λ i. all_map (test (g x)) g xs i && pairs_map test g xs i

-- fewer entries obey too
fewer_obey : (a : Allowed) (p : Text × Fact → Bool) (entries : List (Text × Fact)) → obeys a entries ≡ true → obeys a (filter p entries) ≡ true
fewer_obey a p entries holds =
    let test : Fact → Fact → Bool = λ f g. permits a (pair_of f g) in
    pairs_map test (λ e. e.1) (filter p entries)
    ∙ pairs_filter (λ x y. test x.1 y.1) p entries (sym (pairs_map test (λ e. e.1) entries) ∙ holds)

module _ (r : Report) (ids : TextMap (Option Fact)) where
  -- the facts that the change leaves as they are
  abbrev is_left : Text → Bool
  is_left k = not (is_some (get ids k))

  abbrev left_facts : TextMap Fact
  left_facts = record { entries = where_key text_cmp is_left r.facts.entries; sorted = is_sorted-where_key text_cmp is_left r.facts.entries r.facts.sorted }

  get-left_facts : (q : Text) → get left_facts q ≡ cond (is_left q) (get r.facts q) None
  get-left_facts q = find-where_key text_cmp is_left q (λ x same. ap is_left (sym (text_cmp-Equal q x same))) r.facts.entries

  left_alike : (dims : Dims) (q : Text) → IsNever (has_dims dims) (put_facts ids) → only (has_dims dims) (get (with_facts ids.entries r).facts q) ≡ only (has_dims dims) (get left_facts q)
  left_alike dims q never =
      ap (only (has_dims dims)) (fact_in-with_facts ids.entries r q)
      ∙ by (get ids q) refl
      ∙ ap (only (has_dims dims)) (sym (get-left_facts q))
    where
      by : (o : Option (Option Fact)) → get ids q ≡ o → only (has_dims dims) (unwrap_or o (get r.facts q)) ≡ only (has_dims dims) (cond (not (is_some o)) (get r.facts q) None)
      by None is = refl
      by (Some None) is = refl
      by (Some (Some f)) is =
          ap (λ b. cond b (Some f) None) (each_found (λ e. OnEach (λ f. has_dims dims f ≡ false) e.1) q (Some f) ids.entries (none_new (has_dims dims) ids.entries never) is)

  -- it is allowed, as it was
  allowed_without_new : report_obeys r ≡ true → (dims : Dims) → IsNever (has_dims dims) (put_facts ids)
      → is_allowed (with_facts ids.entries r).allowed (with_facts ids.entries r).facts.entries dims ≡ true
  allowed_without_new holds dims never =
      ap (λ (x : Report). is_allowed x.allowed (with_facts ids.entries r).facts.entries dims) (bare-with_facts ids.entries r)
      ∙ ap (λ es. allows r.allowed (class_of (facts_of es))) (those_same (λ id fact. has_dims dims fact) (with_facts ids.entries r).facts left_facts (λ q. left_alike dims q never))
      ∙ (obeys_where_each_cell_is_allowed r.allowed left_facts.entries).0 (fewer_obey r.allowed (λ e. is_left e.0) r.facts.entries holds) dims

  -- so each disallowed cell has a new fact
  new_where_disallowed : report_obeys r ≡ true → (dims : Dims)
      → is_allowed (with_facts ids.entries r).allowed (with_facts ids.entries r).facts.entries dims ≡ false
      → list_any (has_dims dims) (put_facts ids) ≡ true
  new_where_disallowed holds dims disallowed = by (list_any (has_dims dims) (put_facts ids)) refl
    where
      by : (b : Bool) → list_any (has_dims dims) (put_facts ids) ≡ b → b ≡ true
      by true any = refl
      by false never = absurd (true≢false (sym (allowed_without_new holds dims never) ∙ disallowed))

-- ---- the least cell

any_map : {A B : Type 0} (test : B → Bool) (g : A → B) (xs : List A) → list_any test (map g xs) ≡ list_any (λ x. test (g x)) xs
any_map test g [] = refl
any_map test g (x ∷ xs) = ap (λ b. test (g x) || b) (any_map test g xs)

-- all that pass are in both lists, so the least that passes is the same
least_where : (p : Dims → Bool) (xs ys : List Dims) → ((d : Dims) → p d ≡ true → has_these d xs ≡ true)
    → ((d : Dims) → p d ≡ true → has_these d ys ≡ true) → least_dims (filter p xs) ≡ least_dims (filter p ys)
least_where p xs ys in_xs in_ys = by (least_dims (filter p xs)) refl (least_dims (filter p ys)) refl
  where
    IsLeastIn : List Dims → Dims → Type 0
    IsLeastIn ds d = (p d ≡ true) × Each (λ e. is_gt (dims_cmp d e) ≡ false) (filter p ds)

    least_in : (ds : List Dims) (d : Dims) → least_dims (filter p ds) ≡ Some d → IsLeastIn ds d
    least_in ds d is = least_of (λ e. p e ≡ true) (filter p ds) d (passes_each p ds) is

    never : (ds es : List Dims) (d : Dims) → ((e : Dims) → p e ≡ true → has_these e ds ≡ true) → least_dims (filter p ds) ≡ None → least_dims (filter p es) ≡ Some d → ⊥
    never ds es d in_ds none some =
        let passes = (least_in es d some).0 in
        true≢false (sym (kept_where_passed p d ds passes (in_ds d passes)) ∙ ap (has_these d) (nothing_least (filter p ds) none))

    tied : (d e : Dims) → is_gt (dims_cmp d e) ≡ false → is_gt (dims_cmp e d) ≡ false → (o : Ordering) → dims_cmp d e ≡ o → d ≡ e
    tied d e de ed Less is = absurd (true≢false (sym (ap is_gt (dims_cmp-total.antisymm e d ∙ ap ordering_reverse is)) ∙ ed))
    tied d e de ed Equal is = dims_cmp-Equal d e is
    tied d e de ed Greater is = absurd (true≢false (sym (ap is_gt is) ∙ de))

    by : (o : Option Dims) → least_dims (filter p xs) ≡ o → (q : Option Dims) → least_dims (filter p ys) ≡ q → o ≡ q
    by None none None also = refl
    by None none (Some e) some = absurd (never xs ys e in_xs none some)
    by (Some d) some None none = absurd (never ys xs d in_ys none some)
    by (Some d) in_first (Some e) in_second =
        let one = least_in xs d in_first in
        let two = least_in ys e in_second in
        let up = each_has (λ x. is_gt (dims_cmp d x) ≡ false) e (filter p xs) one.1 (kept_where_passed p e xs two.0 (in_xs e two.0)) in
        let down = each_has (λ x. is_gt (dims_cmp e x) ≡ false) d (filter p ys) two.1 (kept_where_passed p d ys one.0 (in_ys d one.0)) in
        ap Some (tied d e up down (dims_cmp d e) refl)

-- of one report: the least among the new facts is the least of all
least_of_report : (r : Report) (ids : TextMap (Option Fact)) → report_obeys r ≡ true
    → least_among (put_facts ids) (with_facts ids.entries r) ≡ least_disallowed (with_facts ids.entries r).allowed (with_facts ids.entries r).facts.entries
least_of_report r ids holds =
    least_where (is_disallowed x.allowed (facts_of x.facts.entries)) (map (λ f. f.dims) (put_facts ids)) (map (λ f. f.dims) (facts_of x.facts.entries))
    (λ d disallowed. any_map (dims_eq d) (λ f. f.dims) (put_facts ids) ∙ new_where_disallowed r ids holds d (entries_allowed x.allowed x.facts.entries d ∙ not-true _ disallowed))
    (λ d disallowed. disallowed_is_there x.allowed (facts_of x.facts.entries) d disallowed)
  where
    x : Report
    x = with_facts ids.entries r

-- so it is of a changed report; where it is to declare a value, all its cells are looked at
least_of_changed : (r : Report) (change : ReportChange) → report_obeys r ≡ true
    → least_changed change (changed change r) ≡ least_disallowed (changed change r).allowed (changed change r).facts.entries
least_of_changed r change holds = by change.declared
  where
    by : (o : Option Allowed)
        → option_map_or (λ value. least_disallowed (with_facts change.facts.entries (declaring_if o r)).allowed (with_facts change.facts.entries (declaring_if o r)).facts.entries) o
        (least_among (put_facts change.facts) (with_facts change.facts.entries (declaring_if o r)))
        ≡ least_disallowed (with_facts change.facts.entries (declaring_if o r)).allowed (with_facts change.facts.entries (declaring_if o r)).facts.entries
    by None = least_of_report r change.facts holds
    by (Some value) = refl

-- ---- the repository

laid_report : (c : Repository) (change : Change) (name : Text) (x : Report) → report_at (laid_over change c) name ≡ Some x
    → (r : Report) × (report_at c name ≡ Some r) × (changed (change_in change name) r ≡ x)
laid_report c change name x there = by (report_at c name) refl (sym (report_at-laid_over change c name) ∙ there)
  where
    by : (o : Option Report) → report_at c name ≡ o → option_map (changed (change_in change name)) o ≡ Some x → (r : Report) × (report_at c name ≡ Some r) × (changed (change_in change name) r ≡ x)
    by None gone is = let apart : None ≡ Some x = is in cc
    by (Some r) was is = let same : changed (change_in change name) r ≡ x = cc in (r, was, same)

pub each_disallowed_cell_holds_a_new_fact : EachDisallowedCellHoldsANewFact
each_disallowed_cell_holds_a_new_fact c change name dims holds undeclared cell =
    let (r, was, same) = laid_report c change name cell.report cell.there in
    let ids = (change_in change name).facts in
    let put : with_facts ids.entries r ≡ cell.report = ap (λ o. with_facts ids.entries (declaring_if o r)) (sym undeclared) ∙ same in
    let any = new_where_disallowed r ids (all_found report_obeys name r c.reports.entries holds was) dims (ap (λ (x : Report). is_allowed x.allowed x.facts.entries dims) put ∙ cell.disallowed) in
    let new = some_new (has_dims dims) ids.entries ids.entries (each_is_found ids.entries ids.sorted) any in
    record { id = new.id; fact = new.fact; new = new.found; in_cell = sym (dims_same dims new.fact.dims new.passes) }

pub each_disallowed_cell_of_a_copy_holds_a_new_fact : EachDisallowedCellOfACopyHoldsANewFact
each_disallowed_cell_of_a_copy_holds_a_new_fact h s name dims amendment undeclared cell =
    each_disallowed_cell_holds_a_new_fact (repository h) (net_change_of s h) name dims (repository_obeys_always h amendment.lawful) undeclared
    (subst (λ c. IsDisallowedCell c name dims) (sym (each_net_change_makes_the_copy h s amendment)) cell)

-- ---- the first disallowed cell

first_is_least : (c : Repository) (change : Change) → repository_obeys c ≡ true → first_disallowed (laid_over change c) change ≡ least_disallowed_of (laid_over change c)
first_is_least c change holds =
    first_same (λ name x. option_and_then (least_changed x) (report_at after name))
    (λ name r. least_disallowed r.allowed r.facts.entries) change.entries after.reports.entries change.sorted
    after.reports.sorted
    (λ name. by name (report_at after name) refl)
  where
    after : Repository
    after = laid_over change c

    within : (name : Text) (x : Report) → report_at after name ≡ Some x → least_changed (change_in change name) x ≡ least_disallowed x.allowed x.facts.entries
    within name x there =
        let (r, was, same) = laid_report c change name x there in
        subst (λ (x : Report). least_changed (change_in change name) x ≡ least_disallowed x.allowed x.facts.entries) same
        (least_of_changed r (change_in change name) (all_found report_obeys name r c.reports.entries holds was))

    among : (x : Report) (o : Option ReportChange) → option_and_then (λ change. option_and_then (least_changed change) (Some x)) o ≡ least_changed (unwrap_or o no_change) x
    among x None = refl
    among x (Some change) = refl

    nowhere : (o : Option ReportChange) → option_and_then {U = Dims} (λ change. option_and_then (least_changed change) None) o ≡ None
    nowhere None = refl
    nowhere (Some change) = refl

    by : (name : Text) (p : Option Report) → report_at after name ≡ p
        → option_and_then (λ x. option_and_then (least_changed x) (report_at after name)) (get change name)
        ≡ option_and_then (λ (r : Report). least_disallowed r.allowed r.facts.entries) (report_at after name)
    by name None gone =
        ap (λ p. option_and_then (λ x. option_and_then (least_changed x) p) (get change name)) gone
        ∙ nowhere (get change name)
        ∙ sym (ap (option_and_then (λ (r : Report). least_disallowed r.allowed r.facts.entries)) gone)
    by name (Some x) there =
        ap (λ p. option_and_then (λ x. option_and_then (least_changed x) p) (get change name)) there
        ∙ among x (get change name)
        ∙ within name x there
        ∙ sym (ap (option_and_then (λ (r : Report). least_disallowed r.allowed r.facts.entries)) there)

-- a refusal tells the least disallowed cell
refused_at : (c : Repository) (es : List (Text × Report)) → Each (λ e. report_at c e.0 ≡ Some e.1) es
    → option_map (λ e. disallowed_cell e.0 e.1) (find_in (λ e. not (report_obeys e.1)) es)
    ≡ option_map (refusal_at c)
    (find_map (λ e. option_map (λ dims. (e.0, dims)) (least_disallowed e.1.allowed e.1.facts.entries)) es)
refused_at c [] each = refl
refused_at c (e ∷ es) each = by (report_obeys e.1) refl (least_disallowed e.1.allowed e.1.facts.entries) refl (refused_at c es each.1)
  where
    tell : Option (Text × Report) → Option Reply
    tell o = option_map (λ e. disallowed_cell e.0 e.1) o

    rest : Option (Text × Dims)
    rest = find_map (λ (e : Text × Report). option_map (λ dims. (e.0, dims)) (least_disallowed e.1.allowed e.1.facts.entries)) es

    cell : Report → Dims → Reply
    cell r dims = reply.Disallowed e.0 (class_of (cell_facts dims r.facts)) (cell_ids dims r.facts)

    by : (b : Bool) → report_obeys e.1 ≡ b → (o : Option Dims) → least_disallowed e.1.allowed e.1.facts.entries ≡ o
        → tell (find_in (λ e. not (report_obeys e.1)) es) ≡ option_map (refusal_at c) rest
        → tell (cond (not b) (Some e) (find_in (λ e. not (report_obeys e.1)) es)) ≡ option_map (refusal_at c) (option_or (option_map (λ dims. (e.0, dims)) o) rest)
    by true holds None none later = later
    by true holds (Some dims) some later = let apart : Some dims ≡ None = sym some ∙ (obeys_where_no_cell_is_disallowed e.1.allowed e.1.facts.entries).0 holds in cc
    by false fails None none later = absurd (true≢false (sym ((obeys_where_no_cell_is_disallowed e.1.allowed e.1.facts.entries).1 none) ∙ fails))
    by false fails (Some dims) some later = ap Some
        (ap (λ o. option_map_or (cell e.1) o (reply.Disallowed e.0 Empty [])) some
        ∙ sym (ap (λ o. option_map_or (λ r. cell r dims) o reply.NoReport) each.0))

refusal_is_at : (c : Repository) → refusal_of c ≡ option_map (refusal_at c) (least_disallowed_of c)
refusal_is_at c = refused_at c c.reports.entries (each_is_found c.reports.entries c.reports.sorted)

pub each_change_is_decided_by_its_new_facts : EachChangeIsDecidedByItsNewFacts
each_change_is_decided_by_its_new_facts c change holds =
    let least = first_is_least c change holds in
    record { least = least; refusal = refusal_is_at (laid_over change c) ∙ ap (option_map (refusal_at (laid_over change c))) (sym least) }

pub each_copy_is_decided_by_its_new_facts : EachCopyIsDecidedByItsNewFacts
each_copy_is_decided_by_its_new_facts h s amendment =
    subst (λ c. IsDecidedByNewFacts c (net_change_of s h)) (each_net_change_makes_the_copy h s amendment)
    (each_change_is_decided_by_its_new_facts (repository h) (net_change_of s h) (repository_obeys_always h amendment.lawful))

-- What a net change holds, and that what it does not touch is shown as before.
use Rattle.std.proofs.Common.{◌≡◌, ◌∙◌, ap, sym, refl, subst, Bool, true, false, cond, ◌&&◌, ◌||◌, ◌⊎◌, inl, inr, List, [], ◌∷◌, Option, Some, None, is_some, unwrap_or, true≢false}
use Rattle.std.specs.Option.{option_map_or, option_or}
use Rattle.std.specs.FinMap.Entries.{find}
use Rattle.std.proofs.lemmas.Bool.{and_parts, or_parts}
use Rattle.filing_model.specs.Common.Text.{Text, text_cmp, text_eq}
use Rattle.filing_model.specs.Common.TextMap.{get, insert}
use Rattle.filing_model.specs.Oim.Facts.{Fact}
use Rattle.filing_model.specs.Sessions.Repository.{Repository, fact_at}
use Rattle.filing_model.specs.Oim.Duplicates.{has_dims}
use Rattle.filing_model.specs.Sessions.Queries.{answers_query}
use Rattle.filing_model.specs.Sessions.Changes.{ReportChange, Change, no_change, change_in, change_at, declared_in, with_change, with_declared}
use Rattle.filing_model.specs.Sessions.Things as thing
use Rattle.filing_model.specs.Sessions.Things.{Thing, report_of}
use Rattle.filing_model.specs.Histories.Touches.{change_between, with_values, passes_at, is_within, is_changed}
use Rattle.filing_model.specs.declared.duplicates.Allowed.{Allowed}
use Rattle.filing_model.proofs.Common.Texts.{text_same}
use Rattle.filing_model.proofs.Common.TextMaps.{get-insert}
use Rattle.filing_laws.proofs.Lists.EachElement.{Each, IsNever, never_parts}
use Rattle.filing_laws.proofs.Lists.WithOneValue.{value_for, last_value}
use Rattle.filing_model.proofs.Common.FilteredEntries.{only}
use Rattle.filing_laws.proofs.Agreement.AgreeOnThings.{shown}
use Rattle.filing_laws.proofs.Agreement.RunsAlike.{is_place}

-- ---- looking up

-- what fails of each entry fails of one that is found
pub never_found : {X : Type 0} (test : Text × X → Bool) (key : Text) (x : X) (es : List (Text × X)) → IsNever test es → find text_cmp key es ≡ Some x → test (key, x) ≡ false
never_found test key x [] never found = let apart : None ≡ Some x = found in cc
never_found test key x (e ∷ es) never found =
    let parts = never_parts test e es never in
    by (never_found test key x es parts.1) parts.0 (text_eq key e.0) refl found
  where
    by : (find text_cmp key es ≡ Some x → test (key, x) ≡ false) → test e ≡ false → (b : Bool) → text_eq key e.0 ≡ b → cond b (Some e.1) (find text_cmp key es) ≡ Some x → test (key, x) ≡ false
    by later fails true same is = let value : e.1 ≡ x = cc in subst (λ p. test p ≡ false) (λ i. (sym (text_same key e.0 same) i, value i)) fails
    by later fails false other is = later is

change_in-insert : (change : Change) (name : Text) (new : ReportChange) (m : Text) → change_in (insert change name new) m ≡ cond (text_eq m name) new (change_in change m)
change_in-insert change name new m = ap (λ o. unwrap_or o no_change) (get-insert change name new m) ∙ by (text_eq m name)
  where
    by : (b : Bool) → unwrap_or (cond b (Some new) (get change m)) no_change ≡ cond b new (change_in change m)
    by true = refl
    by false = refl

pub change_at-with_change : (change : Change) (name id : Text) (fact : Option Fact) (m q : Text)
    → change_at (with_change change name id fact) m q ≡ cond (text_eq m name && text_eq q id) (Some fact) (change_at change m q)
change_at-with_change change name id fact m q = ap (λ (x : ReportChange). get x.facts q) (change_in-insert change name new m) ∙ by (text_eq m name) refl
  where
    new : ReportChange
    new = record (change_in change name) { facts = insert (change_in change name).facts id fact }

    by : (b : Bool) → text_eq m name ≡ b → get (cond b new (change_in change m)).facts q ≡ cond (b && text_eq q id) (Some fact) (change_at change m q)
    by true same =
        get-insert (change_in change name).facts id fact q
        ∙ ap (λ n. cond (text_eq q id) (Some fact) (change_at change n q)) (sym (text_same m name same))
    by false other = refl

pub declared_in-with_change : (change : Change) (name id : Text) (fact : Option Fact) (m : Text) → declared_in (with_change change name id fact) m ≡ declared_in change m
declared_in-with_change change name id fact m = ap (λ (x : ReportChange). x.declared) (change_in-insert change name new m) ∙ by (text_eq m name) refl
  where
    new : ReportChange
    new = record (change_in change name) { facts = insert (change_in change name).facts id fact }

    by : (b : Bool) → text_eq m name ≡ b → (cond b new (change_in change m)).declared ≡ declared_in change m
    by true same = ap (declared_in change) (sym (text_same m name same))
    by false other = refl

change_at-with_declared : (change : Change) (name : Text) (value : Allowed) (m q : Text) → change_at (with_declared change name value) m q ≡ change_at change m q
change_at-with_declared change name value m q = ap (λ (x : ReportChange). get x.facts q) (change_in-insert change name new m) ∙ by (text_eq m name) refl
  where
    new : ReportChange
    new = record (change_in change name) { declared = Some value }

    by : (b : Bool) → text_eq m name ≡ b → get (cond b new (change_in change m)).facts q ≡ change_at change m q
    by true same = ap (λ n. change_at change n q) (sym (text_same m name same))
    by false other = refl

declared_in-with_declared : (change : Change) (name : Text) (value : Allowed) (m : Text)
    → declared_in (with_declared change name value) m ≡ option_or (value_for m (Some (name, value))) (declared_in change m)
declared_in-with_declared change name value m = ap (λ (x : ReportChange). x.declared) (change_in-insert change name new m) ∙ by (text_eq m name)
  where
    new : ReportChange
    new = record (change_in change name) { declared = Some value }

    by : (b : Bool) → (cond b new (change_in change m)).declared ≡ option_or (cond b (Some value) None) (declared_in change m)
    by true = refl
    by false = refl

-- ---- declared values

pub change_at-with_values : (vs : List (Text × Allowed)) (change : Change) (m q : Text) → change_at (with_values vs change) m q ≡ change_at change m q
change_at-with_values [] change m q = refl
change_at-with_values (v ∷ vs) change m q = change_at-with_values vs (with_declared change v.0 v.1) m q ∙ change_at-with_declared change v.0 v.1 m q

pub declared_in-with_values : (vs : List (Text × Allowed)) (change : Change) (m : Text) → declared_in (with_values vs change) m ≡ option_or (last_value m vs) (declared_in change m)
declared_in-with_values [] change m = refl
declared_in-with_values (v ∷ vs) change m =
    declared_in-with_values vs (with_declared change v.0 v.1) m
    ∙ ap (option_or (last_value m vs)) (declared_in-with_declared change v.0 v.1 m)
    ∙ nested (last_value m vs) (value_for m (Some v)) (declared_in change m)
  where
    nested : (a b c : Option Allowed) → option_or a (option_or b c) ≡ option_or (option_or a b) c
    nested None b c = refl
    nested (Some x) b c = refl

-- facts alone declare nothing
pub declared_in-change_between : (opening copy : Repository) (places : List (Text × Text)) (m : Text) → declared_in (change_between opening copy places) m ≡ None
declared_in-change_between opening copy [] m = refl
declared_in-change_between opening copy (p ∷ ps) m = by (is_some (fact_at opening p.0 p.1) || is_some (fact_at copy p.0 p.1)) (declared_in-change_between opening copy ps m)
  where
    rest : Change
    rest = change_between opening copy ps

    by : (b : Bool) → declared_in rest m ≡ None → declared_in (cond b (with_change rest p.0 p.1 (fact_at copy p.0 p.1)) rest) m ≡ None
    by true later = declared_in-with_change rest p.0 p.1 (fact_at copy p.0 p.1) m ∙ later
    by false later = later

-- ---- a place is in the change, or it stands as before

abbrev pub IsSameAt : Repository → Repository → Text × Text → Type 0
IsSameAt before after p = fact_at before p.0 p.1 ≡ fact_at after p.0 p.1

-- a place that the change leaves out is as before
abbrev pub IsLeftOut : Repository → Repository → Repository → Repository → Text × Text → Type 0
IsLeftOut opening copy before after p = (is_some (fact_at opening p.0 p.1) || is_some (fact_at copy p.0 p.1)) ≡ false → IsSameAt before after p

pub changed_or_same : (opening copy before after : Repository) (places : List (Text × Text)) (name id : Text)
    → Each (IsLeftOut opening copy before after) places
    → (IsNever (is_place name id) places → IsSameAt before after (name, id))
    → (is_some (change_at (change_between opening copy places) name id) ≡ true) ⊎ IsSameAt before after (name, id)
changed_or_same opening copy before after [] name id left out = inr (out refl)
changed_or_same opening copy before after (p ∷ ps) name id left out =
    by (λ out. changed_or_same opening copy before after ps name id left.1 out) (is_place name id p) refl (is_some (fact_at opening p.0 p.1) || is_some (fact_at copy p.0 p.1)) refl
  where
    rest : Change
    rest = change_between opening copy ps

    fact : Option Fact
    fact = fact_at copy p.0 p.1

    other : is_place name id p ≡ false → (b : Bool) → change_at (cond b (with_change rest p.0 p.1 fact) rest) name id ≡ change_at rest name id
    other apart true = change_at-with_change rest p.0 p.1 fact name id ∙ ap (λ b. cond b (Some fact) (change_at rest name id)) apart
    other apart false = refl

    by : ((IsNever (is_place name id) ps → IsSameAt before after (name, id)) → (is_some (change_at rest name id) ≡ true) ⊎ IsSameAt before after (name, id))
        → (here : Bool) → is_place name id p ≡ here → (b : Bool) → (is_some (fact_at opening p.0 p.1) || is_some (fact_at copy p.0 p.1)) ≡ b
        → (is_some (change_at (cond b (with_change rest p.0 p.1 fact) rest) name id) ≡ true) ⊎ IsSameAt before after (name, id)
    by later true here true is = inl (ap is_some (change_at-with_change rest p.0 p.1 fact name id ∙ ap (λ b. cond b (Some fact) (change_at rest name id)) here))
    by later true here false is =
        let parts = and_parts (text_eq name p.0) (text_eq id p.1) here in
        inr (subst (IsSameAt before after) (λ i. (sym (text_same name p.0 parts.0) i, sym (text_same id p.1 parts.1) i)) (left.0 is))
    by later false apart b is =
        elim (later (λ never. out (λ i. apart i || never i))) [
          | inl changed ↦ inl (ap is_some (other apart b) ∙ changed)
          | inr same ↦ inr same
        ]

-- ---- what is untouched is shown as before

-- a test that fails shows nothing
none_shown : (test : Fact → Bool) (o : Option Fact) → ((fact : Fact) → test fact ≡ false) → only test o ≡ None
none_shown test None fails = refl
none_shown test (Some fact) fails = ap (λ b. cond b (Some fact) None) (fails fact)

not_passed : (test : Fact → Bool) (o : Option Fact) → option_map_or test o false ≡ false → only test o ≡ None
not_passed test None fails = refl
not_passed test (Some fact) fails = ap (λ b. cond b (Some fact) None) fails

hidden_both : (test : Fact → Bool) (before after : Repository) (name id : Text) → passes_at test before after name id ≡ false → only test (fact_at before name id) ≡ only test (fact_at after name id)
hidden_both test before after name id fails =
    let parts = or_parts (option_map_or test (fact_at before name id) false) (option_map_or test (fact_at after name id) false) fails in
    not_passed test (fact_at before name id) parts.0 ∙ sym (not_passed test (fact_at after name id) parts.1)

-- what fails of each changed identifier fails of one of them
of_changed : (test : Text × Option Fact → Bool) (change : Change) (name id : Text) → IsNever test (change_in change name).facts.entries
    → is_some (change_at change name id) ≡ true → (fact : Option Fact) × (test (id, fact) ≡ false)
of_changed test change name id never changed = by (change_at change name id) refl changed
  where
    by : (o : Option (Option Fact)) → change_at change name id ≡ o → is_some o ≡ true → (fact : Option Fact) × (test (id, fact) ≡ false)
    by None is there = absurd (true≢false (sym there))
    by (Some fact) is there = (fact, never_found test id fact (change_in change name).facts.entries never is)

pub shown_as_before : (t : Thing) (before after : Repository) (change : Change) (id : Text) → is_changed before after change t ≡ false → is_some (change_at change (report_of t) id) ≡ true
    → shown t id (fact_at before (report_of t) id) ≡ shown t id (fact_at after (report_of t) id)
shown_as_before (thing.Report name) before after change id untouched changed =
    none_shown (λ fact. false) (fact_at before name id) (λ fact. refl) ∙ sym (none_shown (λ fact. false) (fact_at after name id) (λ fact. refl))
shown_as_before (thing.Policy name) before after change id untouched changed =
    none_shown (λ fact. false) (fact_at before name id) (λ fact. refl) ∙ sym (none_shown (λ fact. false) (fact_at after name id) (λ fact. refl))
shown_as_before (thing.Id name i) before after change id untouched changed =
    none_shown (λ fact. text_eq i id) (fact_at before name id) (λ fact. other) ∙ sym (none_shown (λ fact. text_eq i id) (fact_at after name id) (λ fact. other))
  where
    by : (b : Bool) → text_eq i id ≡ b → text_eq i id ≡ false
    by true same = absurd (true≢false (sym changed ∙ ap (λ q. is_some (change_at change name q)) (sym (text_same i id same)) ∙ untouched))
    by false apart = apart

    other : text_eq i id ≡ false
    other = by (text_eq i id) refl
shown_as_before (thing.Cell name dims) before after change id untouched changed =
    hidden_both (has_dims dims) before after name id (of_changed (λ e. passes_at (has_dims dims) before after name e.0) change name id untouched changed).1
shown_as_before (thing.Range name query upto) before after change id untouched changed =
    by (is_within query.after upto id) (of_changed (λ e. is_within query.after upto e.0 && passes_at answers before after name e.0) change name id untouched changed).1
  where
    answers : Fact → Bool
    answers = answers_query query.concept query.period

    by : (within : Bool) → (within && passes_at answers before after name id) ≡ false
        → only (λ fact. within && answers fact) (fact_at before name id) ≡ only (λ fact. within && answers fact) (fact_at after name id)
    by true fails = hidden_both answers before after name id fails
    by false fails = none_shown (λ fact. false) (fact_at before name id) (λ fact. refl) ∙ sym (none_shown (λ fact. false) (fact_at after name id) (λ fact. refl))

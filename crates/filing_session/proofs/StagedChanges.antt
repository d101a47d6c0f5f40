-- What an amendment has staged is its net change, but for removals of what its base does not have, and makes its copy; a review stages nothing.
use Rattle.std.proofs.Common.{◌≡◌, ◌∙◌, ap, sym, refl, Bool, true, false, cond, ◌||◌, List, [], ◌∷◌, Option, Some, None, option_map, unwrap_or}
use Rattle.std.specs.List.{list_any, cons_option}
use Rattle.std.specs.Option.{option_map_or, option_or}
use Rattle.std.proofs.lemmas.Bool.{and_parts}
use Rattle.filing_model.specs.Common.Text.{Text, text_eq}
use Rattle.filing_model.specs.Oim.Facts.{Fact}
use Rattle.filing_model.specs.Sessions.Repository.{Repository, fact_at}
use Rattle.filing_model.specs.Sessions.Changes.{Change, change_at, declared_in, with_change, declaring_if, laid_over}
use Rattle.filing_model.specs.Sessions.Calls as call
use Rattle.filing_model.specs.Sessions.Calls.{Call}
use Rattle.filing_model.specs.Sessions.Replies as reply
use Rattle.filing_model.specs.Sessions.Replies.{Reply}
use Rattle.filing_model.specs.Sessions.Sessions.{answer, solo_copy, solo_replies}
use Rattle.filing_model.specs.Histories.Touches.{if_staged, place_of_call, value_of_call, staged_places, staged_values}
use Rattle.filing_model.specs.declared.duplicates.Allowed.{Allowed}
use Rattle.filing_model.specs.declared.kind.Kind.TheVariants.{Review, Amend}
use Rattle.filing_model.proofs.Common.Texts.{text_same}
use Rattle.filing_laws.proofs.Lists.WithOneValue.{bare_at, value_for, last_value, or_none}
use Rattle.filing_laws.proofs.Agreement.RunsAlike.{is_place, run_leaves_facts, run_leaves_heads}
use Rattle.filing_laws.proofs.Touching.ChangedPlaces.{change_at-with_change, declared_in-with_change, change_at-with_values, declared_in-with_values}
use Rattle.filing_laws.proofs.Updating.NetChanges.{run_leaves_count}
use Rattle.filing_laws.proofs.Updating.LaidOver.{laid_over_makes}
use Rattle.filing_session.specs.States.{SessionState, opened, staging, change_after, called, after_calls}
use Rattle.filing_session.specs.Runs.{EachReviewStagesNothing}
use Rattle.filing_session.proofs.RunStates.{copy_after}

-- ---- one call

abbrev put_there : Option (Text × Text) → Repository → Text → Text → Option (Option Fact) → Option (Option Fact)
put_there place copy m q before = cond (option_map_or (is_place m q) place false) (Some (fact_at copy m q)) before

put_at : (change : Change) (copy : Repository) (name id m q : Text)
    → change_at (with_change change name id (fact_at copy name id)) m q ≡ cond (is_place m q (name, id)) (Some (fact_at copy m q)) (change_at change m q)
put_at change copy name id m q = change_at-with_change change name id (fact_at copy name id) m q ∙ by (is_place m q (name, id)) refl
  where
    by : (b : Bool) → is_place m q (name, id) ≡ b
        → cond b (Some (fact_at copy name id)) (change_at change m q) ≡ cond b (Some (fact_at copy m q)) (change_at change m q)
    by true here =
        let parts = and_parts (text_eq m name) (text_eq q id) here in
        sym (λ i. Some (fact_at copy (text_same m name parts.0 i) (text_same q id parts.1 i)))
    by false apart = refl

staged_at : (ask : Call) (copy : Repository) (change : Change) (m q : Text)
    → change_at (staging ask copy change) m q ≡ put_there (place_of_call ask) copy m q (change_at change m q)
staged_at (call.Add name id raw) copy change m q = put_at change copy name id m q
staged_at (call.Remove name id) copy change m q = put_at change copy name id m q
staged_at (call.Declare name value) copy change m q = change_at-with_values ((name, value) ∷ []) change m q
staged_at _ copy change m q = refl

after_at : (ask : Call) (told : Reply) (copy : Repository) (change : Change) (m q : Text)
    → change_at (change_after ask told copy change) m q ≡ put_there (if_staged told (place_of_call ask)) copy m q (change_at change m q)
after_at ask reply.Staged copy change m q = staged_at ask copy change m q
after_at ask told copy change m q = refl

staged_value : (ask : Call) (copy : Repository) (change : Change) (m : Text)
    → declared_in (staging ask copy change) m ≡ option_or (value_for m (value_of_call ask)) (declared_in change m)
staged_value (call.Add name id raw) copy change m = declared_in-with_change change name id (fact_at copy name id) m
staged_value (call.Remove name id) copy change m = declared_in-with_change change name id (fact_at copy name id) m
staged_value (call.Declare name value) copy change m = declared_in-with_values ((name, value) ∷ []) change m
staged_value _ copy change m = refl

after_value : (ask : Call) (told : Reply) (copy : Repository) (change : Change) (m : Text)
    → declared_in (change_after ask told copy change) m ≡ option_or (value_for m (if_staged told (value_of_call ask))) (declared_in change m)
after_value ask reply.Staged copy change m = staged_value ask copy change m
after_value ask told copy change m = refl

-- ---- all calls

more_places : (m q : Text) (o : Option (Text × Text)) (ps : List (Text × Text))
    → list_any (is_place m q) (cons_option o ps) ≡ (option_map_or (is_place m q) o false || list_any (is_place m q) ps)
more_places m q None ps = refl
more_places m q (Some p) ps = refl

more_values : (m : Text) (o : Option (Text × Allowed)) (vs : List (Text × Allowed)) (before : Option Allowed)
    → option_or (last_value m vs) (option_or (value_for m o) before) ≡ option_or (last_value m (cons_option o vs)) before
more_values m None vs before = refl
more_values m (Some v) vs before = by (last_value m vs)
  where
    by : (o : Option Allowed) → option_or o (option_or (value_for m (Some v)) before) ≡ option_or (option_or o (value_for m (Some v))) before
    by None = refl
    by (Some x) = refl

abbrev places_of : List Call → SessionState → List (Text × Text)
places_of calls s = staged_places calls (solo_replies s.kind s.copy calls)

abbrev values_of : List Call → SessionState → List (Text × Allowed)
values_of calls s = staged_values calls (solo_replies s.kind s.copy calls)

-- at each place what the copy then has, where it was staged
change_of_run : (calls : List Call) (s : SessionState) (m q : Text)
    → change_at (after_calls calls s).change m q
    ≡ cond (list_any (is_place m q) (places_of calls s)) (Some (fact_at (solo_copy s.kind s.copy calls) m q)) (change_at s.change m q)
change_of_run [] s m q = refl
change_of_run (ask ∷ calls) s m q =
    change_of_run calls next m q
    ∙ ap (λ before. cond (list_any (is_place m q) later) (Some (fact_at final m q)) before) (after_at ask told next.copy s.change m q)
    ∙ by (list_any (is_place m q) later) refl (option_map_or (is_place m q) here false)
    ∙ ap (λ b. cond b (Some (fact_at final m q)) (change_at s.change m q)) (sym (more_places m q here later))
  where
    next : SessionState
    next = called ask s

    told : Reply
    told = (answer s.kind ask s.copy).0

    here : Option (Text × Text)
    here = if_staged told (place_of_call ask)

    later : List (Text × Text)
    later = places_of calls next

    final : Repository
    final = solo_copy s.kind next.copy calls

    by : (b : Bool) → list_any (is_place m q) later ≡ b → (c : Bool)
        → cond b (Some (fact_at final m q)) (cond c (Some (fact_at next.copy m q)) (change_at s.change m q))
        ≡ cond (c || b) (Some (fact_at final m q)) (change_at s.change m q)
    by true is true = refl
    by true is false = refl
    by false is true = ap Some (sym (run_leaves_facts s.kind calls next.copy m q is))
    by false is false = refl

value_of_run : (calls : List Call) (s : SessionState) (m : Text)
    → declared_in (after_calls calls s).change m ≡ option_or (last_value m (values_of calls s)) (declared_in s.change m)
value_of_run [] s m = refl
value_of_run (ask ∷ calls) s m =
    value_of_run calls (called ask s) m
    ∙ ap (option_or (last_value m (values_of calls (called ask s)))) (after_value ask (answer s.kind ask s.copy).0 (called ask s).copy s.change m)
    ∙ more_values m (if_staged (answer s.kind ask s.copy).0 (value_of_call ask)) (values_of calls (called ask s)) (declared_in s.change m)

-- ---- the copy that an amendment's change makes

module _ (base : Repository) (calls : List Call) where
  abbrev change : Change
  change = (after_calls calls (opened Amend base)).change

  abbrev copy : Repository
  copy = solo_copy Amend base calls

  abbrev places : List (Text × Text)
  places = staged_places calls (solo_replies Amend base calls)

  abbrev values : List (Text × Allowed)
  values = staged_values calls (solo_replies Amend base calls)

  pub value_is : (m : Text) → declared_in change m ≡ last_value m values
  value_is m = value_of_run calls (opened Amend base) m ∙ or_none (last_value m values)

  pub put_is : (m q : Text) → change_at change m q ≡ cond (list_any (is_place m q) places) (Some (fact_at copy m q)) None
  put_is m q = change_of_run calls (opened Amend base) m q

  fact_is : (m q : Text) → unwrap_or (change_at change m q) (fact_at base m q) ≡ fact_at copy m q
  fact_is m q = ap (λ o. unwrap_or o (fact_at base m q)) (put_is m q) ∙ by (list_any (is_place m q) places) refl
    where
      by : (b : Bool) → list_any (is_place m q) places ≡ b → unwrap_or (cond b (Some (fact_at copy m q)) None) (fact_at base m q) ≡ fact_at copy m q
      by true is = refl
      by false is = sym (run_leaves_facts Amend calls base m q is)

  head_is : (m : Text) → bare_at copy m ≡ option_map (declaring_if (declared_in change m)) (bare_at base m)
  head_is m = run_leaves_heads Amend calls base m ∙ ap (λ v. option_map (declaring_if v) (bare_at base m)) (sym (value_is m))

  pub makes_the_copy : laid_over change base ≡ (after_calls calls (opened Amend base)).copy
  makes_the_copy =
      laid_over_makes change base copy (sym (run_leaves_count Amend calls base)) head_is fact_is ∙ sym (copy_after calls (opened Amend base))

-- ---- reviews

not_staged : (ask : Call) (told : Reply) (after : Repository) (before : Change) → staging ask after before ≡ before
    → change_after ask told after before ≡ before
not_staged ask reply.Staged after before same = same
not_staged ask told after before same = refl

review_stages_nothing : (ask : Call) (after : Repository) (before : Change)
    → change_after ask (answer Review ask after).0 (answer Review ask after).1 before ≡ before
review_stages_nothing (call.Add name id raw) after before = refl
review_stages_nothing (call.Remove name id) after before = refl
review_stages_nothing (call.Declare name value) after before = refl
review_stages_nothing ask after before = not_staged ask (answer Review ask after).0 (answer Review ask after).1 before refl

stays : (calls : List Call) (s : SessionState) → s.kind ≡ Review → (after_calls calls s).change ≡ s.change
stays [] s kind = refl
stays (ask ∷ calls) s kind =
    stays calls (called ask s) kind
    ∙ ap (λ k. change_after ask (answer k ask s.copy).0 (answer k ask s.copy).1 s.change) kind
    ∙ review_stages_nothing ask s.copy s.change

pub each_review_stages_nothing : EachReviewStagesNothing
each_review_stages_nothing base calls = stays calls (opened Review base) refl

-- The net change of an untouched amendment, laid over the repository as it is, makes its copy at the end of its solo run there.
use Rattle.std.proofs.Common.{◌≡◌, ◌∙◌, ap, sym, refl, subst, ℕ, ◌+◌, Bool, true, false, cond, ◌&&◌, ◌||◌, List}
use Rattle.std.proofs.Common.{[], ◌∷◌, Option, Some, None, is_some, option_map, unwrap_or}
use Rattle.std.proofs.Common.{true≢false}
use Rattle.std.specs.List.{list_any}
use Rattle.std.specs.Option.{option_or}
use Rattle.std.proofs.lemmas.Bool.{and_parts, or_parts, and_right}
use Rattle.std.proofs.lemmas.Option.{same_Some}
use Rattle.filing_model.specs.Common.Text.{Text, text_eq}
use Rattle.filing_model.specs.Oim.Facts.{Fact}
use Rattle.filing_model.specs.Sessions.Repository.{Repository, fact_at}
use Rattle.filing_model.specs.Sessions.Changes.{Change, change_at, declared_in, with_change, declaring_if, laid_over, after_change}
use Rattle.filing_model.specs.Sessions.Calls.{Call}
use Rattle.filing_model.specs.Sessions.Replies as reply
use Rattle.filing_model.specs.Sessions.Things as thing
use Rattle.filing_model.specs.Sessions.Sessions.{answer, solo_replies, solo_copy}
use Rattle.filing_model.specs.Histories.History.{History, calls_of, replies_of, base_of, repository}
use Rattle.filing_model.specs.Histories.Touches.{reads, change_between, staged_places, staged_values, net_change_of}
use Rattle.filing_model.specs.Histories.Versions.{counts}
use Rattle.filing_model.specs.declared.duplicates.Allowed.{Allowed}
use Rattle.filing_model.specs.declared.kind.Kind.{Kind}
use Rattle.filing_model.specs.declared.kind.Kind.TheVariants.{Amend}
use Rattle.filing_model.proofs.Common.Texts.{text_same}
use Rattle.filing_model.proofs.Common.Tests.{none_from_not_is_some}
use Rattle.filing_laws.specs.Updating.NetChange.{IsUntouchedAmendment, copy_now, EachNetChangeMakesTheCopy, EachCommitLaysItsNetChange}
use Rattle.filing_laws.proofs.Lists.EachElement.{Each, IsNever}
use Rattle.filing_laws.proofs.Lists.WithOneValue.{bare_at, last_value, or_none}
use Rattle.filing_laws.proofs.Agreement.AgreeOnThings.{Agree, agree_fact}
use Rattle.filing_laws.proofs.Agreement.AnswerCases.{each_answer}
use Rattle.filing_laws.proofs.Agreement.RunsAlike.{IsAlikeRun, run_leaves_facts, run_leaves_heads, staged_were_read, is_place}
use Rattle.filing_laws.proofs.Touching.ChangedPlaces.{change_at-with_change, change_at-with_values, declared_in-with_values, declared_in-change_between}
use Rattle.filing_laws.proofs.Opening.OwnReplies.{own_replies}
use Rattle.filing_laws.proofs.Touching.UntouchedThingsStand.{known, reads_agree}
use Rattle.filing_laws.proofs.Histories.UntouchedIsSerial.{alike_now, serial}
use Rattle.filing_laws.proofs.Touching.EntryCases.{EntryCase, Quiet, Accepted, Passed, entry_case}
use Rattle.filing_laws.proofs.Updating.LaidOver.{laid_over_makes, count-with_fact_at, count-declaring_at}

-- ---- what a net change has at each place

-- whether a change between these two has the place, once it was staged
abbrev pub is_kept : Repository → Repository → Text → Text → Bool
is_kept opening copy m q = is_some (fact_at opening m q) || is_some (fact_at copy m q)

pub change_at-change_between : (opening copy : Repository) (places : List (Text × Text)) (m q : Text)
    → change_at (change_between opening copy places) m q ≡ cond (list_any (is_place m q) places && is_kept opening copy m q) (Some (fact_at copy m q)) None
change_at-change_between opening copy [] m q = refl
change_at-change_between opening copy (p ∷ ps) m q = by (is_place m q p) refl (is_kept opening copy p.0 p.1) refl (change_at-change_between opening copy ps m q)
  where
    rest : Change
    rest = change_between opening copy ps

    fact : Option Fact
    fact = fact_at copy p.0 p.1

    kept_as : is_place m q p ≡ true → is_kept opening copy p.0 p.1 ≡ is_kept opening copy m q
    kept_as here =
        let parts = and_parts (text_eq m p.0) (text_eq q p.1) here in
        sym (λ i. is_kept opening copy (text_same m p.0 parts.0 i) (text_same q p.1 parts.1 i))

    fact_as : is_place m q p ≡ true → fact ≡ fact_at copy m q
    fact_as here = let parts = and_parts (text_eq m p.0) (text_eq q p.1) here in sym (λ i. fact_at copy (text_same m p.0 parts.0 i) (text_same q p.1 parts.1 i))

    with_it : (here : Bool) → is_place m q p ≡ here → change_at (with_change rest p.0 p.1 fact) m q ≡ cond here (Some fact) (change_at rest m q)
    with_it here is = change_at-with_change rest p.0 p.1 fact m q ∙ ap (λ b. cond b (Some fact) (change_at rest m q)) is

    by : (here : Bool) → is_place m q p ≡ here → (b : Bool) → is_kept opening copy p.0 p.1 ≡ b
        → change_at rest m q ≡ cond (list_any (is_place m q) ps && is_kept opening copy m q) (Some (fact_at copy m q)) None
        → change_at (cond b (with_change rest p.0 p.1 fact) rest) m q
        ≡ cond ((here || list_any (is_place m q) ps) && is_kept opening copy m q) (Some (fact_at copy m q)) None
    by true here true kept later =
        with_it true here ∙ ap Some (fact_as here) ∙ sym (ap (λ b. cond b (Some (fact_at copy m q)) None) (sym (kept_as here) ∙ kept))
    by true here false out later =
        let left : is_kept opening copy m q ≡ false = sym (kept_as here) ∙ out in
        later
        ∙ ap (λ b. cond (list_any (is_place m q) ps && b) (Some (fact_at copy m q)) None) left
        ∙ ap (λ b. cond b (Some (fact_at copy m q)) None) (and_right (list_any (is_place m q) ps) false refl ∙ sym left)
    by false apart true kept later = with_it false apart ∙ later
    by false apart false out later = later

-- ---- what a run leaves of the count

call_leaves_count : (kind : Kind) (ask : Call) (c : Repository) → (answer kind ask c).1.count ≡ c.count
call_leaves_count kind ask c = each_answer (λ ask a. a.1.count ≡ c.count) kind ask c (record {
  told = λ ask r kept none. refl;
  found = λ name id r fact is some. refl;
  put = λ name id raw r fact is fits. count-with_fact_at c name id (Some fact);
  removed = λ name id r is. count-with_fact_at c name id None;
  declared = λ name value r is. count-declaring_at c name value;
})

pub run_leaves_count : (kind : Kind) (calls : List Call) (c : Repository) → (solo_copy kind c calls).count ≡ c.count
run_leaves_count kind [] c = refl
run_leaves_count kind (ask ∷ calls) c = run_leaves_count kind calls (answer kind ask c).1 ∙ call_leaves_count kind ask c

-- ---- an untouched amendment

each_placed : (P : Text × Text → Type 0) (m q : Text) (places : List (Text × Text)) → Each P places → list_any (is_place m q) places ≡ true → P (m, q)
each_placed P m q [] each placed = absurd (true≢false (sym placed))
each_placed P m q (p ∷ ps) each placed = by (each_placed P m q ps each.1) (is_place m q p) refl placed
  where
    by : (list_any (is_place m q) ps ≡ true → P (m, q)) → (here : Bool) → is_place m q p ≡ here → (here || list_any (is_place m q) ps) ≡ true → P (m, q)
    by later true here placed =
        let parts = and_parts (text_eq m p.0) (text_eq q p.1) here in
        subst P (sym (λ i. (text_same m p.0 parts.0 i, text_same q p.1 parts.1 i))) each.0
    by later false apart placed = later placed

module _ (h : History) (s : ℕ) (amendment : IsUntouchedAmendment h s) where
  abbrev now : Repository
  now = repository h

  abbrev opening : Repository
  opening = base_of s h

  abbrev calls : List Call
  calls = calls_of s h

  abbrev copy : Repository
  copy = solo_copy Amend opening calls

  abbrev places : List (Text × Text)
  places = staged_places calls (replies_of s h)

  abbrev values : List (Text × Allowed)
  values = staged_values calls (replies_of s h)

  abbrev net : Change
  net = net_change_of s h

  agree : Each (λ t. Agree t opening now) (reads Amend opening calls)
  agree = reads_agree h s Amend (known h amendment.lawful) amendment.live amendment.untouched

  run : IsAlikeRun Amend calls opening now
  run = alike_now h s Amend amendment.lawful amendment.live amendment.untouched

  told_now : replies_of s h ≡ solo_replies Amend now calls
  told_now = serial h s Amend amendment.lawful amendment.live amendment.untouched

  staged : Each (λ (p : Text × Text). Agree (thing.Id p.0 p.1) opening now) places
  staged = subst (λ rs. Each (λ (p : Text × Text). Agree (thing.Id p.0 p.1) opening now) (staged_places calls rs))
      (sym (own_replies h s Amend amendment.lawful amendment.live))
      (staged_were_read (λ t. Agree t opening now) Amend calls opening agree)

  pub staged_agrees : (m q : Text) → list_any (is_place m q) places ≡ true → Agree (thing.Id m q) opening now
  staged_agrees m q placed = each_placed (λ p. Agree (thing.Id p.0 p.1) opening now) m q places staged placed

  pub staged_ends : (m q : Text) → list_any (is_place m q) places ≡ true → fact_at copy m q ≡ fact_at (copy_now h s) m q
  staged_ends m q placed = agree_fact m q copy (copy_now h s) (run.kept (thing.Id m q) (staged_agrees m q placed))

  staged_fact : (m q : Text) → Agree (thing.Id m q) opening now → (b : Bool) → is_kept opening copy m q ≡ b
      → unwrap_or (cond b (Some (fact_at copy m q)) None) (fact_at now m q) ≡ fact_at (solo_copy Amend now calls) m q
  staged_fact m q same true kept = agree_fact m q copy (solo_copy Amend now calls) (run.kept (thing.Id m q) same)
  staged_fact m q same false out =
      let parts = or_parts (is_some (fact_at opening m q)) (is_some (fact_at copy m q)) out in
      sym (agree_fact m q opening now same)
      ∙ none_from_not_is_some (fact_at opening m q) parts.0
      ∙ sym (none_from_not_is_some (fact_at copy m q) parts.1)
      ∙ agree_fact m q copy (solo_copy Amend now calls) (run.kept (thing.Id m q) same)

  -- at each place the copy has what the net change has, and else what stands there now
  pub fact_of_copy : (m q : Text) → unwrap_or (change_at net m q) (fact_at now m q) ≡ fact_at (copy_now h s) m q
  fact_of_copy m q =
      ap (λ o. unwrap_or o (fact_at now m q))
      (change_at-with_values values (change_between opening copy places) m q ∙ change_at-change_between opening copy places m q)
      ∙ by (list_any (is_place m q) places) refl
    where
      by : (b : Bool) → list_any (is_place m q) places ≡ b
          → unwrap_or (cond (b && is_kept opening copy m q) (Some (fact_at copy m q)) None) (fact_at now m q) ≡ fact_at (solo_copy Amend now calls) m q
      by false never = sym (run_leaves_facts Amend calls now m q (subst (λ rs. IsNever (is_place m q) (staged_places calls rs)) told_now never))
      by true placed = staged_fact m q (staged_agrees m q placed) (is_kept opening copy m q) refl

  -- the copy declares the last value that was staged
  value_of_copy : (m : Text) → declared_in net m ≡ last_value m (staged_values calls (solo_replies Amend now calls))
  value_of_copy m =
      declared_in-with_values values (change_between opening copy places) m
      ∙ ap (option_or (last_value m values)) (declared_in-change_between opening copy places m)
      ∙ or_none (last_value m values)
      ∙ ap (λ rs. last_value m (staged_values calls rs)) told_now

  head_of_copy : (m : Text) → bare_at (copy_now h s) m ≡ option_map (declaring_if (declared_in net m)) (bare_at now m)
  head_of_copy m = run_leaves_heads Amend calls now m ∙ ap (λ v. option_map (declaring_if v) (bare_at now m)) (sym (value_of_copy m))

  pub net_change_makes_the_copy : laid_over net now ≡ copy_now h s
  net_change_makes_the_copy = laid_over_makes net now (copy_now h s) (sym (run_leaves_count Amend calls now)) head_of_copy fact_of_copy

pub each_net_change_makes_the_copy : EachNetChangeMakesTheCopy
each_net_change_makes_the_copy h s amendment = net_change_makes_the_copy h s amendment

-- ---- accepted commits

pub each_commit_lays_its_net_change : EachCommitLaysItsNetChange
each_commit_lays_its_net_change h e s n lawful of_it told = by (entry_case h e lawful.1)
  where
    by : EntryCase h e → repository (e ∷ h) ≡ after_change (net_change_of s h) (repository h)
    by (Quiet quiet) = absurd (true≢false (sym (ap counts told) ∙ quiet))
    by (Accepted load) = let apart : reply.Loaded ((repository h).count + 1) ≡ reply.Committed n = sym load.reply ∙ told in cc
    by (Passed passed) =
        let amendment : IsUntouchedAmendment h passed.s = record { lawful = lawful.0; live = passed.live; untouched = passed.untouched } in
        passed.result
        ∙ ap (λ (c : Repository). record c { count = (repository h).count + 1 }) (sym (each_net_change_makes_the_copy h passed.s amendment))
        ∙ ap (λ x. after_change (net_change_of x h) (repository h)) (same_Some passed.s s (sym passed.of_it ∙ of_it))

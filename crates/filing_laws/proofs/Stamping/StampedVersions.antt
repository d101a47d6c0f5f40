-- The version of a history has as stamps the numbers of last touches: a load, a commit and every other entry keep that, and a conflict is told by it.
use Rattle.std.proofs.Common.{◌≡◌, ◌∙◌, ap, sym, refl, subst, ℕ, ◌+◌, arith, Bool, true, false, cond, ◌&&◌, ◌||◌}
use Rattle.std.proofs.Common.{List, [], ◌∷◌, Option, Some, None, is_some, option_map, option_and_then, unwrap_or}
use Rattle.std.proofs.Common.{nat_lt, le-ltb, ◌≤◌, true≢false}
use Rattle.std.specs.List.{list_any}
use Rattle.std.specs.Option.{option_map_or, option_or}
use Rattle.std.specs.FinMap.Entries.{find}
use Rattle.std.proofs.lemmas.Bool.{and_parts, or_parts}
use Rattle.std.proofs.lemmas.Option.{same_Some}
use Rattle.filing_model.specs.Common.Text.{Text, text_cmp, text_eq}
use Rattle.filing_model.specs.Oim.Facts.{Fact}
use Rattle.filing_model.specs.Oim.Reports.{Report}
use Rattle.filing_model.specs.Sessions.Repository.{Repository, report_at, fact_at, fact_in, with_report}
use Rattle.filing_model.specs.Oim.Duplicates.{has_dims}
use Rattle.filing_model.specs.Sessions.Queries.{answers_query}
use Rattle.filing_model.specs.Sessions.Replies as reply
use Rattle.filing_model.specs.Sessions.Replies.{Reply}
use Rattle.filing_model.specs.Sessions.Things as thing
use Rattle.filing_model.specs.Sessions.Things.{Thing, thing_eq}
use Rattle.filing_model.specs.Sessions.Changes.{Change, change_in, change_at, declared_in, declaring_if, changed, laid_over, after_change}
use Rattle.filing_model.specs.Sessions.Sessions.{solo_copy}
use Rattle.filing_model.specs.Histories.History.{Load, Entry, History, base_of, calls_of, replies_of, repository}
use Rattle.filing_model.specs.Histories.Touches.{staged_places, staged_values, change_between, passes_at, is_within, is_changed, net_change_of, touches, touches_with, is_loaded, number_in, first_conflict}
use Rattle.filing_model.specs.Histories.Lawful.{IsLawful}
use Rattle.filing_model.specs.Histories.Versions.{counts}
use Rattle.filing_model.specs.Histories.Stamps.{next_number, is_stamped, version_after, version_with}
use Rattle.filing_model.specs.declared.kind.Kind.TheVariants.{Amend}
use Rattle.filing_laws.specs.Stamping.Numbers.{greatest_touch, above}
use Rattle.filing_laws.specs.Updating.NetChange.{IsUntouchedAmendment, copy_now}
use Rattle.filing_laws.specs.Stamping.StampedVersions.{IsVersionOf, EachConflictIsStamped, is_staged, IsStagedBy}
use Rattle.filing_laws.specs.Stamping.StampedVersions.{EachStagedChangeMakesTheCopy, EachLoadMakesItsVersion}
use Rattle.filing_laws.specs.Stamping.StampedVersions.{EachCommitMakesItsVersion, EachOtherEntryLeavesTheVersion}
use Rattle.filing_model.proofs.Common.Tests.{none_from_not_is_some}
use Rattle.filing_model.proofs.Common.Texts.{text_eq-refl}
use Rattle.filing_laws.proofs.Lists.WithOneValue.{bare}
use Rattle.filing_laws.proofs.Touching.QuietEntries.{quiet_touches}
use Rattle.filing_laws.proofs.Touching.EntryCases.{EntryCase, Quiet, Accepted, Passed, entry_case, quiet_repository}
use Rattle.filing_laws.proofs.Stamping.Stamps.{each_touch_is_the_greatest, stamps_tell_the_last_touch}
use Rattle.filing_laws.proofs.Agreement.AgreeOnThings.{agree_fact}
use Rattle.filing_laws.proofs.Touching.ChangedPlaces.{never_found, change_at-with_values}
use Rattle.filing_laws.proofs.Updating.NetChanges.{is_kept, change_at-change_between, staged_agrees, staged_ends, net_change_makes_the_copy, each_commit_lays_its_net_change}
use Rattle.filing_laws.proofs.Updating.LaidOver.{bare-changed, fact_in-changed, reports_same, repositories_same, report_at-laid_over, count-laid_over}

-- ---- conflicts

-- the first of some things that was touched, by their stamps
stamped_first : (n : ℕ) (o : Option ℕ) (t : Thing) (rest : Option (ℕ × Thing))
    → option_or (option_map (λ m. (m, t)) (above n o)) rest ≡ cond (nat_lt n (unwrap_or o 0)) (Some (unwrap_or o 0, t)) rest
stamped_first n None t rest = let least : 0 ≤ n = omega arith in sym (ap (λ b. cond b (Some (0, t)) rest) (le-ltb n 0 least))
stamped_first n (Some m) t rest = by (nat_lt n m)
  where
    by : (b : Bool) → option_or (option_map (λ m. (m, t)) (cond b (Some m) None)) rest ≡ cond b (Some (m, t)) rest
    by true = refl
    by false = refl

pub each_conflict_is_stamped : EachConflictIsStamped
each_conflict_is_stamped h s v [] lawful is = refl
each_conflict_is_stamped h s v (t ∷ ts) lawful is =
    ap (λ o. option_or (option_map (λ n. (n, t)) o) (first_conflict s ts h)) (stamps_tell_the_last_touch h s t lawful)
    ∙ stamped_first (base_of s h).count (greatest_touch t h) t (first_conflict s ts h)
    ∙ (λ i. cond (nat_lt (base_of s h).count (sym (is.stamps_are t) i)) (Some (sym (is.stamps_are t) i, t)) (each_conflict_is_stamped h s v ts lawful is i))

-- ---- an entry

-- the stamp after an entry
stamp_next : (h : History) (e : Entry) (t : Thing) → IsLawful (e ∷ h)
    → unwrap_or (greatest_touch t (e ∷ h)) 0 ≡ cond (touches e h t) (number_in e.reply) (unwrap_or (greatest_touch t h) 0)
stamp_next h e t lawful = ap (λ o. unwrap_or o 0) (each_touch_is_the_greatest h e t lawful) ∙ by (touches e h t)
  where
    by : (b : Bool) → unwrap_or (cond b (Some (number_in e.reply)) (greatest_touch t h)) 0 ≡ cond b (number_in e.reply) (unwrap_or (greatest_touch t h) 0)
    by true = refl
    by false = refl

pub each_other_entry_leaves_the_version : EachOtherEntryLeavesTheVersion
each_other_entry_leaves_the_version h e v lawful is quiet = record {
  repository_is = is.repository_is ∙ sym (quiet_repository h e quiet);
  stamps_are = λ t.
      is.stamps_are t ∙ sym (ap (λ b. cond b (number_in e.reply) (unwrap_or (greatest_touch t h) 0)) (quiet_touches e.reply e h t quiet))
      ∙ sym (stamp_next h e t lawful);
}

pub each_load_makes_its_version : EachLoadMakesItsVersion
each_load_makes_its_version h e name r n v lawful is step told = by (entry_case h e lawful.1)
  where
    by : EntryCase h e → IsVersionOf (e ∷ h) (version_with name r v)
    by (Quiet quiet) = absurd (true≢false (sym (ap counts told) ∙ quiet))
    by (Passed passed) = let apart : reply.Committed ((repository h).count + 1) ≡ reply.Loaded n = sym passed.reply ∙ told in cc
    by (Accepted load) =
        let same : Load load.name load.report ≡ Load name r = sym load.step ∙ step in
        let names : load.name ≡ name = cc in
        let reports : load.report ≡ r = cc in
        let number : number_in e.reply ≡ next_number v = ap number_in load.reply ∙ sym (ap (λ c. c.count + 1) is.repository_is) in
        record {
          repository_is =
              ap (λ c. with_report c name r) is.repository_is
              ∙ (λ i. with_report (repository h) (sym names i) (sym reports i)) ∙ sym load.result;
          stamps_are = λ t.
              let touched : touches e h t ≡ thing_eq t (thing.Report name) = ap (λ x. touches_with x e h t) load.reply ∙ ap (λ x. is_loaded x t) step in
              (λ i. cond (sym touched i) (sym number i) (is.stamps_are t i)) ∙ sym (stamp_next h e t lawful);
        }

-- ---- a change by what stands at each place

-- changes that leave the same at each place of a repository, and declare the same, make the same of it
laid_same : (a b : Change) (c : Repository) → ((m q : Text) → unwrap_or (change_at a m q) (fact_at c m q) ≡ unwrap_or (change_at b m q) (fact_at c m q))
    → ((m : Text) → declared_in a m ≡ declared_in b m) → laid_over a c ≡ laid_over b c
laid_same a b c facts declared =
    repositories_same (laid_over a c) (laid_over b c) (count-laid_over a c ∙ sym (count-laid_over b c))
    (λ m. report_at-laid_over a c m ∙ by m (report_at c m) refl ∙ sym (report_at-laid_over b c m))
  where
    by : (m : Text) (o : Option Report) → report_at c m ≡ o → option_map (changed (change_in a m)) o ≡ option_map (changed (change_in b m)) o
    by m None there = refl
    by m (Some r) there =
        ap Some (reports_same (changed (change_in a m) r) (changed (change_in b m) r)
        (bare-changed (change_in a m) r ∙ ap (λ d. declaring_if d (bare r)) (declared m) ∙ sym (bare-changed (change_in b m) r))
        (λ q. fact_in-changed (change_in a m) r q
        ∙ subst (λ o. unwrap_or (change_at a m q) (option_and_then (λ r. fact_in r q) o) ≡ unwrap_or (change_at b m q) (option_and_then (λ r. fact_in r q) o)) there (facts m q)
        ∙ sym (fact_in-changed (change_in b m) r q)))

-- ---- tests of the identifiers of a map

-- an identifier at which something stands and that passes
any_from : {X : Type 0} (p : Text → Bool) (es : List (Text × X)) (q : Text) → is_some (find text_cmp q es) ≡ true → p q ≡ true → list_any (λ e. p e.0) es ≡ true
any_from {X} p es q there passes = by (list_any (λ e. p e.0) es) refl (find text_cmp q es) refl there
  where
    by : (b : Bool) → list_any (λ e. p e.0) es ≡ b → (o : Option X) → find text_cmp q es ≡ o → is_some o ≡ true → list_any (λ e. p e.0) es ≡ true
    by true any o found is = any
    by false never None found is = absurd (true≢false (sym is))
    by false never (Some x) found is = absurd (true≢false (sym passes ∙ never_found (λ e. p e.0) q x es never found))

-- one of them, where there is any
any_to : {X : Type 0} (p : Text → Bool) (es : List (Text × X)) → list_any (λ e. p e.0) es ≡ true → (q : Text) × (is_some (find text_cmp q es) ≡ true) × (p q ≡ true)
any_to p [] any = absurd (true≢false (sym any))
any_to p (e ∷ es) any = by (λ later. any_to p es later) (p e.0) refl any
  where
    behind : (q : Text) → is_some (find text_cmp q es) ≡ true → (b : Bool) → is_some (cond b (Some e.1) (find text_cmp q es)) ≡ true
    behind q there true = refl
    behind q there false = there

    by : (list_any (λ e. p e.0) es ≡ true → (q : Text) × (is_some (find text_cmp q es) ≡ true) × (p q ≡ true))
        → (b : Bool) → p e.0 ≡ b → (b || list_any (λ e. p e.0) es) ≡ true → (q : Text) × (is_some (find text_cmp q (e ∷ es)) ≡ true) × (p q ≡ true)
    by more true passes any = (e.0, ap (λ b. is_some (cond b (Some e.1) (find text_cmp e.0 es))) (text_eq-refl e.0), passes)
    by more false fails any = let later = more any in (later.0, behind later.0 later.1 (text_eq later.0 e.0), later.2)

-- maps in which the same identifiers pass
any_same : {X : Type 0} (p : Text → Bool) (es fs : List (Text × X)) → ((q : Text) → (is_some (find text_cmp q es) && p q) ≡ (is_some (find text_cmp q fs) && p q))
    → list_any (λ e. p e.0) es ≡ list_any (λ e. p e.0) fs
any_same {X} p es fs same = by (list_any (λ e. p e.0) es) refl (list_any (λ e. p e.0) fs) refl
  where
    goes : (es fs : List (Text × X)) → ((q : Text) → (is_some (find text_cmp q es) && p q) ≡ (is_some (find text_cmp q fs) && p q))
        → list_any (λ e. p e.0) es ≡ true → list_any (λ e. p e.0) fs ≡ true
    goes es fs same any =
        let one = any_to p es any in
        let both : (is_some (find text_cmp one.0 fs) && p one.0) ≡ true = sym (same one.0) ∙ (λ i. one.1 i && one.2 i) in
        let parts = and_parts (is_some (find text_cmp one.0 fs)) (p one.0) both in
        any_from p fs one.0 parts.0 parts.1

    by : (a : Bool) → list_any (λ e. p e.0) es ≡ a → (b : Bool) → list_any (λ e. p e.0) fs ≡ b → list_any (λ e. p e.0) es ≡ list_any (λ e. p e.0) fs
    by true ea true eb = ea ∙ sym eb
    by false ea false eb = ea ∙ sym eb
    by true ea false eb = absurd (true≢false (sym (goes es fs same ea) ∙ eb))
    by false ea true eb = absurd (true≢false (sym (goes fs es (λ q. sym (same q)) eb) ∙ ea))

-- ---- what an untouched amendment has staged

module _ (h : History) (s : ℕ) (amendment : IsUntouchedAmendment h s) (change : Change) (staged : IsStagedBy h s change) where
  abbrev now : Repository
  now = repository h

  abbrev opening : Repository
  opening = base_of s h

  abbrev copy : Repository
  copy = solo_copy Amend opening (calls_of s h)

  abbrev net : Change
  net = net_change_of s h

  -- what the net change has at a place
  net_at : (m q : Text) → change_at net m q ≡ cond (is_staged s h m q && is_kept opening copy m q) (Some (fact_at copy m q)) None
  net_at m q =
      change_at-with_values (staged_values (calls_of s h) (replies_of s h)) (change_between opening copy (staged_places (calls_of s h) (replies_of s h))) m q
      ∙ change_at-change_between opening copy (staged_places (calls_of s h) (replies_of s h)) m q

  -- a staged place stands as at the opening, and in the copy as in the copy that would be made now
  stays : (m q : Text) → is_staged s h m q ≡ true → fact_at opening m q ≡ fact_at now m q
  stays m q is = agree_fact m q opening now (staged_agrees h s amendment m q is)

  ends : (m q : Text) → is_staged s h m q ≡ true → fact_at copy m q ≡ fact_at (copy_now h s) m q
  ends m q is = staged_ends h s amendment m q is

  same_facts : (m q : Text) → unwrap_or (change_at change m q) (fact_at now m q) ≡ unwrap_or (change_at net m q) (fact_at now m q)
  same_facts m q =
      ap (λ o. unwrap_or o (fact_at now m q)) (staged.facts m q)
      ∙ by (is_staged s h m q) refl (is_kept opening copy m q) refl
      ∙ sym (ap (λ o. unwrap_or o (fact_at now m q)) (net_at m q))
    where
      by : (b : Bool) → is_staged s h m q ≡ b → (k : Bool) → is_kept opening copy m q ≡ k
          → unwrap_or (cond b (Some (fact_at copy m q)) None) (fact_at now m q) ≡ unwrap_or (cond (b && k) (Some (fact_at copy m q)) None) (fact_at now m q)
      by false other k kept = refl
      by true is true kept = refl
      by true is false out =
          let parts = or_parts (is_some (fact_at opening m q)) (is_some (fact_at copy m q)) out in
          none_from_not_is_some (fact_at copy m q) parts.1
          ∙ sym (none_from_not_is_some (fact_at opening m q) parts.0)
          ∙ stays m q is

  pub staged_change_makes_the_copy : laid_over change now ≡ laid_over net now
  staged_change_makes_the_copy = laid_same change net now same_facts staged.declared

  -- ---- what it touches

  abbrev after : Repository
  after = after_change net now

  -- the copy's fact is what the commit leaves
  after_at : (m q : Text) → fact_at after m q ≡ fact_at (copy_now h s) m q
  after_at m q = ap (λ (c : Repository). fact_at c m q) (net_change_makes_the_copy h s amendment)

  either_there : (test : Fact → Bool) (x y : Option Fact) → x ≡ None → y ≡ None → (option_map_or test x false || option_map_or test y false) ≡ false
  either_there test x y ex ey = λ i. option_map_or test (ex i) false || option_map_or test (ey i) false

  -- where nothing stands at the opening and in the copy, nothing stands before and after
  nothing_passes : (test : Fact → Bool) (m q : Text) → is_staged s h m q ≡ true → is_kept opening copy m q ≡ false → passes_at test now after m q ≡ false
  nothing_passes test m q is out =
      let parts = or_parts (is_some (fact_at opening m q)) (is_some (fact_at copy m q)) out in
      either_there test (fact_at now m q) (fact_at after m q)
      (sym (stays m q is) ∙ none_from_not_is_some (fact_at opening m q) parts.0)
      (after_at m q ∙ sym (ends m q is) ∙ none_from_not_is_some (fact_at copy m q) parts.1)

  -- so a test of the fact before or after passes for the same places
  same_passing : (test : Fact → Bool) (within : Bool) (m q : Text)
      → (is_some (change_at change m q) && (within && passes_at test now after m q)) ≡ (is_some (change_at net m q) && (within && passes_at test now after m q))
  same_passing test within m q =
      (λ i. is_some (staged.facts m q i) && (within && passes_at test now after m q))
      ∙ by (is_staged s h m q) refl (is_kept opening copy m q) refl
      ∙ (λ i. is_some (sym (net_at m q) i) && (within && passes_at test now after m q))
    where
      fails : (w : Bool) → (w && false) ≡ false
      fails true = refl
      fails false = refl

      by : (b : Bool) → is_staged s h m q ≡ b → (k : Bool) → is_kept opening copy m q ≡ k
          → (is_some (cond b (Some (fact_at copy m q)) None) && (within && passes_at test now after m q))
          ≡ (is_some (cond (b && k) (Some (fact_at copy m q)) None) && (within && passes_at test now after m q))
      by false other k kept = refl
      by true is true kept = refl
      by true is false out = ap (λ p. within && p) (nothing_passes test m q is out) ∙ fails within

  there_or : (x y : Option Fact) → (option_map_or (λ fact. true) x false || option_map_or (λ fact. true) y false) ≡ (is_some x || is_some y)
  there_or None None = refl
  there_or None (Some y) = refl
  there_or (Some x) y = refl

  same_id : (m q : Text) → (is_some (change_at change m q) && passes_at (λ fact. true) now after m q) ≡ is_some (change_at net m q)
  same_id m q =
      (λ i. is_some (staged.facts m q i) && there_or (fact_at now m q) (fact_at after m q) i)
      ∙ by (is_staged s h m q) refl
      ∙ sym (ap is_some (net_at m q))
    where
      kept : is_staged s h m q ≡ true → (is_some (fact_at now m q) || is_some (fact_at after m q)) ≡ is_kept opening copy m q
      kept is = λ i. is_some (sym (stays m q is) i) || is_some ((after_at m q ∙ sym (ends m q is)) i)

      only_kept : (k : Bool) → k ≡ is_some (cond k (Some (fact_at copy m q)) None)
      only_kept true = refl
      only_kept false = refl

      by : (b : Bool) → is_staged s h m q ≡ b
          → (is_some (cond b (Some (fact_at copy m q)) None) && (is_some (fact_at now m q) || is_some (fact_at after m q)))
          ≡ is_some (cond (b && is_kept opening copy m q) (Some (fact_at copy m q)) None)
      by false other = refl
      by true is = kept is ∙ only_kept (is_kept opening copy m q)

  -- a thing is stamped where the net change touches it
  pub stamped_is_touched : (t : Thing) → is_stamped now after change t ≡ is_changed now after net t
  stamped_is_touched (thing.Report name) = refl
  stamped_is_touched (thing.Id name id) = same_id name id
  stamped_is_touched (thing.Cell name dims) =
      any_same (λ q. passes_at (has_dims dims) now after name q) (change_in change name).facts.entries (change_in net name).facts.entries
      (λ q. same_passing (has_dims dims) true name q)
  stamped_is_touched (thing.Range name query upto) =
      any_same (λ q. is_within query.after upto q && passes_at (answers_query query.concept query.period) now after name q)
      (change_in change name).facts.entries (change_in net name).facts.entries
      (λ q. same_passing (answers_query query.concept query.period) (is_within query.after upto q) name q)
  stamped_is_touched (thing.Policy name) = ap is_some (staged.declared name)

pub each_staged_change_makes_the_copy : EachStagedChangeMakesTheCopy
each_staged_change_makes_the_copy h s change amendment staged = staged_change_makes_the_copy h s amendment change staged

-- ---- a commit

pub each_commit_makes_its_version : EachCommitMakesItsVersion
each_commit_makes_its_version h e s n change v lawful is of_it told staged = by (entry_case h e lawful.1)
  where
    by : EntryCase h e → IsVersionOf (e ∷ h) (version_after change v)
    by (Quiet quiet) = absurd (true≢false (sym (ap counts told) ∙ quiet))
    by (Accepted load) = let apart : reply.Loaded ((repository h).count + 1) ≡ reply.Committed n = sym load.reply ∙ told in cc
    by (Passed passed) =
        let same : passed.s ≡ s = same_Some passed.s s (sym passed.of_it ∙ of_it) in
        let amendment : IsUntouchedAmendment h s =
        subst (IsUntouchedAmendment h) same (record { lawful = lawful.0; live = passed.live; untouched = passed.untouched }) in
        let left : repository (e ∷ h) ≡ after_change (net_change_of s h) (repository h) = each_commit_lays_its_net_change h e s n lawful of_it told in
        let made : after_change change (repository h) ≡ after_change (net_change_of s h) (repository h) =
        ap (λ (c : Repository). record c { count = (repository h).count + 1 }) (staged_change_makes_the_copy h s amendment change staged) in
        let number : number_in e.reply ≡ next_number v = ap number_in passed.reply ∙ sym (ap (λ c. c.count + 1) is.repository_is) in
        record {
          repository_is = ap (after_change change) is.repository_is ∙ made ∙ sym left;
          stamps_are = λ t.
              let touched : touches e h t ≡ is_changed (repository h) (after_change (net_change_of s h) (repository h)) (net_change_of s h) t =
              ap (λ x. touches_with x e h t) told
              ∙ ap (λ o. option_map_or (λ s. is_changed (repository h) (repository (e ∷ h)) (net_change_of s h) t) o false) of_it
              ∙ ap (λ c. is_changed (repository h) c (net_change_of s h) t) left in
              let stamped : is_stamped v.repository (after_change change v.repository) change t ≡ touches e h t =
              (λ i. is_stamped (is.repository_is i) ((ap (after_change change) is.repository_is ∙ made) i) change t)
              ∙ stamped_is_touched h s amendment change staged t ∙ sym touched in
              (λ i. cond (stamped i) (sym number i) (is.stamps_are t i)) ∙ sym (stamp_next h e t lawful);
        }

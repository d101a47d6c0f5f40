-- The versions of a history differ at its places alone.
use Rattle.std.proofs.Common.{◌≡◌, ◌∙◌, ap, sym, refl, subst, ℕ, zero, suc, ◌+◌, Bool, true, false, cond, ◌&&◌, List, [], ◌∷◌, ◌++◌, Option, Some}
use Rattle.std.proofs.Common.{None, is_some, option_map, option_and_then, true≢false}
use Rattle.std.proofs.lemmas.Bool.{or_from}
use Rattle.std.specs.List.{list_any, slice_get, cons_option}
use Rattle.std.specs.Option.{option_map_or}
use Rattle.filing_model.specs.Common.Text.{Text, text_eq}
use Rattle.filing_model.specs.Oim.Reports.{Report}
use Rattle.filing_model.specs.Sessions.Calls.{Call}
use Rattle.filing_model.specs.Sessions.Replies as reply
use Rattle.filing_model.specs.Sessions.Replies.{Reply}
use Rattle.filing_model.specs.Sessions.Repository.{Repository, nothing, report_at, fact_in, fact_at, with_report}
use Rattle.filing_model.specs.Sessions.Sessions.{solo_copy, solo_replies}
use Rattle.filing_model.specs.Histories.History.{Step, Ask, Entry, History, is_of, call_in, calls_of, repository}
use Rattle.filing_model.specs.Histories.Lawful.{IsLawful, IsNext}
use Rattle.filing_model.specs.Histories.Touches.{place_of_call, if_staged, staged_places}
use Rattle.filing_model.specs.Histories.Versions.{counts, versions}
use Rattle.filing_model.specs.declared.kind.Kind.TheVariants.{Amend}
use Rattle.filing_model.proofs.Common.Texts.{text_same}
use Rattle.filing_model.proofs.Common.TextMaps.{get-insert}
use Rattle.filing_laws.proofs.Agreement.RunsAlike.{is_place, run_leaves_names, run_leaves_facts}
use Rattle.filing_laws.proofs.Lists.EachElement.{Each, IsNever, never_parts, each_mapped}
use Rattle.filing_laws.proofs.Touching.EntryCases.{EntryCase, Quiet, Accepted, Passed, entry_case, quiet_repository}
use Rattle.version_differences.specs.Places.{Places, ids_at, CoverFacts, CoverDifference}
use Rattle.history_views.specs.Placed.{loads_name, stages_at, HasPlaces, KnowsPlaces}
use Rattle.history_views.specs.Versions.{IsSought, version_at}

-- ---- what holds of each version

each_joined : {A : Type 0} (P : A → Type 0) (xs ys : List A) → Each P xs → Each P ys → Each P (xs ++ ys)
each_joined P [] ys h hs = hs
each_joined P (x ∷ xs) ys h hs = (h.0, each_joined P xs ys h.1 hs)

each_at : {A : Type 0} (P : A → Type 0) (xs : List A) (n : ℕ) (x : A) → Each P xs → slice_get xs n ≡ Some x → P x
each_at P [] n x h is = let none : None ≡ Some x = is in cc
each_at P (y ∷ ys) zero x h is = let same : y ≡ x = cc in subst P same h.0
each_at P (y ∷ ys) (suc n) x h is = each_at P ys n x h.1 is

one_more : (P : Repository → Type 0) (e : Entry) (h : History) → Each P (versions h) → P (repository (e ∷ h)) → Each P (versions (e ∷ h))
one_more P e h before now = by (counts e.reply)
  where
    by : (b : Bool) → Each P (versions h ++ cond b (repository (e ∷ h) ∷ []) [])
    by true = each_joined P (versions h) (repository (e ∷ h) ∷ []) before (now, tt)
    by false = each_joined P (versions h) [] before tt

-- ---- a name that no step loads

no_names : (o : Option Report) → option_map (λ (r : Report). r.names) o ≡ None → o ≡ None
no_names None none = refl
no_names (Some r) none = cc

module _ (name : Text) where
  abbrev IsUnloaded : History → Type 0
  IsUnloaded h = IsNever (λ e. loads_name name e.step) h

  still_gone : (h : History) (e : Entry) → IsNext h e → loads_name name e.step ≡ false → report_at (repository h) name ≡ None → report_at
      (repository (e ∷ h)) name ≡ None
  still_gone h e next other gone = by (entry_case h e next)
    where
      by : EntryCase h e → report_at (repository (e ∷ h)) name ≡ None
      by (Quiet quiet) = ap (λ c. report_at c name) (quiet_repository h e quiet) ∙ gone
      by (Accepted load) =
          ap (λ c. report_at c name) load.result ∙ get-insert (repository h).reports load.name load.report name
          ∙ ap (λ b. cond b (Some load.report) (report_at (repository h) name)) (sym (ap (loads_name name) load.step) ∙ other) ∙ gone
      by (Passed it) =
          ap (λ c. report_at c name) it.result
          ∙ no_names (report_at (solo_copy Amend (repository h) (calls_of it.s h)) name)
          (run_leaves_names Amend (calls_of it.s h) (repository h) name ∙ ap (option_map (λ (r : Report). r.names)) gone)

  gone_now : (h : History) → IsLawful h → IsUnloaded h → report_at (repository h) name ≡ None
  gone_now [] lawful never = refl
  gone_now (e ∷ h) lawful never =
      let parts = never_parts (λ (e : Entry). loads_name name e.step) e h never in
      still_gone h e lawful.1 parts.0 (gone_now h lawful.0 parts.1)

  -- no version has a report of it
  gone_always : (h : History) → IsLawful h → IsUnloaded h → Each (λ c. report_at c name ≡ None) (versions h)
  gone_always [] lawful never = (refl, tt)
  gone_always (e ∷ h) lawful never =
      let parts = never_parts (λ (e : Entry). loads_name name e.step) e h never in
      one_more (λ c. report_at c name ≡ None) e h (gone_always h lawful.0 parts.1) (gone_now (e ∷ h) lawful never)

-- ---- a place at which no step puts or removes

module _ (name id : Text) where
  abbrev asks_at : Call → Bool
  asks_at ask = option_map_or (is_place name id) (place_of_call ask) false

  staged_never : (r : Reply) (o : Option (Text × Text)) → option_map_or (is_place name id) o false ≡ false → option_map_or (is_place name id)
      (if_staged r o) false ≡ false
  staged_never reply.Staged o never = never
  staged_never _ o never = refl

  one_place : (o : Option (Text × Text)) (ps : List (Text × Text)) → option_map_or (is_place name id) o false ≡ false → IsNever (is_place name id) ps
      → IsNever (is_place name id) (cons_option o ps)
  one_place None ps never rest = rest
  one_place (Some p) ps never rest = or_from (is_place name id p) (list_any (is_place name id) ps) never rest

  places_never : (calls : List Call) (replies : List Reply) → IsNever asks_at calls → IsNever (is_place name id) (staged_places calls replies)
  places_never [] replies never = refl
  places_never (ask ∷ calls) [] never = refl
  places_never (ask ∷ calls) (r ∷ replies) never =
      let parts = never_parts asks_at ask calls never in
      one_place (if_staged r (place_of_call ask)) (staged_places calls replies) (staged_never r (place_of_call ask) parts.0)
      (places_never calls replies parts.1)

  abbrev IsUnstaged : History → Type 0
  IsUnstaged h = IsNever (λ e. stages_at name id e.step) h

  call_never : (step : Step) → stages_at name id step ≡ false → IsNever asks_at (call_in step)
  call_never (Ask ask) never = or_from (asks_at ask) false never refl
  call_never _ never = refl

  never_joined : (xs ys : List Call) → IsNever asks_at xs → IsNever asks_at ys → IsNever asks_at (xs ++ ys)
  never_joined [] ys never rest = rest
  never_joined (x ∷ xs) ys never rest =
      let parts = never_parts asks_at x xs never in
      or_from (asks_at x) (list_any asks_at (xs ++ ys)) parts.0 (never_joined xs ys parts.1 rest)

  calls_never : (s : ℕ) (h : History) → IsUnstaged h → IsNever asks_at (calls_of s h)
  calls_never s [] never = refl
  calls_never s (e ∷ h) never =
      let parts = never_parts (λ (e : Entry). stages_at name id e.step) e h never in
      never_joined (calls_of s h) (cond (is_of s e) (call_in e.step) []) (calls_never s h parts.1) (by (is_of s e) parts.0)
    where
      by : (b : Bool) → stages_at name id e.step ≡ false → IsNever asks_at (cond b (call_in e.step) [])
      by true other = call_never e.step other
      by false other = refl

  -- where the one repository has the report, the other has it, with the same fact
  record Stands (now c : Repository) : Type 0 where
    stands : is_some (report_at c name) ≡ true → (is_some (report_at now name) ≡ true) × (fact_at c name id ≡ fact_at now name id)

  stands_itself : (c : Repository) → Stands c c
  stands_itself c = record { stands = λ there. (there, refl) }

  stands_then : (now between c : Repository) → Stands now between → Stands between c → Stands now c
  stands_then now between c later earlier = record {
    stands = λ there.
        let first = earlier.stands there in
        let next = later.stands first.0 in
        (next.0, first.1 ∙ next.1);
  }

  stands_same_report : (now c : Repository) → report_at now name ≡ report_at c name → Stands now c
  stands_same_report now c same = record {
    stands = λ there. (ap is_some same ∙ there, ap (option_and_then (λ r. fact_in r id)) (sym same));
  }

  loaded_stands : (c : Repository) (loaded : Text) (x : Report) → is_some (report_at c loaded) ≡ false → (b : Bool) → text_eq name loaded ≡ b → Stands
      (with_report c loaded x) c
  loaded_stands c loaded x new true same = record {
    stands = λ there. absurd (true≢false (sym there ∙ ap (λ n. is_some (report_at c n)) (text_same name loaded same) ∙ new));
  }
  loaded_stands c loaded x new false other =
      stands_same_report (with_report c loaded x) c (get-insert c.reports loaded x name ∙ ap (λ b. cond b (Some x) (report_at c name)) other)

  is_some-mapped : (o : Option Report) → is_some (option_map (λ (r : Report). r.names) o) ≡ is_some o
  is_some-mapped None = refl
  is_some-mapped (Some x) = refl

  run_stands : (h : History) (s : ℕ) → IsUnstaged h → Stands (solo_copy Amend (repository h) (calls_of s h)) (repository h)
  run_stands h s never =
      let c = repository h in
      let calls = calls_of s h in
      record {
        stands = λ there. (
          sym (is_some-mapped (report_at (solo_copy Amend c calls) name)) ∙ ap is_some (run_leaves_names Amend calls c name) ∙ is_some-mapped
              (report_at c name) ∙ there,
          sym (run_leaves_facts Amend calls c name id (places_never calls (solo_replies Amend c calls) (calls_never s h never))),
        );
      }

  entry_stands : (h : History) (e : Entry) → IsNext h e → IsUnstaged h → Stands (repository (e ∷ h)) (repository h)
  entry_stands h e next never = by (entry_case h e next)
    where
      by : EntryCase h e → Stands (repository (e ∷ h)) (repository h)
      by (Quiet quiet) = subst (λ c. Stands c (repository h)) (sym (quiet_repository h e quiet)) (stands_itself (repository h))
      by (Accepted load) =
          subst (λ c. Stands c (repository h)) (sym load.result) (loaded_stands (repository h) load.name load.report load.new (text_eq name load.name) refl)
      by (Passed it) =
          let copy = solo_copy Amend (repository h) (calls_of it.s h) in
          subst (λ c. Stands c (repository h)) (sym it.result)
          (stands_then (record copy { count = (repository h).count + 1 }) copy (repository h)
          (stands_same_report (record copy { count = (repository h).count + 1 }) copy refl) (run_stands h it.s never))

  -- what stood there in a version stands there now
  stands_always : (h : History) → IsLawful h → IsUnstaged h → Each (Stands (repository h)) (versions h)
  stands_always [] lawful never = (stands_itself nothing, tt)
  stands_always (e ∷ h) lawful never =
      let parts = never_parts (λ (e : Entry). stages_at name id e.step) e h never in
      one_more (Stands (repository (e ∷ h))) e h
      (each_mapped (Stands (repository h)) (Stands (repository (e ∷ h)))
      (λ c earlier. stands_then (repository (e ∷ h)) (repository h) c (entry_stands h e lawful.1 parts.1) earlier) (versions h)
      (stands_always h lawful.0 parts.1)) (stands_itself (repository (e ∷ h)))

-- ---- two versions

module _ (places : Places) (h : History) (lawful : IsLawful h) (has : HasPlaces places h) (n m : ℕ) (c d : Repository)
    (is_c : version_at h n ≡ Some c) (is_d : version_at h m ≡ Some d) where
  same_fact : (name : Text) → CoverFacts (ids_at places name) c d name
  same_fact name id r s is_r is_s none =
      let all = stands_always name id h lawful (has.ids name id none) in
      let one = each_at (Stands name id (repository h)) (versions h) n c all is_c in
      let other = each_at (Stands name id (repository h)) (versions h) m d all is_d in
      sym (ap (option_and_then (λ (r : Report). fact_in r id)) is_r) ∙ (one.stands (ap is_some is_r)).1 ∙ sym (other.stands (ap is_some is_s)).1
      ∙ ap (option_and_then (λ (r : Report). fact_in r id)) is_s

  pub versions_covered : CoverDifference places c d
  versions_covered = record {
    names = λ name none.
        let all = gone_always name h lawful (has.names name none) in
        (each_at (λ c. report_at c name ≡ None) (versions h) n c all is_c, each_at (λ c. report_at c name ≡ None) (versions h) m d all is_d);
    facts = same_fact;
  }

-- ---- two versions that are sought

module _ (places : Places) where
  met_at : (asked : Option ℕ) (c : Repository) (h : History) → IsSought asked (Some c) h → (n : ℕ) × (version_at h n ≡ Some c)
  met_at None c h is = cc
  met_at (Some n) c h is = (n, sym is)

  pub known_after : (h : History) → IsLawful h → (n m : Option ℕ) (from to : Option Repository) → IsSought n from h → IsSought m to h
      → HasPlaces places h → KnowsPlaces places from to h
  known_after h lawful n m None to is_from is_to has = has
  known_after h lawful n m (Some c) None is_from is_to has = has
  known_after h lawful n m (Some c) (Some d) is_from is_to has =
      let one = met_at n c h is_from in
      let other = met_at m d h is_to in
      versions_covered places h lawful has one.0 other.0 c d one.1 other.1

  -- nothing more is looked at once both are met
  pub known_before : (from to : Option Repository) (h : History) (e : Entry) → (is_some from && is_some to) ≡ true → KnowsPlaces places from to h
      → KnowsPlaces places from to (e ∷ h)
  known_before (Some c) (Some d) h e met knows = knows
  known_before (Some c) None h e met knows = absurd (true≢false (sym met))
  known_before None to h e met knows = absurd (true≢false (sym met))

  -- until then each place of the history is one
  pub known_so_far : (from to : Option Repository) (h : History) → (is_some from && is_some to) ≡ false → KnowsPlaces places from to h → HasPlaces places h
  known_so_far (Some c) (Some d) h unmet knows = absurd (true≢false unmet)
  known_so_far (Some c) None h unmet knows = knows
  known_so_far None to h unmet knows = knows

-- The names of the reports of a repository, after one entry more, and the list of the reports by their names.
use Rattle.std.proofs.Common.{◌≡◌, ◌∙◌, ap, sym, refl, subst, Bool, true, false, cond, ◌∷◌, Option, Some, None, is_some, option_map, true≢false}
use Rattle.filing_model.specs.Common.Text.{Text, text_eq}
use Rattle.filing_model.specs.Common.TextMap.{TextMap, get, insert}
use Rattle.filing_model.specs.Oim.Reports.{Report}
use Rattle.filing_model.specs.Sessions.Repository.{Repository, report_at}
use Rattle.filing_model.specs.Sessions.Replies as reply
use Rattle.filing_model.specs.Sessions.Replies.{Reply}
use Rattle.filing_model.specs.Histories.History.{Step, Entry, History, calls_of, repository}
use Rattle.filing_model.specs.Histories.Lawful.{IsNext}
use Rattle.filing_model.specs.Histories.Versions.{counts}
use Rattle.filing_model.specs.declared.kind.Kind.TheVariants.{Amend}
use Rattle.filing_model.proofs.Common.TextMaps.{get-insert}
use Rattle.filing_laws.proofs.Agreement.RunsAlike.{run_leaves_names}
use Rattle.filing_laws.proofs.Touching.EntryCases.{EntryCase, Quiet, Accepted, Passed, entry_case, quiet_repository}
use Rattle.history_views.specs.Names.{HasNames, name_loaded, name_told}

-- ---- one entry more

quiet_loads_none : (r : Reply) (step : Step) → counts r ≡ false → name_told r step ≡ None
quiet_loads_none (reply.Loaded n) step quiet = absurd (true≢false quiet)
quiet_loads_none (reply.Committed n) step quiet = refl
quiet_loads_none _ step quiet = refl

is_some-mapped : {X Y : Type 0} (f : X → Y) (o : Option X) → is_some (option_map f o) ≡ is_some o
is_some-mapped f None = refl
is_some-mapped f (Some x) = refl

-- the names as they are, or with one more
abbrev pub IsWith : {X : Type 0} → Option Text → TextMap X → TextMap X → Type 0
IsWith None names names' = names' ≡ names
IsWith {X} (Some name) names names' = (x : X) × (names' ≡ insert names name x)

module _ {X : Type 0} (names names' : TextMap X) where
  one_name_more : (c : Repository) (name : Text) (r : Report) (x : X) → names' ≡ insert names name x → HasNames names c → (q : Text)
      → is_some (get names' q) ≡ is_some (get (insert c.reports name r) q)
  one_name_more c name r x is has q =
      ap (λ (m : TextMap X). is_some (get m q)) is ∙ ap is_some (get-insert names name x q) ∙ by (text_eq q name) ∙ sym
      (ap is_some (get-insert c.reports name r q))
    where
      by : (b : Bool) → is_some (cond b (Some x) (get names q)) ≡ is_some (cond b (Some r) (report_at c q))
      by true = refl
      by false = has q

  pub names_after : (h : History) (e : Entry) → IsNext h e → IsWith (name_loaded e) names names' → HasNames names (repository h) → HasNames names'
      (repository (e ∷ h))
  names_after h e next with has = by (entry_case h e next)
    where
      by : EntryCase h e → HasNames names' (repository (e ∷ h))
      by (Quiet quiet) = λ q.
          let same : names' ≡ names = subst (λ o. IsWith o names names') (quiet_loads_none e.reply e.step quiet) with in
          ap (λ (m : TextMap X). is_some (get m q)) same ∙ has q
          ∙ ap (λ c. is_some (report_at c q)) (sym (quiet_repository h e quiet))
      by (Accepted load) = λ q.
          let more = subst (λ o. IsWith o names names') (λ i. name_told (load.reply i) (load.step i)) with in
          one_name_more (repository h) load.name load.report more.0 more.1 has q
          ∙ ap (λ c. is_some (report_at c q)) (sym load.result)
      by (Passed it) = λ q.
          let same : names' ≡ names = subst (λ o. IsWith o names names') (λ i. name_told (it.reply i) (it.step i)) with in
          ap (λ (m : TextMap X). is_some (get m q)) same
          ∙ has q
          ∙ sym (is_some-mapped (λ (r : Report). r.names) (report_at (repository h) q))
          ∙ sym (ap is_some (run_leaves_names Amend (calls_of it.s h) (repository h) q))
          ∙ is_some-mapped (λ (r : Report). r.names) _
          ∙ ap (λ c. is_some (report_at c q)) (sym it.result)

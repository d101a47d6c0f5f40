-- The reports of a lawful history stay, each with its names.
use Rattle.std.proofs.Common.{◌≡◌, ◌∙◌, ap, sym, refl, ℕ, Bool, true, false, cond, [], ◌∷◌, Option, Some, None, is_some, option_map, true≢false}
use Rattle.filing_model.specs.Common.Text.{Text, text_eq}
use Rattle.filing_model.specs.Common.TextMap.{get}
use Rattle.filing_model.specs.Oim.Reports.{Report}
use Rattle.filing_model.specs.Sessions.Repository.{Repository, report_at, with_report}
use Rattle.filing_model.specs.Histories.History.{Entry, History, opens, calls_of, base_of, repository}
use Rattle.filing_model.specs.Histories.Lawful.{IsLawful}
use Rattle.filing_model.specs.declared.kind.Kind.TheVariants.{Amend}
use Rattle.filing_model.proofs.Common.Texts.{text_same}
use Rattle.filing_model.proofs.Common.TextMaps.{get-insert}
use Rattle.filing_laws.proofs.Lists.WithOneFact.{names_at}
use Rattle.filing_laws.proofs.Agreement.AnsweredAlike.{Stays}
use Rattle.filing_laws.proofs.Agreement.RunsAlike.{run_leaves_names}
use Rattle.filing_laws.proofs.Touching.EntryCases.{EntryCase, Quiet, Accepted, Passed, entry_case, quiet_repository}

load_stays : (c : Repository) (name : Text) (x : Report) → is_some (report_at c name) ≡ false → Stays c (with_report c name x)
load_stays c name x new m names is =
    ap (option_map (λ (r : Report). r.names)) (get-insert c.reports name x m ∙ ap (λ b. cond b (Some x) (get c.reports m)) (other (text_eq m name) refl)) ∙ is
  where
    known : (o : Option Report) → option_map (λ (r : Report). r.names) o ≡ Some names → is_some o ≡ true
    known None none = let apart : None ≡ Some names = none in cc
    known (Some r) some = refl

    other : (b : Bool) → text_eq m name ≡ b → text_eq m name ≡ false
    other true same = absurd (true≢false (sym (known (report_at c m) is) ∙ ap (λ n. is_some (report_at c n)) (text_same m name same) ∙ new))
    other false apart = apart

entry_stays : (older : History) (e : Entry) → EntryCase older e → Stays (repository older) (repository (e ∷ older))
entry_stays older e (Quiet quiet) m names is = ap (λ c. names_at c m) (quiet_repository older e quiet) ∙ is
entry_stays older e (Accepted load) m names is = ap (λ c. names_at c m) load.result ∙ load_stays (repository older) load.name load.report load.new m names is
entry_stays older e (Passed passed) m names is = ap (λ c. names_at c m) passed.result ∙ run_leaves_names Amend (calls_of passed.s older) (repository older) m ∙ is

-- since the opening of a session
pub reports_stay : (h : History) (s : ℕ) → IsLawful h → Stays (base_of s h) (repository h)
reports_stay [] s lawful m names is = is
reports_stay (e ∷ older) s lawful m names is = by (opens s e) (reports_stay older s lawful.0 m names) is
  where
    by : (b : Bool) → (names_at (base_of s older) m ≡ Some names → names_at (repository older) m ≡ Some names)
        → names_at (cond b (repository older) (base_of s older)) m ≡ Some names → names_at (repository (e ∷ older)) m ≡ Some names
    by true before is = entry_stays older e (entry_case older e lawful.1) m names is
    by false before is = entry_stays older e (entry_case older e lawful.1) m names (before is)

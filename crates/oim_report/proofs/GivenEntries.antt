-- Iterators that give a list in whatever way they are called to their end.
use Rattle.std.proofs.Common.{◌≡◌, ap, sym, refl, List, [], ◌∷◌, Option, Some, None, is_some, option_map, unwrap_or, true≢false}
use Rattle.std.specs.Iterator.{AlwaysYields, YieldsFirstBy}
use Rattle.std.proofs.lemmas.Iterator.Consumers.{YieldsList-from_first}
use Rattle.filing_model.specs.Common.Text.{Text}
use Rattle.filing_model.specs.Oim.Facts.{Fact}
use Rattle.filing_model.specs.Oim.Reports.{Report}
use Rattle.oim_report.specs.Entries.{entry_seen, IsReportOf}

module _ {S A B : Type 0} (steps : S → Option A → S → Type 0) (seen : A → B) where
  -- where it gives no more, nothing was left
  pub none_left : (left : List B) (s t : S) → AlwaysYields steps seen s left → steps s None t → left ≡ []
  none_left [] s t runs step = refl
  none_left (y ∷ ys) s t runs step = absurd (runs.0 t step)

  -- what it gives is the first of what was left, and the others are left
  pub first_left : (left : List B) (s t : S) (x : A) → AlwaysYields steps seen s left → steps s (Some x) t
      → (rest : List B) × (left ≡ seen x ∷ rest) × AlwaysYields steps seen t rest
  first_left [] s t x runs step = absurd (runs x t step)
  first_left (y ∷ ys) s t x runs step = (ys, ap (λ z. z ∷ ys) (sym (runs.1 x t step).0), (runs.1 x t step).1)

-- a report is that of its info and of an iterator that is seen as the list of its facts
pub of_its_entries : (info : Text) (entries : List (Text × Fact)) (report : Report) → report.info ≡ info → report.facts.entries ≡ entries
    → IsReportOf (YieldsFirstBy entry_seen (λ es. es)) info entries report
of_its_entries info entries report has_info has_facts =
    let given = YieldsList-from_first entry_seen (λ es. es) {s = entries} report.facts.entries (sym has_facts) in
    record { has_info = has_info; gives_facts = given.runs }

-- so is the report that was found, where its info and its facts were
pub of_what_was_found : (found : Option Report) (info : Text) (entries : List (Text × Fact))
    → Some info ≡ option_map (λ r. r.info) found → Some entries ≡ option_map (λ r. r.facts.entries) found
    → (report : Report) × (found ≡ Some report) × IsReportOf (YieldsFirstBy entry_seen (λ es. es)) info entries report
of_what_was_found None info entries its_info its_entries = absurd (true≢false (ap is_some its_info))
of_what_was_found (Some report) info entries its_info its_entries = (
  report,
  refl,
  of_its_entries info entries report (sym (ap (λ o. unwrap_or o info) its_info)) (sym (ap (λ o. unwrap_or o entries) its_entries)),
)

-- A change laid over a repository report by report, from the first to the last.
use Rattle.std.proofs.Common.{◌≡◌, ◌∙◌, ap, sym, refl, Bool, true, false, cond, T, List, [], ◌∷◌, Option, Some, None, option_map, unwrap_or}
use Rattle.std.specs.FinMap.Entries.{find, is_sorted, below_all}
use Rattle.filing_model.specs.Common.Text.{Text, text_cmp, text_eq}
use Rattle.filing_model.specs.Common.TextMap.{empty, insert}
use Rattle.filing_model.specs.Sessions.Repository.{Repository, report_at}
use Rattle.filing_model.specs.Sessions.Changes.{ReportChange, Change, no_change, changed, changed_at, laid_over}
use Rattle.filing_model.specs.Histories.Stamps.{Version}
use Rattle.filing_model.proofs.Common.Tests.{second_holds}
use Rattle.filing_laws.proofs.Updating.FirstFound.{none_behind}
use Rattle.filing_laws.proofs.Updating.LaidOver.{repositories_same, unchanged, change_of, report_at-laid_over, count-laid_over}

abbrev laid_in_turn : List (Text × ReportChange) → Repository → Repository
laid_in_turn [] c = c
laid_in_turn (e ∷ es) c = laid_in_turn es (changed_at c e)

-- the change of one report
abbrev alone : Text × ReportChange → Change
alone e = insert empty e.0 e.1

report_at-in_turn : (es : List (Text × ReportChange)) (c : Repository) (m : Text) → T (is_sorted text_cmp es)
    → report_at (laid_in_turn es c) m ≡ option_map (changed (change_of es m)) (report_at c m)
report_at-in_turn [] c m sorted = sym (unchanged (report_at c m))
report_at-in_turn (e ∷ es) c m sorted =
    report_at-in_turn es (changed_at c e) m (second_holds (below_all text_cmp e.0 es) (is_sorted text_cmp es) sorted)
    ∙ ap (option_map (changed (change_of es m))) (report_at-laid_over (alone e) c m)
    ∙ by (text_eq m e.0) refl
  where
    by : (b : Bool) → text_eq m e.0 ≡ b
        → option_map (changed (change_of es m)) (option_map (changed (unwrap_or (cond b (Some e.1) None) no_change)) (report_at c m))
        ≡ option_map (changed (unwrap_or (cond b (Some e.1) (find text_cmp m es)) no_change)) (report_at c m)
    by true same =
        ap (λ (o : Option ReportChange). option_map (changed (unwrap_or o no_change)) (option_map (changed e.1) (report_at c m)))
        (none_behind m e es sorted same)
        ∙ unchanged (option_map (changed e.1) (report_at c m))
    by false other = ap (option_map (changed (change_of es m))) (unchanged (report_at c m))

count-in_turn : (es : List (Text × ReportChange)) (c : Repository) → (laid_in_turn es c).count ≡ c.count
count-in_turn [] c = refl
count-in_turn (e ∷ es) c = count-in_turn es (changed_at c e) ∙ count-laid_over (alone e) c

-- the order of the reports does not matter
in_turn-is : (change : Change) (c : Repository) → laid_in_turn change.entries c ≡ laid_over change c
in_turn-is change c = repositories_same (laid_in_turn change.entries c) (laid_over change c)
    (count-in_turn change.entries c ∙ sym (count-laid_over change c))
    (λ m. report_at-in_turn change.entries c m change.sorted ∙ sym (report_at-laid_over change c m))

-- ---- the versions so far

-- what the rest of the changes makes of the version so far is what all make of the first one, and the stamps are the first one's
pub record LaysTheOthers (first : Version) (all rest : List (Text × ReportChange)) (so_far : Version) : Type 0 where
  pub same : laid_in_turn rest so_far.repository ≡ laid_in_turn all first.repository
  pub stamps : so_far.stamp ≡ first.stamp

pub lays_next : (first so_far next : Version) (all : List (Text × ReportChange)) (e : Text × ReportChange) (es : List (Text × ReportChange))
    → next ≡ record so_far { repository = changed_at so_far.repository e } → LaysTheOthers first all (e ∷ es) so_far → LaysTheOthers first all es next
lays_next first so_far next all e es is h = record {
  same = ap (λ (v : Version). laid_in_turn es v.repository) is ∙ h.same;
  stamps = ap (λ (v : Version). v.stamp) is ∙ h.stamps;
}

pub lays_all : (first so_far : Version) (change : Change) → LaysTheOthers first change.entries [] so_far
    → so_far ≡ record first { repository = laid_over change first.repository }
lays_all first so_far change h = λ i. record { repository = (h.same ∙ in_turn-is change first.repository) i; stamp = h.stamps i }

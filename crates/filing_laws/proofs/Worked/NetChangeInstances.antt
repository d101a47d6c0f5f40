-- The laws on net changes at worked histories: each premise is met there, and what the law says of them computes.
use Rattle.std.proofs.Common.{◌≡◌, ◌∙◌, sym, refl, List, [], ◌∷◌, ◌++◌, Option, Some, None, option_map, true}
use Rattle.std.specs.Prelude.{codes}
use Rattle.filing_model.specs.Common.TextMap.{empty, insert}
use Rattle.filing_model.specs.Oim.Reports.{Report}
use Rattle.filing_model.specs.Sessions.Repository.{Repository, nothing, report_at, with_report}
use Rattle.filing_model.specs.Sessions.Replies.{Disallowed, Committed}
use Rattle.filing_model.specs.Sessions.Sessions.{repository_obeys, refusal_of}
use Rattle.filing_model.specs.Histories.History.{Commit, Entry, History, repository}
use Rattle.filing_model.specs.Common.TextMap.{TextMap}
use Rattle.filing_model.specs.Oim.Facts.{Fact}
use Rattle.filing_model.specs.Sessions.Changes.{ReportChange, Change, laid_over, after_change, first_disallowed}
use Rattle.filing_model.specs.Histories.Touches.{net_change_of}
use Rattle.filing_model.specs.declared.duplicates.Allowed.TheVariants.{Never, Complete, All}
use Rattle.filing_model.specs.declared.duplicates.Class.TheVariants as class
use Rattle.filing_model.proofs.Examples.Setting.{Line, played, load, amend, adds, removes, declares, commits, holding, raw, raw_of, fact, fact_of, of_concept}
use Rattle.filing_model.proofs.Examples.Histories.{r1, no_duplicates_before}
use Rattle.filing_laws.specs.Updating.NetChange.{IsUntouchedAmendment, copy_now, PutsFact, IsDisallowedCell, least_disallowed_of, IsDecidedByNewFacts}
use Rattle.filing_laws.proofs.Updating.NetChanges.{each_net_change_makes_the_copy, each_commit_lays_its_net_change}
use Rattle.filing_laws.proofs.Updating.NewFacts.{each_disallowed_cell_holds_a_new_fact}
use Rattle.filing_laws.proofs.Updating.NewFacts.{each_disallowed_cell_of_a_copy_holds_a_new_fact}
use Rattle.filing_laws.proofs.Updating.NewFacts.{each_change_is_decided_by_its_new_facts}
use Rattle.filing_laws.proofs.Updating.NewFacts.{each_copy_is_decided_by_its_new_facts}
use Rattle.filing_laws.proofs.Worked.Instances.{played_is_lawful}

-- a change of facts alone
abbrev putting : TextMap (Option Fact) → ReportChange
putting facts = record { declared = None; facts = facts }

-- ---- one session removes a fact, adds one, and adds another that it removes again; a second adds a fact and commits first

abbrev amended_before : List Line
amended_before =
    load r1 (holding All ((codes "a", fact (codes "x")) ∷ (codes "b", fact (codes "y")) ∷ [])) ∷ amend ∷ amend
    ∷ removes 1 r1 (codes "a") ∷ adds 1 r1 (codes "c") (raw (codes "z")) ∷ adds 1 r1 (codes "d") (raw (codes "v")) ∷ removes 1 r1 (codes "d")
    ∷ adds 2 r1 (codes "e") (raw (codes "w")) ∷ commits 2 ∷ []

abbrev amended : History
amended = played amended_before

pub amendment_is_untouched : IsUntouchedAmendment amended 1
amendment_is_untouched = record { lawful = played_is_lawful amended_before; live = refl; untouched = refl }

-- what was added and removed again is left out
pub net_change_of_amendment : net_change_of 1 amended ≡ insert empty r1 (putting (insert (insert empty (codes "a") None) (codes "c") (Some (fact (codes "z")))))
net_change_of_amendment = refl

-- the report after both sessions
abbrev report_of_both : Report
report_of_both = holding All ((codes "b", fact (codes "y")) ∷ (codes "c", fact (codes "z")) ∷ (codes "e", fact (codes "w")) ∷ [])

pub copy_of_amendment : copy_now amended 1 ≡ record { count = 2; reports = insert empty r1 report_of_both }
copy_of_amendment = refl

pub net_change_makes_the_copy : laid_over (net_change_of 1 amended) (repository amended) ≡ record { count = 2; reports = insert empty r1 report_of_both }
net_change_makes_the_copy = each_net_change_makes_the_copy amended 1 amendment_is_untouched ∙ copy_of_amendment

-- it computes by itself too
pub net_change_laid_over : laid_over (net_change_of 1 amended) (repository amended) ≡ record { count = 2; reports = insert empty r1 report_of_both }
net_change_laid_over = refl

abbrev commit_of_amendment : Entry
commit_of_amendment = record { session = Some 1; step = Commit; reply = Committed 3 }

pub commit_lays_the_net_change : repository (commit_of_amendment ∷ amended) ≡ after_change (net_change_of 1 amended) (repository amended)
commit_lays_the_net_change = each_commit_lays_its_net_change amended commit_of_amendment 1 3 (played_is_lawful (amended_before ++ commits 1 ∷ [])) refl refl

pub commit_leaves_both : repository (commit_of_amendment ∷ amended) ≡ record { count = 3; reports = insert empty r1 report_of_both }
commit_leaves_both = refl

-- ---- two sessions add duplicates where none are allowed, and the first has committed

abbrev duplicated : History
duplicated = played no_duplicates_before

pub second_is_untouched : IsUntouchedAmendment duplicated 2
second_is_untouched = record { lawful = played_is_lawful no_duplicates_before; live = refl; untouched = refl }

pub cell_of_both_is_disallowed : IsDisallowedCell (copy_now duplicated 2) r1 (of_concept (codes "ex:Name"))
cell_of_both_is_disallowed = record { report = holding Never ((codes "a", fact (codes "x")) ∷ (codes "b", fact (codes "x")) ∷ []); there = refl; disallowed = refl }

-- the cell has a fact that the second session put there
pub second_puts_a_fact : PutsFact (net_change_of 2 duplicated) r1 (of_concept (codes "ex:Name"))
second_puts_a_fact = each_disallowed_cell_of_a_copy_holds_a_new_fact duplicated 2 r1 (of_concept (codes "ex:Name")) second_is_untouched refl cell_of_both_is_disallowed

pub second_is_decided_by_its_fact : IsDecidedByNewFacts (copy_now duplicated 2) (net_change_of 2 duplicated)
second_is_decided_by_its_fact = each_copy_is_decided_by_its_new_facts duplicated 2 second_is_untouched

pub first_cell_of_second : first_disallowed (copy_now duplicated 2) (net_change_of 2 duplicated) ≡ Some (r1, of_concept (codes "ex:Name"))
first_cell_of_second = refl

pub least_cell_of_the_copy : least_disallowed_of (copy_now duplicated 2) ≡ Some (r1, of_concept (codes "ex:Name"))
least_cell_of_the_copy = sym second_is_decided_by_its_fact.least

pub second_is_refused : refusal_of (copy_now duplicated 2) ≡ Some (Disallowed r1 class.Complete (codes "a" ∷ codes "b" ∷ []))
second_is_refused = second_is_decided_by_its_fact.refusal

-- ---- a change that makes two cells of one report and one of another disallowed: the least is not that of its first fact

abbrev two_reports : Repository
two_reports =
    with_report (with_report nothing (codes "r2") (holding Never ((codes "a", fact_of (codes "ex:A") (codes "x")) ∷ [])))
    r1 (holding Never ((codes "a", fact_of (codes "ex:B") (codes "x")) ∷ (codes "c", fact_of (codes "ex:A") (codes "x")) ∷ []))

pub two_reports_obey : repository_obeys two_reports ≡ true
two_reports_obey = refl

-- it also changes a report that is not there
abbrev three_additions : Change
three_additions =
    insert (insert (insert empty (codes "r2") (putting (insert empty (codes "b") (Some (fact_of (codes "ex:A") (codes "x"))))))
    (codes "r0") (putting (insert empty (codes "b") (Some (fact_of (codes "ex:A") (codes "x"))))))
    r1 (putting (insert (insert empty (codes "b") (Some (fact_of (codes "ex:B") (codes "x")))) (codes "d") (Some (fact_of (codes "ex:A") (codes "x")))))

pub least_of_three : first_disallowed (laid_over three_additions two_reports) three_additions ≡ Some (r1, of_concept (codes "ex:A"))
least_of_three = refl

pub least_of_all : least_disallowed_of (laid_over three_additions two_reports) ≡ Some (r1, of_concept (codes "ex:A"))
least_of_all = sym (each_change_is_decided_by_its_new_facts two_reports three_additions two_reports_obey).least

pub least_is_told : refusal_of (laid_over three_additions two_reports) ≡ Some (Disallowed r1 class.Complete (codes "c" ∷ codes "d" ∷ []))
least_is_told = (each_change_is_decided_by_its_new_facts two_reports three_additions two_reports_obey).refusal

pub each_of_three_is_held : PutsFact three_additions (codes "r2") (of_concept (codes "ex:A"))
each_of_three_is_held =
    each_disallowed_cell_holds_a_new_fact two_reports three_additions (codes "r2") (of_concept (codes "ex:A")) two_reports_obey refl
    (record { report = holding Never ((codes "a", fact_of (codes "ex:A") (codes "x")) ∷ (codes "b", fact_of (codes "ex:A") (codes "x")) ∷ []); there = refl; disallowed = refl })

-- a removal alone disallows nothing
abbrev removal : Change
removal = insert empty r1 (putting (insert empty (codes "a") None))

pub removal_is_not_refused : refusal_of (laid_over removal two_reports) ≡ None
removal_is_not_refused = (each_change_is_decided_by_its_new_facts two_reports removal two_reports_obey).refusal

-- ---- one session declares a value twice and removes a fact; a second adds a fact and commits first

abbrev declaring_before : List Line
declaring_before =
    load r1 (holding All ((codes "a", fact (codes "x")) ∷ (codes "b", fact (codes "x")) ∷ [])) ∷ amend ∷ amend
    ∷ declares 1 r1 Complete ∷ removes 1 r1 (codes "a") ∷ declares 1 r1 Never
    ∷ adds 2 r1 (codes "c") (raw_of (codes "ex:Other") (codes "x")) ∷ commits 2 ∷ []

abbrev declaring : History
declaring = played declaring_before

pub declaring_is_untouched : IsUntouchedAmendment declaring 1
declaring_is_untouched = record { lawful = played_is_lawful declaring_before; live = refl; untouched = refl }

-- the last value counts
pub net_change_of_declaration : net_change_of 1 declaring ≡ insert empty r1 (record { declared = Some Never; facts = insert empty (codes "a") None })
net_change_of_declaration = refl

pub declaration_makes_the_copy : laid_over (net_change_of 1 declaring) (repository declaring) ≡ copy_now declaring 1
declaration_makes_the_copy = each_net_change_makes_the_copy declaring 1 declaring_is_untouched

pub copy_declares : option_map (λ (r : Report). r.allowed) (report_at (copy_now declaring 1) r1) ≡ Some Never
copy_declares = refl

-- ---- a report that is to declare a value is looked at whole: none of the facts in its disallowed cell is new

abbrev declaration : Change
declaration = insert empty r1 (record { declared = Some Never; facts = empty })

abbrev twins : Repository
twins = with_report nothing r1 (holding All ((codes "a", fact (codes "x")) ∷ (codes "b", fact (codes "x")) ∷ []))

pub cell_of_declaration : first_disallowed (laid_over declaration twins) declaration ≡ Some (r1, of_concept (codes "ex:Name"))
cell_of_declaration = refl

pub declaration_is_refused : refusal_of (laid_over declaration twins) ≡ Some (Disallowed r1 class.Complete (codes "a" ∷ codes "b" ∷ []))
declaration_is_refused = (each_change_is_decided_by_its_new_facts twins declaration refl).refusal

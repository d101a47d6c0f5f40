-- Declared values: read, changed, and what a commit is refused for where one was.
use Rattle.std.proofs.Common.{◌≡◌, refl, List, [], ◌∷◌, Some, option_map}
use Rattle.std.specs.Prelude.{codes}
use Rattle.filing_model.specs.Oim.Reports.{Report}
use Rattle.filing_model.specs.Sessions.Repository.{report_at}
use Rattle.filing_model.specs.Sessions.Replies.{Staged, Declared, Loaded, Opened, Committed, Conflict}
use Rattle.filing_model.specs.Sessions.Things as thing
use Rattle.filing_model.specs.Histories.History.{repository}
use Rattle.filing_model.specs.Histories.Lawful.{IsLawful}
use Rattle.filing_model.proofs.Histories.NextReply.{not_lawful}
use Rattle.filing_model.proofs.OnLiterals.{filing_on_literals}
use Rattle.filing_model.proofs.Examples.Setting.{holding, fact, Line, amend, review, removes, asks_value, declares, commits, played, told, with_last_reply}
use Rattle.filing_model.proofs.Examples.Histories.{r1, blank, loads}
use Rattle.filing_model.specs.declared.duplicates.Allowed.TheVariants as allowed

-- a value that was read is declared anew
abbrev pub declared_value_lines : List Line
declared_value_lines =
    loads blank ∷ amend ∷ amend ∷ asks_value 1 r1 ∷ declares 2 r1 allowed.Complete ∷ commits 2 ∷ commits 1 ∷ []

pub declared_value : told declared_value_lines ≡
    Loaded 1 ∷ Opened ∷ Opened ∷ Declared allowed.All ∷ Staged ∷ Committed 2 ∷ Conflict 2 (thing.Policy r1) ∷ []
declared_value = refl

pub declared_value_is_read : ¬ IsLawful (with_last_reply (Committed 3) (played declared_value_lines))
declared_value_is_read = not_lawful (with_last_reply (Committed 3) (played declared_value_lines))
    (λ same. let told_otherwise : Some (Conflict 2 (thing.Policy r1)) ≡ Some (Committed 3) = same in cc)

-- the last value counts
abbrev pub last_value_lines : List Line
last_value_lines =
    loads blank ∷ amend ∷ declares 1 r1 allowed.Never ∷ declares 1 r1 allowed.Complete ∷ commits 1 ∷ review ∷
    asks_value 2 r1 ∷ []

abbrev pub twins : Report
twins = record (holding allowed.All ((codes "a", fact (codes "x")) ∷ (codes "b", fact (codes "x")) ∷ [])) {
  info = codes "{\"documentType\":\"https://xbrl.org/2021/xbrl-json\"}";
}

-- without one of them it obeys, and its info tells the value
abbrev mended_report_lines : List Line
mended_report_lines =
    loads twins ∷ amend ∷ declares 1 r1 allowed.Never ∷ removes 1 r1 (codes "b") ∷ commits 1 ∷ review ∷
    asks_value 2 r1 ∷ []

pub mended_info : option_map (λ (r : Report). r.info) (report_at (repository (played mended_report_lines)) r1)
    ≡ Some (codes "{\"documentType\":\"https://xbrl.org/2021/xbrl-json\",\"features\":{\"xbrl:allowedDuplicates\":\"none\"}}")
unfolding filing_on_literals
mended_info = refl

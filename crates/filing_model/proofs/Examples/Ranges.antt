-- Ranges: what a page read begins after the identifier that it goes on after, and ends at the first that its limit cut.
use Rattle.std.proofs.Common.{◌≡◌, refl, List, [], ◌∷◌, Some, None}
use Rattle.std.specs.Prelude.{codes, true}
use Rattle.filing_model.specs.Oim.Reports.{Report}
use Rattle.filing_model.specs.Sessions.Calls.{limit_of}
use Rattle.filing_model.specs.Sessions.Replies.{Page, Staged, Loaded, Opened, Committed}
use Rattle.filing_model.proofs.Examples.Setting.{holding, fact, dated, Line, amend, two, pages, removes, commits, told}
use Rattle.filing_model.proofs.Examples.Histories.{r1, loads}
use Rattle.filing_model.specs.declared.duplicates.Allowed.TheVariants.{All}

-- ---- limits

pub greatest_limit : limit_of 1000 ≡ Some (record { number = 1000; within = tt })
greatest_limit = refl

pub no_limit_above : limit_of 1001 ≡ None
no_limit_above = refl

-- ---- ends

abbrev pub four : Report
four = holding All ((codes "a", fact (codes "x")) ∷ (codes "b", fact (codes "x")) ∷ (codes "c", fact (codes "x")) ∷ (codes "d", fact (codes "x")) ∷ [])

-- what is removed behind the first identifier that the limit cut was not read
abbrev pub behind_the_cut_lines : List Line
behind_the_cut_lines =
    loads four ∷ amend ∷ amend ∷ pages 1 r1 None two ∷ removes 2 r1 (codes "d") ∷ commits 2 ∷ commits 1 ∷ []

pub behind_the_cut : told behind_the_cut_lines ≡
    Loaded 1 ∷ Opened ∷ Opened ∷ Page (codes "a" ∷ codes "b" ∷ []) true ∷ Staged ∷ Committed 2 ∷ Committed 3 ∷ []
behind_the_cut = refl

-- ---- periods

abbrev pub with_periods : Report
with_periods = holding All ((codes "a", fact (codes "x")) ∷ (codes "b", dated (codes "x") (codes "2024")) ∷ [])

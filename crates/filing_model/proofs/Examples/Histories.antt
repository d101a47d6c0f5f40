-- Histories of one and of several sessions: the replies that the definitions give to lists of steps,
-- and replies that are not lawful. The sheets of `conformance` have more.
use Rattle.std.proofs.Common.{◌≡◌, refl, List, [], ◌∷◌, ◌++◌, Some, None}
use Rattle.std.specs.Prelude.{codes, false}
use Rattle.filing_model.specs.Common.Text.{Text}
use Rattle.filing_model.specs.Common.TextMap.{empty}
use Rattle.filing_model.specs.Oim.Reports.{Report}
use Rattle.filing_model.specs.Sessions.Replies.{Absent, Found, Cell, Page, Staged, Loaded, Disallowed, Opened, Closed, Committed, Conflict}
use Rattle.filing_model.specs.Sessions.Calls.{Without}
use Rattle.filing_model.specs.Sessions.Things as thing
use Rattle.filing_model.specs.Histories.Lawful.{IsLawful}
use Rattle.filing_model.proofs.Histories.NextReply.{not_lawful}
use Rattle.filing_model.proofs.Examples.Setting.{report_with, holding, of_concept, raw_of, raw, fact, Line, load}
use Rattle.filing_model.proofs.Examples.Setting.{amend, review, gets, looks, query, ten, pages, adds}
use Rattle.filing_model.proofs.Examples.Setting.{removes, commits, closes, played, told, with_last_reply}
use Rattle.filing_model.specs.declared.duplicates.Allowed.TheVariants.{Never, All}
use Rattle.filing_model.specs.declared.duplicates.Class.TheVariants.{Empty, Complete}

abbrev pub r1 : Text
r1 = codes "r1"

abbrev pub blank : Report
blank = report_with All empty

abbrev pub loads : Report → Line
loads r = load r1 r

-- one session adds a fact, and the next reads it
abbrev pub stored_run_lines : List Line
stored_run_lines =
    loads blank ∷ amend ∷ gets 1 r1 (codes "f1") ∷ adds 1 r1 (codes "f1") (raw (codes "Acme")) ∷
    gets 1 r1 (codes "f1") ∷ commits 1 ∷ amend ∷ gets 2 r1 (codes "f1") ∷ closes 2 ∷ []

pub stored_run : told stored_run_lines ≡
    Loaded 1 ∷ Opened ∷ Absent ∷ Staged ∷ Found (fact (codes "Acme")) ∷ Committed 2 ∷ Opened ∷
    Found (fact (codes "Acme")) ∷ Closed ∷ []
stored_run = refl

pub close_is_closed : ¬ IsLawful (with_last_reply (Staged) (played stored_run_lines))
close_is_closed = not_lawful (with_last_reply (Staged) (played stored_run_lines))
    (λ same. let told_otherwise : Some (Closed)
    ≡ Some (Staged) = same in cc)

-- two sessions each read the cell into which the other writes
abbrev pub write_skew_lines : List Line
write_skew_lines =
    loads blank ∷ amend ∷ amend ∷ looks 1 r1 (codes "ex:A") ∷ looks 2 r1 (codes "ex:B") ∷
    adds 1 r1 (codes "b") (raw_of (codes "ex:B") (codes "1")) ∷
    adds 2 r1 (codes "a") (raw_of (codes "ex:A") (codes "1")) ∷ commits 1 ∷ commits 2 ∷ []

pub write_skew : told write_skew_lines ≡
    Loaded 1 ∷ Opened ∷ Opened ∷ Cell Empty [] ∷ Cell Empty [] ∷ Staged ∷ Staged ∷ Committed 2 ∷
    Conflict 2 (thing.Cell r1 (of_concept (codes "ex:B"))) ∷ []
write_skew = refl

pub write_skew_is_refused : ¬ IsLawful (with_last_reply (Committed 3) (played write_skew_lines))
write_skew_is_refused = not_lawful (with_last_reply (Committed 3) (played write_skew_lines))
    (λ same. let told_otherwise : Some (Conflict 2 (thing.Cell r1 (of_concept (codes "ex:B"))))
    ≡ Some (Committed 3) = same in cc)

-- a page that was empty gets a fact
abbrev phantom_lines : List Line
phantom_lines =
    loads blank ∷ amend ∷ amend ∷ pages 1 r1 None ten ∷ adds 2 r1 (codes "f1") (raw (codes "x")) ∷ commits 2 ∷
    adds 1 r1 (codes "g1") (raw_of (codes "ex:Other") (codes "1")) ∷ commits 1 ∷ []

pub phantom : told phantom_lines ≡
    Loaded 1 ∷ Opened ∷ Opened ∷ Page [] false ∷ Staged ∷ Committed 2 ∷ Staged ∷
    Conflict 2 (thing.Range r1 (query Without None) None) ∷ []
phantom = refl

pub phantom_is_refused : ¬ IsLawful (with_last_reply (Committed 3) (played phantom_lines))
phantom_is_refused = not_lawful (with_last_reply (Committed 3) (played phantom_lines))
    (λ same. let told_otherwise : Some (Conflict 2 (thing.Range r1 (query Without None) None))
    ≡ Some (Committed 3) = same in cc)

-- a review reads the version of its opening, and a later one the amended version
abbrev pub snapshot_lines : List Line
snapshot_lines =
    loads (holding All ((codes "f1", fact (codes "old")) ∷ [])) ∷ review ∷ amend ∷ removes 2 r1 (codes "f1") ∷
    adds 2 r1 (codes "f1") (raw (codes "new")) ∷ commits 2 ∷ gets 1 r1 (codes "f1") ∷ review ∷
    gets 3 r1 (codes "f1") ∷ commits 1 ∷ []

pub snapshot : told snapshot_lines ≡
    Loaded 1 ∷ Opened ∷ Opened ∷ Staged ∷ Staged ∷ Committed 2 ∷ Found (fact (codes "old")) ∷ Opened ∷
    Found (fact (codes "new")) ∷ Closed ∷ []
snapshot = refl

-- the last read of a review that opened before the commit
abbrev pub newest_version_lines : List Line
newest_version_lines =
    loads (holding All ((codes "f1", fact (codes "old")) ∷ [])) ∷ review ∷ amend ∷ removes 2 r1 (codes "f1") ∷
    adds 2 r1 (codes "f1") (raw (codes "new")) ∷ commits 2 ∷ gets 1 r1 (codes "f1") ∷ []

-- two sessions add duplicates where none are allowed, and the second is told at its commit: the steps before that, and all
abbrev pub no_duplicates_before : List Line
no_duplicates_before =
    loads (report_with Never empty) ∷ amend ∷ amend ∷ adds 1 r1 (codes "a") (raw (codes "x")) ∷
    adds 2 r1 (codes "b") (raw (codes "x")) ∷ commits 1 ∷ []

abbrev pub no_duplicates_lines : List Line
no_duplicates_lines = no_duplicates_before ++ commits 2 ∷ []

pub no_duplicates : told no_duplicates_lines ≡
    Loaded 1 ∷ Opened ∷ Opened ∷ Staged ∷ Staged ∷ Committed 2 ∷ Disallowed r1 Complete (codes "a" ∷ codes "b" ∷
    []) ∷ []
no_duplicates = refl

-- the earliest thing that was read is told, with the number of its last touch
abbrev pub earliest_thing_lines : List Line
earliest_thing_lines =
    loads (holding All ((codes "f1", fact (codes "x")) ∷ (codes "f2", fact (codes "x")) ∷ [])) ∷ amend ∷
    gets 1 r1 (codes "f1") ∷ gets 1 r1 (codes "f2") ∷ amend ∷ removes 2 r1 (codes "f2") ∷ commits 2 ∷ amend ∷
    removes 3 r1 (codes "f1") ∷ commits 3 ∷ amend ∷ adds 4 r1 (codes "f1") (raw (codes "y")) ∷ commits 4 ∷
    commits 1 ∷ []

-- what is added and removed again touches nothing: the steps before the reader's commit, and all
abbrev pub no_net_change_before : List Line
no_net_change_before =
    loads blank ∷ amend ∷ amend ∷ gets 1 r1 (codes "g") ∷ adds 2 r1 (codes "g") (raw (codes "x")) ∷
    removes 2 r1 (codes "g") ∷ commits 2 ∷ []

abbrev pub no_net_change_lines : List Line
no_net_change_lines = no_net_change_before ++ commits 1 ∷ []

-- a refused and a closed session leave nothing behind, and do not count
abbrev pub refused_leaves_nothing_lines : List Line
refused_leaves_nothing_lines =
    loads blank ∷ amend ∷ amend ∷ adds 1 r1 (codes "a") (raw (codes "x")) ∷ commits 1 ∷
    adds 2 r1 (codes "a") (raw (codes "y")) ∷ commits 2 ∷ amend ∷ adds 3 r1 (codes "c") (raw (codes "z")) ∷
    closes 3 ∷ amend ∷ gets 4 r1 (codes "a") ∷ gets 4 r1 (codes "c") ∷ commits 4 ∷ []

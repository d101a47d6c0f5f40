-- Stamps: what a load and a commit stamp, and what keeps the stamp that it had.
use Rattle.std.proofs.Common.{◌≡◌, refl, ℕ, List, [], ◌∷◌, Some, None}
use Rattle.std.specs.Prelude.{codes, map}
use Rattle.filing_model.specs.Common.TextMap.{empty}
use Rattle.filing_model.specs.Sessions.Repository.{fact_at}
use Rattle.filing_model.specs.Sessions.Changes.{Change, with_change, with_declared}
use Rattle.filing_model.specs.Sessions.Calls.{Any, Without, Exactly}
use Rattle.filing_model.specs.Sessions.Things.{Thing, Report, Id, Cell, Range, Policy}
use Rattle.filing_model.specs.Histories.Stamps.{Version, first_version, version_after, version_with}
use Rattle.filing_model.proofs.Examples.Setting.{holding, fact, fact_of, of_concept, query}
use Rattle.filing_model.proofs.Examples.Histories.{r1}
use Rattle.filing_model.specs.declared.duplicates.Allowed.TheVariants.{All, Complete}

-- a report with two facts of one concept
abbrev loaded : Version
loaded = version_with r1 (holding All ((codes "a", fact (codes "x")) ∷ (codes "b", fact (codes "x")) ∷ [])) first_version

-- the first goes, one of another concept comes, and one goes that is not there
abbrev amending : Change
amending =
    with_change (with_change (with_change empty r1 (codes "a") None) r1 (codes "c") (Some (fact_of (codes "ex:Other") (codes "x"))))
    r1 (codes "zz") None

abbrev amended : Version
amended = version_after amending loaded

-- a value is declared, and nothing else is changed
abbrev declaring : Version
declaring = version_after (with_declared empty r1 Complete) amended

abbrev stamps : Version → List Thing → List ℕ
stamps version things = map (λ thing. version.stamp thing) things

-- a load stamps its name, no other one and no identifier
pub a_load_stamps_its_name : stamps loaded (Report r1 ∷ Report (codes "r2") ∷ Id r1 (codes "a") ∷ []) ≡ 1 ∷ 0 ∷ 0 ∷ []
a_load_stamps_its_name = refl

pub it_counts : amended.repository.count ≡ 2
it_counts = refl

pub it_is_gone : fact_at amended.repository r1 (codes "a") ≡ None
it_is_gone = refl

-- a commit stamps identifiers that went and came, the cells of the old and the new fact, and the ranges over them
pub changed_things_are_stamped : stamps amended
    (Id r1 (codes "a") ∷ Id r1 (codes "c") ∷ Cell r1 (of_concept (codes "ex:Name")) ∷ Cell r1 (of_concept (codes "ex:Other"))
    ∷ Range r1 (query Without None) None ∷ Range r1 (query Any None) (Some (codes "a")) ∷ [])
    ≡ 2 ∷ 2 ∷ 2 ∷ 2 ∷ 2 ∷ 2 ∷ []
changed_things_are_stamped = refl

-- and no identifier that stays or that was not there, no other cell, no range of another period or behind it, and no declared value
pub others_keep_their_stamps : stamps amended
    (Id r1 (codes "b") ∷ Id r1 (codes "zz") ∷ Cell r1 (of_concept (codes "ex:Third"))
    ∷ Range r1 (query (Exactly (codes "2024")) None) None ∷ Range r1 (query Without (Some (codes "a"))) None ∷ Policy r1 ∷ Report r1 ∷ [])
    ≡ 0 ∷ 0 ∷ 0 ∷ 0 ∷ 0 ∷ 0 ∷ 1 ∷ []
others_keep_their_stamps = refl

pub a_declared_value_is_stamped : stamps declaring (Policy r1 ∷ Id r1 (codes "a") ∷ []) ≡ 3 ∷ 2 ∷ []
a_declared_value_is_stamped = refl

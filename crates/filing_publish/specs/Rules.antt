-- The rule of the list of versions, that of what is published, and what their steps tell. The project's own.
use Rattle.std.specs.Prelude.{◌≡◌, ℕ, ◌==◌, true, List, [], ◌∷◌, ◌++◌, length, MatchBool}
use mathlib.Core.Option.{some}
use mathlib.Core.List.{IsPrefix}
use lib.ListN.{get_elem?}
use Rattle.logbook.specs.Pages.{Cell, Step, View, Book, Named}
use Rattle.filing_model.specs.Sessions.Repository.{Repository}
use Rattle.filing_model.specs.Histories.Versions.{IsChain}
use Rattle.filing_publish.specs.Lists.{Listed}

-- the first word is the length of the list, which is a chain. A book has two words, of which this one leaves the second at 0
pub record IsKept (cells : List Cell) (log : List Repository) : Type 0 where
  pub words : cells ≡ (length log, true) ∷ (0, true) ∷ []
  pub chain : IsChain log

abbrev pub head_of : Book → Named
head_of b = record { tracked = true; key = 0; book = b }

-- where the number found is the one expected, the version was added to all that had been seen
abbrev pub Adds : Step Repository → View Repository ℕ → ℕ → View Repository ℕ → Type 0
Adds s v found w = MatchBool (found == s.old) (w.0 ≡ v.0 ++ s.ask ∷ []) (Unit {0})

-- ---- what is published

-- the edition is of this book, and each list that was seen begins its list
pub record IsPublished (book : Book) (edition : Listed) (seen : List (List Repository)) : Type 0 where
  pub of_book : edition.book ≡ book
  pub begun : (seat : ℕ) (versions : List Repository) → get_elem? seen seat ≡ some versions
      → IsPrefix versions edition.versions

-- what is seen afterwards is the list of the edition that is then published, which begins with what was seen before
pub record Sees (book : Book) (before : List Repository) (old new : Listed) (after : List Repository) : Type 0 where
  pub of_book : new.book ≡ book
  pub seen : after ≡ new.versions
  pub goes_on : IsPrefix before after

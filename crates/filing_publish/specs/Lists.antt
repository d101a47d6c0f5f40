-- Lists of versions, oldest first. The project's own.
use Rattle.std.specs.Prelude.{◌≡◌, ℕ, ◌⊎◌, List, [], ◌∷◌, ◌++◌}
use mathlib.Core.List.{IsPrefix}
use Rattle.logbook.specs.Pages.{Book}
use Rattle.filing_model.specs.Sessions.Repository.{Repository}
use Rattle.filing_model.specs.Histories.Versions.{IsChain}

-- the version is the last of the list
abbrev pub EndsWith : List Repository → Repository → Type 0
EndsWith versions last = (before : List Repository) × (versions ≡ before ++ last ∷ [])

-- the number is the count of the last version of the list
pub record IsLastCount (versions : List Repository) (number : ℕ) : Type 0 where
  pub last : Repository
  pub newest : EndsWith versions last
  pub number_is : number ≡ last.count

-- of two lists one begins the other, and this is the longer
pub record IsLonger (one two longer : List Repository) : Type 0 where
  pub either_is : (longer ≡ one) ⊎ (longer ≡ two)
  pub one_begins : IsPrefix one longer
  pub two_begins : IsPrefix two longer

-- what contracts see of an edition: the book that it is of, and its list
pub record Listed : Type 0 where
  pub book : Book
  pub versions : List Repository

-- the list is a chain of the book, and ends with this version
pub record IsEdition (listed : Listed) (last : Repository) : Type 0 where
  pub chain : IsChain listed.versions
  pub newest : EndsWith listed.versions last

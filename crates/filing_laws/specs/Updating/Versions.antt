-- Of the versions that a history makes.
use Rattle.std.specs.Prelude.{◌≡◌, true, All}
use Rattle.filing_model.specs.Sessions.Sessions.{repository_obeys}
use Rattle.filing_model.specs.Histories.History.{History}
use Rattle.filing_model.specs.Histories.Lawful.{IsLawful}
use Rattle.filing_model.specs.Histories.Versions.{versions, IsChain}

-- each version of a lawful history obeys its declared allowed duplicates
abbrev pub EachVersionObeys : Type 0
EachVersionObeys = (h : History) → IsLawful h → All (λ c. repository_obeys c ≡ true) (versions h)

-- the versions of a lawful history are a chain
abbrev pub VersionsAreAChain : Type 0
VersionsAreAChain = (h : History) → IsLawful h → IsChain (versions h)

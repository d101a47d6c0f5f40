-- What the fact changes of a change do to the indexes of the facts. The project's own.
use Rattle.std.specs.Prelude.{◌≡◌, ℕ, Bool, true, false, cond, ◌==◌, List, [], ◌∷◌, ◌++◌, Option, Some, None, filter}
use Rattle.std.specs.List.{flat_map}
use Rattle.sorted_pages.specs.declared.apply.Edit.{Edit}
use Rattle.sorted_pages.specs.declared.apply.Edit.TheVariants.{Put, Remove}
use Rattle.filing_model.specs.Common.Text.{Text}
use Rattle.filing_model.specs.Common.TextMap.{TextMap}
use Rattle.filing_model.specs.Oim.Facts.{Fact}
use Rattle.filing_index.specs.Index.{IndexEntry, IsIndex}
use Rattle.filing_facts.specs.FactChanges.{FactChange, fact_changes_of, passes, with_changes}

-- the fact changes of a change, but where no fact stands before or after
abbrev pub fact_changes_in : List (Text × Option Fact) → TextMap Fact → List FactChange
fact_changes_in changes facts = filter (passes (λ fact. true)) (fact_changes_of changes facts)

-- these are the fact changes of some change of the facts
abbrev pub AreFactChanges : TextMap Fact → List FactChange → Type 0
AreFactChanges facts fact_changes = (changes : TextMap (Option Fact))
    × (fact_changes ≡ fact_changes_in changes.entries facts)

-- ---- in the order of identifiers

-- the new fact is put, in place of the old one, if any; where there is no new one, the old one goes
abbrev pub id_change : Text → Option Fact → Option Fact → List (Edit (Text × Fact))
id_change id old (Some new) = Put (id, new) ∷ []
id_change id (Some old) None = Remove (id, old) ∷ []
id_change id None None = []

abbrev pub id_changes : List FactChange → List (Edit (Text × Fact))
id_changes fact_changes = flat_map (λ m. id_change m.id m.old m.new) fact_changes

-- ---- in an index by hashes

abbrev pub hashed : (Fact → ℕ) → Text × Fact → IndexEntry
hashed hash_of e = ((hash_of e.1, e.0), e.1)

-- whether an entry is there, and has this hash
abbrev pub has_hash : ℕ → Option IndexEntry → Bool
has_hash hash None = false
has_hash hash (Some e) = hash == e.0.0

-- whether a fact keeps its hash
abbrev pub keeps_hash : (Fact → ℕ) → Option Fact → Option Fact → Bool
keeps_hash hash_of (Some old) (Some new) = hash_of old == hash_of new
keeps_hash hash_of old new = false

-- the old fact goes, unless the new one takes its place
abbrev pub removed : (Fact → ℕ) → Text → Option Fact → Option Fact → List (Edit IndexEntry)
removed hash_of id None new = []
removed hash_of id (Some old) new = cond (keeps_hash hash_of (Some old) new) [] (Remove (hashed hash_of (id, old)) ∷ [])

abbrev pub added : (Fact → ℕ) → Text → Option Fact → List (Edit IndexEntry)
added hash_of id None = []
added hash_of id (Some new) = Put (hashed hash_of (id, new)) ∷ []

abbrev pub hashed_change : (Fact → ℕ) → FactChange → List (Edit IndexEntry)
hashed_change hash_of m = removed hash_of m.id m.old m.new ++ added hash_of m.id m.new

abbrev pub hashed_changes : (Fact → ℕ) → List FactChange → List (Edit IndexEntry)
hashed_changes hash_of fact_changes = flat_map (hashed_change hash_of) fact_changes

-- an index of the facts before any change with these fact changes becomes one of those after it
abbrev pub IsIndexAfter : (Fact → ℕ) → List FactChange → List IndexEntry → List IndexEntry → Type 0
IsIndexAfter hash_of fact_changes before after =
    (changes : TextMap (Option Fact)) (facts : TextMap Fact) → fact_changes ≡ fact_changes_in changes.entries facts
    → IsIndex hash_of facts before → IsIndex hash_of (with_changes changes.entries facts) after

-- What a look-up by a hash finds. The project's own.
use Rattle.std.specs.Prelude.{◌≡◌, ℕ, Bool, true, cond, List, map, Option}
use Rattle.std.specs.List.{filter}
use Rattle.std.specs.Ordering.{nat_cmp, ordering_then}
use Rattle.std.specs.declared.cmp.Ordering.{Ordering}
use Rattle.std.specs.declared.cmp.Ordering.TheVariants.{Less, Equal}
use Rattle.filing_model.specs.Common.Text.{Text}
use Rattle.filing_model.specs.Common.TextMap.{TextMap}
use Rattle.filing_model.specs.Oim.Facts.{Fact}
use Rattle.filing_model.specs.Sessions.Queries.{is_after}
use Rattle.filing_index.specs.Index.{IndexEntry}

-- the entries without their hashes
abbrev pub unhashed : List IndexEntry → List (Text × Fact)
unhashed entries = map (λ e. (e.0.1, e.1)) entries

-- of entries the facts that pass a test
abbrev pub passing : (Fact → Bool) → List IndexEntry → List (Text × Fact)
passing test entries = unhashed (filter (λ e. test e.1) entries)

-- the facts of a report that pass a test, whose identifiers are greater than one where one is given
abbrev pub found : (Fact → Bool) → Option Text → TextMap Fact → List (Text × Fact)
found test after facts = filter (λ e. is_after after e.0) (filter (λ e. test e.1) facts.entries)

-- each fact that passes has this hash
abbrev pub HaveHash : (Fact → ℕ) → ℕ → (Fact → Bool) → Type 0
HaveHash hash_of hash test = (fact : Fact) → test fact ≡ true → hash_of fact ≡ hash

-- ---- the range of a hash

-- an identifier that is not greater stands before the range
abbrev pub side_after : Option Text → Text → Ordering
side_after after id = cond (is_after after id) Equal Less

-- the entries of a hash whose identifiers are greater than one where one is given
abbrev pub side_of : ℕ → Option Text → IndexEntry → Ordering
side_of hash after e = ordering_then (nat_cmp e.0.0 hash) (side_after after e.0.1)

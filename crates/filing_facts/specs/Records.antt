-- The records of an identifier before a change and after it.
use Rattle.std.specs.Prelude.{◌≡◌, [], ⊤, Option, Some, None}
use Rattle.filing_model.specs.Common.Text.{Text}
use Rattle.filing_model.specs.Oim.Facts.{Fact}

-- the identifier of two records
abbrev pub id_of : Option (Text × Fact) → Option (Text × Fact) → Text
id_of (Some old) new = old.0
id_of None (Some new) = new.0
id_of None None = []

-- the two have one identifier, where both are there
abbrev pub AreOfOneId : Option (Text × Fact) → Option (Text × Fact) → Type 0
AreOfOneId (Some old) (Some new) = new.0 ≡ old.0
AreOfOneId old new = ⊤

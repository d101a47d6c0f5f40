-- What a step is answered. The project's own.
use Rattle.std.specs.Prelude.{ℕ, Bool, List}
use Rattle.filing_model.specs.Common.Text.{Text}
use Rattle.filing_model.specs.Oim.Facts.{Fact}
use Rattle.filing_model.specs.Sessions.Things.{Thing}
use Rattle.filing_model.specs.declared.duplicates.Allowed.{Allowed}
use Rattle.filing_model.specs.declared.duplicates.Class.{Class}
use Rattle.filing_model.specs.declared.faults.FactFault.{FactFault}

-- a disallowed cell is told by its report, its class and its identifiers; a conflict by the number of the load or commit that last touched the thing
pub data Reply : Type 0 where
  NoReport : Reply
  Absent : Reply
  Found : Fact → Reply
  Cell : Class → List Text → Reply
  Page : List Text → Bool → Reply
  ReadOnly : Reply
  Taken : Reply
  BadFact : FactFault → Reply
  Staged : Reply
  Declared : Allowed → Reply
  Loaded : ℕ → Reply
  NameTaken : Reply
  Disallowed : Text → Class → List Text → Reply
  Opened : Reply
  Closed : Reply
  Committed : ℕ → Reply
  Conflict : ℕ → Thing → Reply

-- Changes of the facts of one report, and which parts of it they touch. The project's own.
use Rattle.std.specs.Prelude.{ℕ, Bool, true, false, cond, ◌&&◌, ◌||◌, List, [], ◌∷◌, map, Option, Some, None}
use Rattle.std.specs.List.{list_any}
use Rattle.std.specs.Option.{option_map_or}
use Rattle.filing_model.specs.Common.Text.{Text, text_eq}
use Rattle.filing_model.specs.Common.TextMap.{TextMap, get, insert, remove}
use Rattle.filing_model.specs.Oim.Dimensions.{Dims}
use Rattle.filing_model.specs.Oim.Facts.{Fact}
use Rattle.filing_model.specs.Oim.Duplicates.{has_dims}
use Rattle.filing_model.specs.Sessions.Queries.{answers_query}
use Rattle.filing_model.specs.Sessions.Calls.{PageQuery}
use Rattle.filing_model.specs.Histories.Touches.{is_within}

-- the facts with a fact put, or removed, at each of these identifiers
abbrev pub with_changes : List (Text × Option Fact) → TextMap Fact → TextMap Fact
with_changes [] facts = facts
with_changes ((id, Some fact) ∷ es) facts = insert (with_changes es facts) id fact
with_changes ((id, None) ∷ es) facts = remove (with_changes es facts) id

-- the fact of an identifier before a change and after it
pub record FactChange : Type 0 where
  pub id : Text
  pub old : Option Fact
  pub new : Option Fact

-- the fact changes of a change
abbrev pub fact_changes_of : List (Text × Option Fact) → TextMap Fact → List FactChange
fact_changes_of changes facts = map (λ e. record { id = e.0; old = get facts e.0; new = e.1 }) changes

-- what of a report can be touched: an identifier, a cell, and a page query, up to an identifier or without end
pub data Part : Type 0 where
  Id : Text → Part
  Cell : Dims → Part
  Range : PageQuery → Option Text → Part

-- whether a fact passes, before or after
abbrev pub passes : (Fact → Bool) → FactChange → Bool
passes test change = option_map_or test change.old false || option_map_or test change.new false

-- whether a fact change touches a part: its identifier if a fact is there, and each cell and range in which one lies
abbrev pub is_touched_by : Part → FactChange → Bool
is_touched_by (Id id) change = text_eq id change.id && passes (λ fact. true) change
is_touched_by (Cell dims) change = passes (has_dims dims) change
is_touched_by (Range query upto) change =
    is_within query.after upto change.id && passes (answers_query query.concept query.period) change

abbrev pub is_touched : List FactChange → Part → Bool
is_touched fact_changes part = list_any (is_touched_by part) fact_changes

-- the stamps of the parts of a report after fact changes of this number
abbrev pub stamped_by : List FactChange → ℕ → (Part → ℕ) → Part → ℕ
stamped_by fact_changes number stamp part = cond (is_touched fact_changes part) number (stamp part)

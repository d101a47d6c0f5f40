-- The facts of a report as they are taken one by one.
use Rattle.std.specs.Prelude.{◌≡◌, List, ◌++◌, map, Option}
use Rattle.std.specs.Borrow.{Bor}
use Rattle.std.specs.Option.{option_to_list}
use Rattle.std.specs.declared.alloc.Global.{Global}
use Rattle.json.specs.declared.value.Value.{Value as TextValue}
use Rattle.serde_json.specs.Data.{Data}
use Rattle.filing_model.specs.Common.Text.{Text}
use Rattle.filing_model.specs.Oim.Facts.{Names}
use Rattle.oim_report.specs.Borrowed.{Place}
use Rattle.oim_report.specs.Parts.{facts_view}
use Rattle.report_inspection.specs.EachFault.{fact_faults, facts_read, member_fact, member_faults, members_of, shape_fault}
use Rattle.report_inspection.specs.Inspections.{AddsFaults}
use Rattle.report_inspection.specs.declared.facts.Found.{Found}

-- members behind references to their values
abbrev pub PlaceRef : Type 0
PlaceRef = Bor Text × Bor (TextValue Global)

abbrev pub places_behind : List PlaceRef → List (Place Global)
places_behind ps = map (λ p. (p.0, p.1.now)) ps

-- the fact of a member is taken, or it is told what is wrong with it
pub record Takes (names : Option Names) (member : Text × Data) (before after : Found) : Type 0 where
  pub facts : facts_view after.facts.items ≡ facts_view before.facts.items ++ option_to_list (member_fact names member)
  pub faults : AddsFaults (member_faults names member) before.faults.items after.faults.items

-- so each of these is
pub record TakesEach (names : Option Names) (members : List (Text × Data)) (before after : Found) : Type 0 where
  pub facts : facts_view after.facts.items ≡ facts_view before.facts.items ++ facts_read names members
  pub faults : AddsFaults (fact_faults names members) before.faults.items after.faults.items

-- so each fact of a report is, of what stands at `facts`, after what is wrong with all of them
pub record TakesFacts (names : Option Names) (facts : Option Data) (before after : Found) : Type 0 where
  pub taken : facts_view after.facts.items ≡ facts_view before.facts.items ++ facts_read names (members_of facts)
  pub faults : AddsFaults (shape_fault facts
      ++ fact_faults names (members_of facts)) before.faults.items after.faults.items

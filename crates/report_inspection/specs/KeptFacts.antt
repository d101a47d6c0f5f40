-- The members of an object as they were read, in byte order of their names, of which the last of a name stays.
use Rattle.std.specs.Prelude.{◌≡◌, IsTrue, List, [], map, Option}
use Rattle.std.specs.BTreeMap.{insert_entry}
use Rattle.json.specs.Json.{Json, Members, no_members, member}
use Rattle.json.specs.Value.{value_view}
use Rattle.serde_json.specs.Data.{Data}
use Rattle.filing_model.specs.Common.Text.{Text, text_cmp}
use Rattle.filing_model.specs.Reading.JsonText.{pairs}
use Rattle.oim_report.specs.Borrowed.{are_in_range, members_at}
use Rattle.report_inspection.specs.EachFault.{members_of}
use Rattle.report_inspection.specs.Found.{PlaceRef, places_behind}

-- these entries, with each of these members put into its place
abbrev pub kept_after : List (Text × Json) → Members → List (Text × Json)
kept_after entries no_members = entries
kept_after entries (member name value ms) = kept_after (insert_entry text_cmp entries name value) ms

abbrev pub kept_of : Members → List (Text × Json)
kept_of ms = kept_after [] ms

-- members behind references to their values
abbrev pub members_seen : List PlaceRef → List (Text × Json)
members_seen places = map (λ p. (p.0.now, value_view p.1.now)) places

-- these are the members of what stands at `facts`, as a reading keeps them and as they were read;
-- none where that is no object
pub record AreKept (facts : Option Data) (read : List (Text × Json)) (places : List PlaceRef) : Type 0 where
  pub members : members_of facts ≡ pairs (members_at (places_behind places))
  pub range : IsTrue (are_in_range (places_behind places))
  pub seen : members_seen places ≡ read

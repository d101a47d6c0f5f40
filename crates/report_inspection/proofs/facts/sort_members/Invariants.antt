use Rattle.std.proofs.Common.{◌≡◌, true, drop}
use Rattle.json.specs.Value.{members_view}
use Rattle.serde_json.specs.Data.{no_members}
use Rattle.serde_json.specs.Read.{of_members}
use Rattle.oim_report.specs.Borrowed.{are_in_range, members_at}
use Rattle.report_inspection.specs.Found.{places_behind}
use Rattle.report_inspection.specs.KeptFacts.{kept_after, kept_of, members_seen}
use Rattle.report_inspection.proofs.facts.sort_members.Given as goal

-- what was put in its place, with what is left
abbrev pub invariant-loop-member : goal.invariant-loop-member
invariant-loop-member l = record {
  members : of_members (members_view (drop l.member-index l.members.items)) (members_at (places_behind l.places.entries))
      ≡ of_members (members_view l.members.items) no_members;
  range : are_in_range (places_behind l.places.entries) ≡ true;
  read : kept_after (members_seen l.places.entries) (members_view (drop l.member-index l.members.items)) ≡ kept_of (members_view l.members.items);
}

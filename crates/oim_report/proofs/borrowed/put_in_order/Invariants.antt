use Rattle.std.proofs.Common.{◌≡◌, true}
use Rattle.json.specs.Value.{members_view}
use Rattle.serde_json.specs.Data.{no_members}
use Rattle.serde_json.specs.Read.{of_members}
use Rattle.oim_report.specs.Borrowed.{are_in_range, members_at}
use Rattle.oim_report.proofs.borrowed.put_in_order.Given as goal

-- what was put in its place, with what is left
abbrev pub invariant-loop-name : goal.invariant-loop-name
invariant-loop-name l = record {
  members : of_members (members_view l.name-iterator.rest.items) (members_at l.places.entries)
      ≡ of_members (members_view l.fn.members.items) no_members;
  range : are_in_range l.places.entries ≡ true;
}

use Rattle.std.proofs.Common.{◌∙◌, ap, sym}
use Rattle.json.specs.Value.{value_view, members_view}
use Rattle.serde_json.specs.Read.{of_members}
use Rattle.oim_report.specs.Borrowed.{are_in_range, members_at}
use Rattle.oim_report.proofs.OrderedMembers.{in_range-insert, member_turn, members_at-insert}
use Rattle.oim_report.proofs.borrowed.put_in_order.Goals as goal

pub loop-name-preserved : goal.loop-name-preserved
loop-name-preserved c =
    let l = c.loop-name in
    let k = c.in-Some.name in
    let v = c.in-Some.value in
    let rest = members_view c.next.new.self.rest.items in
    let turn = member_turn k.now (value_view v) rest (members_at l.places.entries) _
    (ap (λ ys. of_members (members_view ys) (members_at l.places.entries)) (sym c.in-Some.ensures.steps.0) ∙ l.invariant.members) c.requires in
    record {
      members =
          ap (of_members rest) (ap members_at c.in_ok-insert.ensures.entries ∙ members_at-insert l.places.entries k v)
          ∙ turn.1;
      range =
          ap are_in_range c.in_ok-insert.ensures.entries
          ∙ in_range-insert l.places.entries k v turn.0 l.invariant.range;
    }

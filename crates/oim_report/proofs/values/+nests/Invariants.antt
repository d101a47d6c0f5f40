use Rattle.std.proofs.Common.{◌≡◌, nat_le, drop}
use Rattle.serde_json.specs.Data.{items_depth, members_depth}
use Rattle.serde_json.specs.View.{items_view, members_view}
use Rattle.oim_report.proofs.values.+nests.Given as goal

-- all nest so deep at most exactly where those that are left do
abbrev pub invariant-items_nest_within-loop-item : goal.invariant-items_nest_within-loop-item
invariant-items_nest_within-loop-item l =
    nat_le (items_depth (items_view l.items.items)) l.most ≡ nat_le (items_depth (items_view (drop l.item-index l.items.items))) l.most

abbrev pub invariant-members_nest_within-loop-value : goal.invariant-members_nest_within-loop-value
invariant-members_nest_within-loop-value l =
    nat_le (members_depth (members_view l.members.entries)) l.most ≡ nat_le (members_depth (members_view l.value-iterator)) l.most

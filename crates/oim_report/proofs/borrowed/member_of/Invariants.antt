use Rattle.std.proofs.Common.{◌≡◌, option_map}
use Rattle.json.specs.Find.{get_member, later_or}
use Rattle.json.specs.Value.{members_view, value_view}
use Rattle.oim_report.proofs.borrowed.member_of.Given as goal

-- the last of that name among what is left, or what was found before
abbrev pub invariant-loop-key : goal.invariant-loop-key
invariant-loop-key l =
    later_or (get_member l.name (members_view l.key-iterator.rest.items)) (option_map value_view l.last)
    ≡ get_member l.name (members_view l.initial.key-iterator.rest.items)

use Rattle.std.proofs.Common.{is_some}
use Rattle.serde_json.specs.Find.{get_member}
use Rattle.serde_json.specs.View.{members_view}
use Rattle.script_reasons.specs.ToldFacts.{KeepsTo}
use Rattle.script_reasons.proofs.FoundMembers.{AreFound}
use Rattle.script_reasons.proofs.reports.gather_facts.Given as goal

-- it was told of members alone, and each that is left is one
abbrev pub invariant-loop-id : goal.invariant-loop-id
invariant-loop-id l = record {
  told : KeepsTo (λ id. is_some (get_member id (members_view l.initial.members.entries))) l.initial.gathered.reasons.items l.gathered.reasons.items;
  left : AreFound (members_view l.id-iterator) (members_view l.initial.members.entries);
}

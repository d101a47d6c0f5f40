use Rattle.std.proofs.Common.{◌≡◌, true, sym, subst, is_some, rules}
use Rattle.serde_json.specs.Find.{get_member}
use Rattle.serde_json.specs.View.{members_view}
use Rattle.filing_model.specs.Common.Text.{Text}
use Rattle.script_reasons.proofs.FoundMembers.{all_found, next_found}
use Rattle.script_reasons.proofs.reports.gather_facts.Goals as goal

pub loop-id-init : goal.loop-id-init
loop-id-init c = record { told = λ h. h; left = search (rules, all_found) }

pub loop-id-preserved : goal.loop-id-preserved
loop-id-preserved c =
    let next = next_found _ _ _ _ (members_view c.args.members.now.entries) c.in-Some.ensures.steps c.loop-id.invariant.left in
    record {
      told = λ h. c.in_ok-add.ensures (λ id. is_some (get_member id (members_view c.args.members.now.entries)))
          (subst (λ (t : Text). is_some (get_member t (members_view c.args.members.now.entries)) ≡ true) (sym c.as_str.ensures.value) next.0)
          (c.loop-id.invariant.told h);
      left = next.1;
    }

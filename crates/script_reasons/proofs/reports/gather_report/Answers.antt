use Rattle.std.proofs.Common.{◌≡◌, ◌∙◌, ap, sym, codes, Some, refl}
use Rattle.serde_json.specs.Data.{Data, object}
use Rattle.serde_json.specs.Find.{get}
use Rattle.serde_json.specs.View.{view, members_view}
use Rattle.script_reasons.specs.ToldFacts.{has_fact}
use Rattle.script_reasons.proofs.KeptFacts.{on_ok, facts_kept, object_is}
use Rattle.script_reasons.proofs.reports.gather_report.Goals as goal

-- the members of its facts have the facts of the report
pub returns-in-Some-as_object : goal.returns-in-Some-as_object
returns-in-Some-as_object c =
    let facts : view c.in-Some.facts.now ≡ object (members_view c.in-Some-as_object.members.now.entries) =
    object_is (view c.in-Some.facts.now) _ (sym c.in-Some-as_object.ensures) in
    let e : get (codes "facts") (view c.args.report.now) ≡ Some (object (members_view c.in-Some-as_object.members.now.entries)) =
    sym c.in-Some.ensures ∙ ap (λ (d : Data). Some d) facts in
    on_ok c.gather_facts.result
    (facts_kept (view c.args.report.now) _ c.args.gathered.now.reasons.items c.add.new.self.reasons.items c.gather_facts.new.gathered.reasons.items e
    (c.in_ok-add.ensures (λ id. has_fact id (view c.args.report.now)) refl))
    c.gather_facts.ensures

use Rattle.std.proofs.Common.{◌≡◌, ◌∙◌, All, subst, refl, reverse}
use Rattle.std.specs.Arc.{arc_value}
use Rattle.std.proofs.lemmas.Result.{IfOk-weaker}
use Rattle.filing_office.specs.Tallies.{Tally, nothing_taken}
use Rattle.filing_threads.specs.Tasks.{AreAtDesks}
use Rattle.filing_threads.proofs.CountedDesks.{sum_of_one}
use Rattle.filing_threads.proofs.ScriptTasks.{all_last, each_run_on}
use Rattle.filing_threads.proofs.office.run_after.Goals as goal

pub replay-requires-clause-nothing : goal.replay-requires-clause-nothing
replay-requires-clause-nothing g c =
    (all_last (λ d. d ≡ nothing_taken) c.pop.new.self.items c.in-Some.desk
    (subst (λ ds. All (λ d. d ≡ nothing_taken) ds) c.in-Some.ensures.items c.requires.desks.1)).0

pub returns : goal.returns
returns g c =
    let h = reverse c.args.first.now in
    let others = c.pop.new.self.items in
    let desk = c.replay.new.desk in
    let none = (all_last (λ d. d ≡ nothing_taken) others c.in-Some.desk
    (subst (λ ds. All (λ d. d ≡ nothing_taken) ds) c.in-Some.ensures.items c.requires.desks.1)).1 in
    let has = c.in_ok-newest.ensures in
    let all_desks = subst (λ ds. AreAtDesks ds c.in_ok-at_desks.at_desks.items) c.in_ok-push.ensures.items c.in_ok-at_desks.ensures.at_desks in
    IfOk-weaker c.run_each.result _ _
    (λ all left. each_run_on c.args.journaled (arc_value c.args.table.now) c.args.scripts.now c.in_ok-at_desks.at_desks.items all.0.items all.1.items
    left h _ has.known
    c.in_ok-at_desks.ensures.tasks
    (all_desks (λ (t : Tally). t.steps) ∙ sum_of_one (λ (t : Tally). t.steps) refl others desk none ∙ has.steps)
    (all_desks (λ (t : Tally). t.receipts) ∙ sum_of_one (λ (t : Tally). t.receipts) refl others desk none ∙ has.receipts))
    c.run_each.ensures

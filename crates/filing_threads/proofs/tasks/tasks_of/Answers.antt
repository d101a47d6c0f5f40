use Rattle.std.proofs.Common.{◌≡◌, ◌∷◌, [], ◌+◌, All, arith, subst, sym, refl, take, map, sum}
use Rattle.std.specs.Arc.{arc_value}
use Rattle.filing_model.specs.Sessions.Repository.{nothing}
use Rattle.filing_threads.specs.Replaying.{known_by}
use Rattle.filing_threads.specs.Tasks.{AreTasks, IsTask}
use Rattle.filing_threads.proofs.CountedDesks.{desk_moved}
use Rattle.filing_threads.proofs.ScriptTasks.{all_last, seats_taken}
use Rattle.filing_threads.proofs.tasks.tasks_of.Goals as goal

pub loop-script-preserved : goal.loop-script-preserved
loop-script-preserved g c =
    let so_far = c.loop-script.invariant in
    let reviewers = all_last (λ r. r ≡ nothing ∷ []) c.pop-in-loop-script.new.self.items c.in-Some-pop.reviewer
    (subst (λ rs. All (λ r. r ≡ nothing ∷ []) rs) c.in-Some-pop.ensures.items so_far.seen) in
    let table = arc_value c.args.table.now in
    let many = known_by c.args.newest.now in record {
      desks = omega (arith, so_far.desks, c.in-Some.ensures.cases);
      reviewers = omega (arith, so_far.reviewers, c.in-Some-pop.ensures.cases);
      seen = reviewers.1;
      tasks = subst (λ at_desks. AreTasks (IsTask many c.args.journaled table) (take (c.loop-script.script-index + 1) c.args.scripts.now) at_desks)
          (sym c.in_ok-push.ensures.items)
          (seats_taken (IsTask many c.args.journaled table) c.args.scripts.now c.loop-script.script-index c.loop-script.at_desks.items c.script-item.result _
          c.loop-script-test.true c.script-item.is so_far.tasks
          (record {
            script_is = c.as_slice.ensures.value;
            table_is = refl;
            journaled_is = refl;
            seen = c.in_ok-reviewer.reviewer;
            seen_is = refl;
            has_seen = c.in_ok-reviewer.ensures;
          }));
      counted = λ f.
          subst (λ at_desks. sum (map f (map (λ x. x.desk) at_desks)) + sum (map f c.pop.new.self.items) ≡ sum (map f c.args.desks.items))
          (sym c.in_ok-push.ensures.items)
          (desk_moved f c.loop-script.at_desks.items _ c.loop-script.desks.items c.pop.new.self.items c.args.desks.items c.in-Some.ensures.items
          (so_far.counted f));
    }

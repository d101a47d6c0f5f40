use Rattle.std.proofs.Common.{◌≡◌, ◌+◌, ℕ, [], ◌∷◌, All, length, map, sum, take, vec_len}
use Rattle.std.specs.Arc.{arc_value}
use Rattle.filing_model.specs.Sessions.Repository.{nothing}
use Rattle.filing_office.specs.Tallies.{Tally}
use Rattle.filing_threads.specs.Replaying.{known_by}
use Rattle.filing_threads.specs.Tasks.{AreTasks, IsTask}
use Rattle.filing_threads.proofs.tasks.tasks_of.Given as goal

-- the scripts before have their tasks at desks, and there are desks and reviewers for the others
abbrev pub invariant-loop-script : goal.invariant-loop-script
invariant-loop-script g l = record {
  desks : vec_len l.desks + l.script-index ≡ length l.scripts;
  reviewers : vec_len l.reviewers + l.script-index ≡ length l.scripts;
  seen : All (λ r. r ≡ nothing ∷ []) l.reviewers.items;
  tasks : AreTasks (IsTask (known_by l.newest) l.journaled (arc_value l.table)) (take l.script-index l.scripts) l.at_desks.items;
  counted : (f : Tally → ℕ) → sum (map f (map (λ x. x.desk) l.at_desks.items)) + sum (map f l.desks.items) ≡ sum (map f l.fn.desks.items);
}

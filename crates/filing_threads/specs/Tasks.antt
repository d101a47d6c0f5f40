-- Scripts with their desks and reviewers: private to the crate.
use Rattle.std.specs.Prelude.{◌≡◌, ℕ, Bool, List, [], ◌∷◌, map, sum, Option, Some, Result, IfOk}
use Rattle.std.specs.Arc.{arc_value}
use Rattle.std.specs.declared.alloc.AllocError.{AllocError}
use Rattle.std.specs.declared.alloc.Global.{Global}
use Rattle.std.specs.declared.vec.Vec.{Vec}
use Rattle.filing_model.specs.Oim.Facts.{Table}
use Rattle.filing_model.specs.Sessions.Repository.{Repository}
use Rattle.filing_office.specs.Tallies.{Tally}
use Rattle.filing_office.specs.Runs.{RunState}
use Rattle.filing_office.specs.Rans.{EachResult}
use Rattle.filing_office.specs.declared.desk_task.TaskAtDesk.{TaskAtDesk}
use Rattle.filing_threads.specs.declared.replies.Replies.{Replies}
use Rattle.filing_threads.specs.declared.script_task.ScriptTask.{ScriptTask}
use Rattle.filing_threads.specs.FoundHistories.{IsScriptRunTo}
use Rattle.filing_threads.specs.Replaying.{HasSeen}

-- ---- before the tasks

-- the task at this desk is to run the script, with a reviewer that has seen so many versions
pub record IsTask {J M : Type 0} (many : ℕ) (journaled : Bool) (table : Table) (script : Vec ℕ Global)
    (at_desk : TaskAtDesk J M ScriptTask)
    : Type 0 where
  pub script_is : at_desk.task.script.now ≡ script.items
  pub table_is : arc_value at_desk.task.table.now ≡ table
  pub journaled_is : at_desk.task.journaled ≡ journaled
  pub seen : List Repository
  pub seen_is : at_desk.reviewer ≡ Some seen
  pub has_seen : HasSeen many seen

-- each script has its task at a desk
abbrev pub AreTasks : {J M : Type 0} → (Vec ℕ Global → TaskAtDesk J M ScriptTask → Type 0) → List (Vec ℕ Global)
    → List (TaskAtDesk J M ScriptTask) → Type 0
AreTasks Is [] at_desks = at_desks ≡ []
AreTasks Is (script ∷ scripts) [] = ⊥
AreTasks Is (script ∷ scripts) (at_desk ∷ at_desks) = Is script at_desk × AreTasks Is scripts at_desks

-- the tasks are at these desks: whatever is counted of a desk, it adds up to the same
abbrev pub AreAtDesks : {J M : Type 0} → List Tally → List (TaskAtDesk J M ScriptTask) → Type 0
AreAtDesks {J} {M} desks at_desks =
    (f : Tally → ℕ) → sum (map f (map (λ (x : TaskAtDesk J M ScriptTask). x.desk) at_desks)) ≡ sum (map f desks)

-- ---- after them

-- what a script leaves
abbrev pub script_leaves : (J : Type 0) → ScriptTask → RunState → RunState → Result Replies AllocError → Type 0
script_leaves J task s t replies =
    IfOk replies (IsScriptRunTo J task.journaled (arc_value task.table.now) task.script.now s t.tally)

abbrev pub TaskResult : Type 0
TaskResult = Tally × Option (List Repository) × Result Replies AllocError

-- what the tasks leave, put apart
pub record AreLeft {J M : Type 0} (at_desks : List (TaskAtDesk J M ScriptTask)) (desks : List Tally)
    (replies : List (Result Replies AllocError)) : Type 0 where
  pub lefts : List TaskResult
  pub each : EachResult (script_leaves J) at_desks lefts
  pub desks_are : desks ≡ map (λ (l : TaskResult). l.0) lefts
  pub replies_are : replies ≡ map (λ (l : TaskResult). l.2) lefts

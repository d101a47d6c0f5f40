-- What comes back of works. The project's own.
use Rattle.std.specs.Prelude.{◌≡◌, ℕ, List, [], length, Option, Some, slice_get}
use Rattle.std.specs.declared.alloc.Global.{Global}
use Rattle.std.specs.declared.vec.Vec.{Vec}
use Rattle.filing_model.specs.Common.TextMap.{empty}
use Rattle.filing_model.specs.Sessions.Repository.{Repository}
use Rattle.filing_office.specs.Tallies.{Tally}
use Rattle.filing_office.specs.Runs.{RunState, Runs}
use Rattle.filing_office.specs.declared.outcome.Outcome.{Outcome}
use Rattle.filing_office.specs.declared.desk_task.TaskAtDesk.{TaskAtDesk}
use Rattle.filing_office.specs.declared.work.Work.{Work}

-- the desk, its reviewer, and the outcomes
abbrev pub Ran : Type 0 → Type 0
Ran J = Tally × Option (List Repository) × Vec (Outcome J) Global

-- ---- tasks

-- before its first step a desk has no name in use
abbrev pub has_task : {J M E : Type 0} → TaskAtDesk J M E → RunState
has_task x = record { tally = x.desk; seen = x.reviewer; names = empty }

-- the desk and its reviewer come back as the task leaves them, with what it left
pub record IsResultOf {J M E T : Type 0} (leaves : E → RunState → RunState → T → Type 0) (x : TaskAtDesk J M E)
    (l : Tally × Option (List Repository) × T) : Type 0 where
  pub left : RunState
  pub is_left : leaves x.task (has_task x) left l.2
  pub desk : l.0 ≡ left.tally
  pub reviewer : l.1 ≡ left.seen

-- each in its place
pub record EachResult {J M E T : Type 0} (leaves : E → RunState → RunState → T → Type 0)
    (at_desks : List (TaskAtDesk J M E))
    (all : List (Tally × Option (List Repository) × T)) : Type 0 where
  pub all_back : length all ≡ length at_desks
  pub each : (place : ℕ) (x : TaskAtDesk J M E) (l : Tally × Option (List Repository) × T)
      → slice_get at_desks place ≡ Some x
      → slice_get all place ≡ Some l → IsResultOf leaves x l

-- ---- lists of steps

-- before its first step a desk has no name in use
abbrev pub begun : {J M : Type 0} → Work J M → RunState
begun w = record { tally = w.desk; seen = w.reviewer; names = empty }

-- desk and reviewer come back as a run of the steps leaves them, with its outcomes
pub record RanOf {J M : Type 0} (w : Work J M) (r : Ran J) : Type 0 where
  pub left : RunState
  pub runs : Runs (begun w) left [] w.steps.items r.2.items
  pub desk : r.0 ≡ left.tally
  pub reviewer : r.1 ≡ left.seen

-- each work comes back in its place
pub record EachRan {J M : Type 0} (works : List (Work J M)) (rans : List (Ran J)) : Type 0 where
  pub all : length rans ≡ length works
  pub each : (place : ℕ) (w : Work J M) (r : Ran J) → slice_get works place ≡ Some w → slice_get rans place ≡ Some r
      → RanOf w r

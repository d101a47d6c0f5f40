-- Works as tasks at desks, each a list of steps.
use Rattle.std.proofs.Common.{◌≡◌, ◌∙◌, ap, sym, subst, refl, ℕ, List, [], length, map, Option, Some, None, option_map, arith}
use Rattle.std.proofs.lemmas.List.{length-map}
use Rattle.std.proofs.lemmas.Option.{none-some, same_Some, slice_get-map}
use Rattle.std.specs.Prelude.{slice_get}
use Rattle.filing_publish.specs.declared.law.Naming.{Ghosts}
use Rattle.std.specs.declared.alloc.Global.{Global}
use Rattle.std.specs.declared.vec.Vec.{Vec}
use Rattle.filing_office.specs.declared.outcome.Outcome.{Outcome}
use Rattle.filing_office.specs.declared.desk_task.TaskAtDesk.{TaskAtDesk}
use Rattle.filing_office.specs.declared.run.StepList.{StepList}
use Rattle.filing_office.specs.declared.work.Work.{Work}
use Rattle.filing_office.specs.Runs.{RunState, Runs}
use Rattle.filing_office.specs.Rans.{Ran, RanOf, EachRan, IsResultOf, EachResult}

-- the work that a task at a desk was made of
abbrev pub work_in : {J M : Type 0} {n : Ghosts J} → TaskAtDesk J M (StepList J n) → Work J M
work_in x = record { desk = x.desk; reviewer = x.reviewer; steps = x.task.steps }

-- what is left of a list of steps
abbrev pub steps_leave : {J : Type 0} {n : Ghosts J} → StepList J n → RunState → RunState → Vec (Outcome J) Global → Type 0
steps_leave list s t outcomes = Runs s t [] list.steps.items outcomes.items

before_map : {X Y : Type 0} (f : X → Y) (o : Option X) (y : Y) → option_map f o ≡ Some y → (x : X) × (o ≡ Some x) × (f x ≡ y)
before_map f (Some x) y is = (x, refl, same_Some (f x) y is)
before_map f None y is = absurd (none-some y is)

ran_of : {J M : Type 0} {n : Ghosts J} (x : TaskAtDesk J M (StepList J n)) (r : Ran J) → IsResultOf steps_leave x r → RanOf (work_in x) r
ran_of x r l = record { left = l.left; runs = l.is_left; desk = l.desk; reviewer = l.reviewer }

pub each_ran : {J M : Type 0} {n : Ghosts J} (at_desks : List (TaskAtDesk J M (StepList J n))) (works : List (Work J M)) (rans : List (Ran J))
    → map work_in at_desks ≡ works → EachResult steps_leave at_desks rans → EachRan works rans
each_ran at_desks works rans are lefts = record {
  all = lefts.all_back ∙ sym (length-map at_desks work_in) ∙ ap length are;
  each = λ place w r at_w at_r.
      let (x, here, its) = before_map work_in (slice_get at_desks place) w
      (sym (slice_get-map work_in at_desks place) ∙ ap (λ ws. slice_get ws place) are ∙ at_w) in
      subst (λ y. RanOf y r) its (ran_of x r (lefts.each place x r here at_r));
}

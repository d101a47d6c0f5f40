-- Scripts at their desks.
use Rattle.std.proofs.Common.{◌≡◌, ◌∙◌, ap, sym, subst, refl, arith, Bool, ℕ, zero, suc, ◌+◌, ◌<◌, take, get_or, List, [], ◌∷◌}
use Rattle.std.proofs.Common.{◌++◌, length, map, Option, Some, None, option_map, Result, Ok, Err, IfOk}
use Rattle.std.proofs.lemmas.List.{length-map}
use Rattle.std.proofs.Math.Seq.{take-suc}
use Rattle.std.proofs.lemmas.Option.{none-some, same_Some, slice_get-map}
use Rattle.std.specs.Prelude.{slice_get, slice_index_or, All}
use Rattle.std.specs.Arc.{arc_value}
use Rattle.std.specs.declared.alloc.AllocError.{AllocError}
use Rattle.std.specs.declared.alloc.Global.{Global}
use Rattle.std.specs.declared.vec.Vec.{Vec}
use Rattle.filing_model.specs.Common.Text.{Text}
use Rattle.filing_model.specs.Oim.Facts.{Table}
use Rattle.filing_model.specs.Histories.History.{History, repository}
use Rattle.filing_office.specs.Tallies.{Tally}
use Rattle.filing_office.specs.Runs.{RunState}
use Rattle.filing_office.specs.Rans.{IsResultOf, has_task}
use Rattle.filing_office.specs.declared.desk_task.TaskAtDesk.{TaskAtDesk}
use Rattle.filing_threads.specs.declared.script_task.ScriptTask.{ScriptTask}
use Rattle.filing_threads.specs.declared.replies.Replies.{Replies}
use Rattle.filing_threads.specs.FoundHistories.{AreRunOn, IsBegunOn, IsScriptRunTo, receipts_in, steps_in}
use Rattle.filing_threads.specs.Tasks.{IsTask, AreLeft, AreTasks, TaskResult, script_leaves}

module _ {J M : Type 0} (Is : Vec ℕ Global → TaskAtDesk J M ScriptTask → Type 0) where
  -- one task at a desk more
  pub seats_further : (scripts : List (Vec ℕ Global)) (at_desks : List (TaskAtDesk J M ScriptTask)) (script : Vec ℕ Global)
      (at_desk : TaskAtDesk J M ScriptTask)
      → AreTasks Is scripts at_desks → Is script at_desk → AreTasks Is (scripts ++ script ∷ []) (at_desks ++ at_desk ∷ [])
  seats_further [] [] script at_desk are is = (is, refl)
  seats_further [] (other ∷ at_desks) script at_desk are is = absurd (cc are)
  seats_further (x ∷ scripts) [] script at_desk are is = absurd are
  seats_further (x ∷ scripts) (other ∷ at_desks) script at_desk are is = (are.0, seats_further scripts at_desks script at_desk are.1 is)

  pub seats_taken : (scripts : List (Vec ℕ Global)) (i : ℕ) (at_desks : List (TaskAtDesk J M ScriptTask)) (script : Vec ℕ Global)
      (at_desk : TaskAtDesk J M ScriptTask)
      → i < length scripts → script ≡ get_or scripts i script → AreTasks Is (take i scripts) at_desks → Is script at_desk
      → AreTasks Is (take (i + 1) scripts) (at_desks ++ at_desk ∷ [])
  seats_taken scripts i at_desks script at_desk below is are here =
      let next : suc i ≡ i + 1 = omega arith in
      subst (λ m. AreTasks Is (take m scripts) (at_desks ++ at_desk ∷ [])) next
      (subst (λ xs. AreTasks Is xs (at_desks ++ at_desk ∷ [])) (sym (take-suc scripts i script below))
      (subst (λ x. AreTasks Is (take i scripts ++ x ∷ []) (at_desks ++ at_desk ∷ [])) is (seats_further (take i scripts) at_desks script at_desk are here)))

  task_at : (scripts : List (Vec ℕ Global)) (at_desks : List (TaskAtDesk J M ScriptTask)) (place : ℕ) (script : Vec ℕ Global)
      → AreTasks Is scripts at_desks → slice_get scripts place ≡ Some script
      → (at_desk : TaskAtDesk J M ScriptTask) × (slice_get at_desks place ≡ Some at_desk) × Is script at_desk
  task_at [] at_desks place script are at = absurd (none-some script at)
  task_at (x ∷ scripts) [] place script are at = absurd are
  task_at (x ∷ scripts) (at_desk ∷ at_desks) zero script are at = (at_desk, refl, subst (λ s. Is s at_desk) (same_Some x script at) are.0)
  task_at (x ∷ scripts) (at_desk ∷ at_desks) (suc place) script are at = task_at scripts at_desks place script are.1 at

  tasks_many : (scripts : List (Vec ℕ Global)) (at_desks : List (TaskAtDesk J M ScriptTask)) → AreTasks Is scripts at_desks → length at_desks ≡ length scripts
  tasks_many [] at_desks are = ap length are
  tasks_many (x ∷ scripts) [] are = absurd are
  tasks_many (x ∷ scripts) (at_desk ∷ at_desks) are = ap suc (tasks_many scripts at_desks are.1)

before_map : {X Y : Type 0} (f : X → Y) (o : Option X) (y : Y) → option_map f o ≡ Some y → (x : X) × (o ≡ Some x) × (f x ≡ y)
before_map f (Some x) y is = (x, refl, same_Some (f x) y is)
before_map f None y is = absurd (none-some y is)

-- ---- what the tasks leave

tallies_of : {J M : Type 0} (at_desks : List (TaskAtDesk J M ScriptTask))
    → map (λ (s : RunState). s.tally) (map has_task at_desks) ≡ map (λ (x : TaskAtDesk J M ScriptTask). x.desk) at_desks
tallies_of [] = refl
tallies_of (x ∷ at_desks) = ap (λ (ts : List Tally). x.desk ∷ ts) (tallies_of at_desks)

-- two facts of a success
pub both_if : {X E : Type 0} (P Q R : X → Type 0) (r : Result X E) → ((x : X) → P x → Q x → R x) → IfOk r P → IfOk r Q → IfOk r R
both_if P Q R (Ok x) join p q = join x p q
both_if P Q R (Err e) join p q = tt

-- of a script whose replies there are
run_to : (J : Type 0) (journaled journaled' : Bool) (table table' : Table) (script script' : Text) (start start' : RunState) (counted counted' : Tally)
    (replies replies' : Result Replies AllocError) → journaled ≡ journaled' → table ≡ table' → script ≡ script' → start ≡ start'
    → counted ≡ counted' → replies ≡ replies'
    → IfOk replies (IsScriptRunTo J journaled table script start counted) → IfOk replies' (IsScriptRunTo J journaled' table' script' start' counted')
run_to J journaled journaled' table table' script script' start start' counted counted' replies replies' j t x s c r run =
    subst (λ (q : Result Replies AllocError). IfOk q (IsScriptRunTo J journaled' table' script' start' counted')) r
    (subst (λ (q : Tally). IfOk replies (IsScriptRunTo J journaled' table' script' start' q)) c
    (subst (λ (q : RunState). IfOk replies (IsScriptRunTo J journaled' table' script' q counted)) s
    (subst (λ (q : Text). IfOk replies (IsScriptRunTo J journaled' table' q start counted)) x
    (subst (λ (q : Table). IfOk replies (IsScriptRunTo J journaled' q script start counted)) t
    (subst (λ (q : Bool). IfOk replies (IsScriptRunTo J q table script start counted)) j run)))))

module _ {J M : Type 0} (journaled : Bool) (table : Table) (scripts : List (Vec ℕ Global)) (at_desks : List (TaskAtDesk J M ScriptTask))
    (counted : List Tally) (all : List (Result Replies AllocError))
    (left : AreLeft at_desks counted all) where
  -- what the task at this place leaves
  record LeftAt (place : ℕ) (at_desk : TaskAtDesk J M ScriptTask) (replies : Result Replies AllocError) : Type 0 where
    its : TaskResult
    is_left : IsResultOf (script_leaves J) at_desk its
    at_place : slice_get left.lefts place ≡ Some its
    replies_are : its.2 ≡ replies

  left_at : (place : ℕ) (at_desk : TaskAtDesk J M ScriptTask) (replies : Result Replies AllocError) → slice_get at_desks place ≡ Some at_desk
      → slice_get all place ≡ Some replies → LeftAt place at_desk replies
  left_at place at_desk replies at_seat at_replies =
      let (its, at_left, is) = before_map (λ (l : TaskResult). l.2) (slice_get left.lefts place) replies
      (sym (slice_get-map (λ (l : TaskResult). l.2) left.lefts place) ∙ ap (λ xs. slice_get xs place) (sym left.replies_are) ∙ at_replies) in record {
        its = its;
        is_left = left.each.each place at_desk its at_seat at_left;
        at_place = at_left;
        replies_are = is;
      }

  lefts_many : length left.lefts ≡ length at_desks
  lefts_many = left.each.all_back

  all_many : length all ≡ length at_desks
  all_many = ap length left.replies_are ∙ length-map left.lefts (λ (l : TaskResult). l.2) ∙ lefts_many

  module _ (h : History) (many : ℕ) (known : many ≡ (repository h).count + 1) where
    begun_on : (script : Vec ℕ Global) (at_desk : TaskAtDesk J M ScriptTask) → IsTask many journaled table script at_desk → IsBegunOn h (has_task at_desk)
    begun_on script at_desk task = record {
      names = refl;
      seen = task.seen;
      seen_is = task.seen_is;
      chain = task.has_seen.0;
      many = task.has_seen.1 ∙ known;
    }

    pub each_run_on : AreTasks (IsTask many journaled table) scripts at_desks
        → steps_in (map (λ (x : TaskAtDesk J M ScriptTask). x.desk) at_desks) ≡ length h
        → receipts_in (map (λ (x : TaskAtDesk J M ScriptTask). x.desk) at_desks) ≡ (repository h).count
        → AreRunOn J journaled table scripts h counted all
    each_run_on are steps receipts =
        let starts = map has_task at_desks in
        let desks_are : map (λ (s : RunState). s.tally) starts ≡ map (λ (x : TaskAtDesk J M ScriptTask). x.desk) at_desks = tallies_of at_desks in record {
          starts = starts;
          all_run = all_many ∙ tasks_many (IsTask many journaled table) scripts at_desks are;
          all_started = length-map at_desks has_task ∙ tasks_many (IsTask many journaled table) scripts at_desks are;
          all_counted = ap length left.desks_are ∙ length-map left.lefts (λ (l : TaskResult). l.0) ∙ lefts_many
              ∙ tasks_many (IsTask many journaled table) scripts at_desks are;
          each = λ place script replies start tally at_script at_replies at_start at_tally.
              let (at_desk, at_seat, task) = task_at (IsTask many journaled table) scripts at_desks place script are at_script in
              let l = left_at place at_desk replies at_seat at_replies in
              let start_is : has_task at_desk ≡ start =
              same_Some (has_task at_desk) start (sym (ap (option_map has_task) at_seat) ∙ sym (slice_get-map has_task at_desks place) ∙ at_start) in
              let tally_is : l.its.0 ≡ tally =
              same_Some l.its.0 tally
              (sym (ap (option_map (λ (l : TaskResult). l.0)) l.at_place) ∙ sym (slice_get-map (λ (l : TaskResult). l.0) left.lefts place)
              ∙ ap (λ xs. slice_get xs place) (sym left.desks_are) ∙ at_tally) in (
                subst (IsBegunOn h) start_is (begun_on script at_desk task),
                run_to J at_desk.task.journaled journaled (arc_value at_desk.task.table.now) table at_desk.task.script.now script.items (has_task at_desk) start
                    l.is_left.left.tally tally l.its.2 replies task.journaled_is task.table_is task.script_is start_is (sym l.is_left.desk ∙ tally_is)
                    l.replies_are l.is_left.is_left,
              );
          steps_before = ap steps_in desks_are ∙ steps;
          receipts_before = ap receipts_in desks_are ∙ receipts;
        }

-- the last of a list of which each is so
pub all_last : {X : Type 0} (P : X → Type 0) (xs : List X) (x : X) → All P (xs ++ x ∷ []) → P x × All P xs
all_last P [] x all = (all 0 x (omega arith), λ k d lt. absurd (omega (arith, lt)))
all_last P (y ∷ xs) x all =
    let rest = all_last P xs x (λ k d lt. all (suc k) d (omega (arith, lt))) in (
      rest.0,
      λ k d lt. at k d lt (all 0 y (omega arith)) rest.1,
    )
  where
    at : (k : ℕ) (d : _) → k < length (y ∷ xs) → P y → All P xs → P (slice_index_or (y ∷ xs) k d)
    at zero d lt here rest = here
    at (suc k) d lt here rest = rest k d (omega (arith, lt))

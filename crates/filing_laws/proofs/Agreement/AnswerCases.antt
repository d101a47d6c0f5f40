-- What a call does, by cases: it is told something or finds a fact, and the session's copy stays, or it stages a fact, a removal or a declared value.
use Rattle.std.proofs.Common.{◌≡◌, refl, Bool, true, false, cond, Option, Some, None, is_some}
use Rattle.std.specs.Option.{option_map_or}
use Rattle.std.specs.declared.result.Result.{Result}
use Rattle.std.specs.declared.result.Result.TheVariants.{Ok, Err}
use Rattle.filing_model.specs.Common.Text.{Text}
use Rattle.filing_model.specs.Oim.Facts.{Fact, RawFact, fit_of}
use Rattle.filing_model.specs.Oim.Reports.{Report}
use Rattle.filing_model.specs.Sessions.Repository.{Repository, report_at, fact_in, with_fact_at, declaring_at}
use Rattle.filing_model.specs.Sessions.Calls as call
use Rattle.filing_model.specs.Sessions.Calls.{Call, report_of_call}
use Rattle.filing_model.specs.Sessions.Replies as reply
use Rattle.filing_model.specs.Sessions.Replies.{Reply}
use Rattle.filing_model.specs.Sessions.Sessions.{Answer, may_make, answer_in, answer, fitted}
use Rattle.filing_model.specs.declared.duplicates.Allowed.{Allowed}
use Rattle.filing_model.specs.declared.faults.FactFault.{FactFault}
use Rattle.filing_model.specs.declared.kind.Kind.{Kind}

-- whether a reply finds no fact, and has no number of a load or commit
abbrev pub finds_none : Reply → Bool
finds_none (reply.Found fact) = false
finds_none (reply.Loaded n) = false
finds_none (reply.Committed n) = false
finds_none (reply.Conflict n t) = false
finds_none _ = true

abbrev pub stages : Reply → Bool
stages reply.Staged = true
stages _ = false

-- what is shown of calls on a copy and their answers, case by case
pub record HoldsInEachCase (c : Repository) (P : Call → Answer → Type 0) : Type 0 where
  pub told : (ask : Call) (r : Reply) → stages r ≡ false → finds_none r ≡ true → P ask (r, c)
  pub found : (name id : Text) (r : Report) (fact : Fact) → report_at c name ≡ Some r → fact_in r id ≡ Some fact
      → P (call.Get name id) (reply.Found fact, c)
  pub put : (name id : Text) (raw : RawFact) (r : Report) (fact : Fact) → report_at c name ≡ Some r → fit_of r.names raw ≡ Ok fact
      → P (call.Add name id raw) (reply.Staged, with_fact_at c name id (Some fact))
  pub removed : (name id : Text) (r : Report) → report_at c name ≡ Some r
      → P (call.Remove name id) (reply.Staged, with_fact_at c name id None)
  pub declared : (name : Text) (value : Allowed) (r : Report) → report_at c name ≡ Some r
      → P (call.Declare name value) (reply.Staged, declaring_at c name value)

-- so it holds of each call
pub each_answer : (P : Call → Answer → Type 0) (kind : Kind) (ask : Call) (c : Repository) → HoldsInEachCase c P → P ask (answer kind ask c)
each_answer P kind ask c cases = by (may_make kind ask) (report_at c (report_of_call ask)) refl
  where
    within : (ask : Call) (r : Report) → report_at c (report_of_call ask) ≡ Some r → P ask (answer_in c ask r)
    within (call.Get name id) r is = by (fact_in r id) refl
      where
        by : (o : Option Fact) → fact_in r id ≡ o → P (call.Get name id) (option_map_or reply.Found o reply.Absent, c)
        by None none = cases.told _ reply.Absent refl refl
        by (Some fact) some = cases.found name id r fact is some
    within (call.Add name id raw) r is = by (is_some (fact_in r id)) (fit_of r.names raw) refl
      where
        by : (taken : Bool) (fit : Result Fact FactFault) → fit_of r.names raw ≡ fit
            → P (call.Add name id raw) (cond taken (reply.Taken, c) (fitted c name id fit))
        by true fit fits = cases.told _ reply.Taken refl refl
        by false (Ok fact) fits = cases.put name id raw r fact is fits
        by false (Err fault) fits = cases.told _ (reply.BadFact fault) refl refl
    within (call.Remove name id) r is = by (is_some (fact_in r id))
      where
        by : (found : Bool) → P (call.Remove name id) (cond found (reply.Staged, with_fact_at c name id None) (reply.Absent, c))
        by true = cases.removed name id r is
        by false = cases.told _ reply.Absent refl refl
    within (call.Declare name value) r is = cases.declared name value r is
    within ask r is = cases.told ask (answer_in c ask r).0 refl refl

    by : (may : Bool) (o : Option Report) → report_at c (report_of_call ask) ≡ o
        → P ask (cond may (option_map_or (answer_in c ask) o (reply.NoReport, c)) (reply.ReadOnly, c))
    by false o is = cases.told ask reply.ReadOnly refl refl
    by true None is = cases.told ask reply.NoReport refl refl
    by true (Some r) is = within ask r is

-- Scripts in threads that go on from a history.
use Rattle.std.proofs.Common.{◌≡◌, subst, List, ℕ, Option, Some, None, option_map, Result, Ok}
use Rattle.std.specs.declared.alloc.Global.{Global}
use Rattle.std.specs.declared.vec.Vec.{Vec}
use Rattle.filing_model.specs.Oim.Facts.{Table}
use Rattle.filing_model.specs.Histories.History.{History}
use Rattle.line_io.specs.Devices.{SinkState}
use Rattle.filing_core.specs.States.{CoreState}
use Rattle.filing_threads.specs.FoundHistories.{RunsAndWritesOn, ThreadsWriteOn}
use Rattle.filing_threads.specs.declared.fault.ThreadsFault.{ThreadsFault}

module _ (J : Type 0) (table : Table) (scripts : List (Vec ℕ Global)) (first h : History) (are : first ≡ h) (sink sink' : SinkState) where
  abbrev writes_on : Option CoreState → Result (Unit {0}) ThreadsFault → Type 0
  writes_on core result = ThreadsWriteOn J table scripts first (option_map (λ (c : CoreState). c.history) core) result sink sink'

  -- scripts that were run to an end leave a core
  pub none_run : (core : Option CoreState) → core ≡ None → writes_on core (Ok tt) → ⊥
  none_run core is writes = (subst (λ o. writes_on o (Ok tt)) is writes).0

  pub threads_ended : (core : Option CoreState) (whole : CoreState) → core ≡ Some whole → writes_on core (Ok tt)
      → RunsAndWritesOn J table scripts h whole.history (Ok tt) sink sink'
  threads_ended core whole is writes =
      subst (λ (x : History). RunsAndWritesOn J table scripts x whole.history (Ok tt) sink sink') are (subst (λ o. writes_on o (Ok tt)) is writes)

  pub threads_stopped : (core : Option CoreState) (result : Result (Unit {0}) ThreadsFault) → writes_on core result
      → ThreadsWriteOn J table scripts h (option_map (λ (c : CoreState). c.history) core) result sink sink'
  threads_stopped core result writes =
      subst (λ (x : History). ThreadsWriteOn J table scripts x (option_map (λ (c : CoreState). c.history) core) result sink sink') are writes

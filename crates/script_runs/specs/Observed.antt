-- What an observer of a run is shown. All of it is the project's own.
use Rattle.std.specs.Prelude.{◌≡◌, ℕ, List, refl}
use Rattle.std.proofs.Common.{◌∙◌}
use Rattle.filing_model.specs.Common.Text.{Text}
use Rattle.line_io.specs.Devices.{SourceState, SinkState, Gave, Took}
use Rattle.line_io.specs.Lines.{lines_of, lines_text, spoken}
use Rattle.line_io.specs.Run.{Answers}
use Rattle.script_runs.specs.declared.run.machine.Observed.{Observed}
use Rattle.script_runs.specs.declared.run.machine.Unobserved.{Unobserved}

-- nothing is said
abbrev pub looks_at_nothing : Unobserved → List ℕ → List ℕ → Unobserved → Type 0
looks_at_nothing before line reply after = Unit {0}

module _ {M O : Type 0} (replies : M → Text → Text → M → Type 0) (sees : O → Text → Text → O → Type 0) where
  -- the machine answers, and the observer sees the line with its reply
  abbrev pub RepliesSeen : Observed M O → Text → Text → Observed M O → Type 0
  RepliesSeen before line reply after =
      replies before.machine line reply after.machine × sees before.observer line reply after.observer

-- keeping changes the machine alone
module _ {M O : Type 0} (keeps : M → M → Type 0) where
  abbrev pub KeepsSeen : Observed M O → Observed M O → Type 0
  KeepsSeen before after = keeps before.machine after.machine × (after.observer ≡ before.observer)

  pub keeps_nothing : ((m : M) → keeps m m) → (m : Observed M O) → KeepsSeen m m
  keeps_nothing nothing m = (nothing m.machine, refl)

  pub keeps_twice : ((a b c : M) → keeps a b → keeps b c → keeps a c) → (a b c : Observed M O) → KeepsSeen a b
      → KeepsSeen b c → KeepsSeen a c
  keeps_twice twice a b c p q = (twice a.machine b.machine c.machine p.0 q.0, q.1 ∙ p.1)

-- the source was read to its end, replies to all its lines are written and nothing else, and the observer saw each line with its reply, in their order
pub record IsShown {S O : Type 0} (state : S → SourceState) (sees : O → Text → Text → O → Type 0) (source source' : S)
    (sink sink' : SinkState) (before after : O) : Type 0 where
  pub given : Text
  pub gave : Gave (state source) (state source') given 1 0
  pub texts : List Text
  pub took : Took sink sink' (lines_text texts) 0
  pub saw : Answers sees before (spoken (lines_of given)) texts after

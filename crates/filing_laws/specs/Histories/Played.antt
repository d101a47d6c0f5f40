-- Of histories that are made step by step, each step with its one next reply.
use Rattle.std.specs.Prelude.{◌≡◌, ℕ, List, [], ◌∷◌, ◌++◌, Option}
use Rattle.filing_model.specs.Histories.History.{Step, History}
use Rattle.filing_model.specs.Histories.Lawful.{IsLawful, after_step}
use Rattle.filing_laws.specs.Histories.NextReply.{MayBeTaken}

-- a step, with the session that takes it
abbrev pub SessionStep : Type 0
SessionStep = Option ℕ × Step

-- the history after further steps of any sessions, in the order of the list
abbrev pub played_on : History → List SessionStep → History
played_on h [] = h
played_on h (l ∷ ls) = played_on (after_step h l.0 l.1) ls

abbrev pub played : List SessionStep → History
played steps = played_on [] steps

-- the steps of a history, first to last
abbrev pub steps_of : History → List SessionStep
steps_of [] = []
steps_of (e ∷ older) = steps_of older ++ (e.session, e.step) ∷ []

-- whatever is played is lawful, and each lawful history is what its own steps play. A step of a session that is not open makes no entry
pub record PlayedAreTheLawful : Type 0 where
  pub lawful : (steps : List SessionStep) → IsLawful (played steps)
  pub all : (h : History) → IsLawful h → played (steps_of h) ≡ h
  pub no_entry : (h : History) (session : Option ℕ) (step : Step) → ¬ MayBeTaken h session step
      → after_step h session step ≡ h

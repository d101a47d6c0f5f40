-- Of the one next reply of a lawful history.
use Rattle.std.specs.Prelude.{◌≡◌, ℕ, ◌∷◌, Option, Some}
use Rattle.filing_model.specs.Sessions.Replies.{Reply}
use Rattle.filing_model.specs.Histories.History.{Step, Load, Open, Ask, Commit, Close, Entry, History}
use Rattle.filing_model.specs.Histories.Lawful.{IsLawful, IsOngoing, entered_under, next_reply}
use Rattle.filing_model.specs.declared.kind.Kind.{Kind}

-- the step is of a session that was opened and has not ended
abbrev pub IsOfOpenSession : History → Option ℕ → Type 0
IsOfOpenSession h session = (s : ℕ) × (kind : Kind) × IsOngoing h session s kind

-- loads and openings may be taken at any time, and every other step by an open session
abbrev pub MayBeTaken : History → Option ℕ → Step → Type 0
MayBeTaken h session (Load name x) = Unit {0}
MayBeTaken h session (Open kind) = Unit {0}
MayBeTaken h session (Ask call) = IsOfOpenSession h session
MayBeTaken h session Commit = IsOfOpenSession h session
MayBeTaken h session Close = IsOfOpenSession h session

-- the history with the step, entered under its number, and this reply
abbrev pub after_reply : History → Option ℕ → Step → Reply → History
after_reply h session step r = record { session = entered_under h session step; step = step; reply = r } ∷ h

-- the reply keeps the history lawful, no other does, and it is what the definition computes
pub record IsOneNextReply (h : History) (session : Option ℕ) (step : Step) (r : Reply) : Type 0 where
  pub told : next_reply h session step ≡ Some r
  pub lawful : IsLawful (after_reply h session step r)
  pub only : (other : Reply) → IsLawful (after_reply h session step other) → other ≡ r

-- each step that may be taken after a lawful history has one next reply
abbrev pub EachStepHasOneReply : Type 0
EachStepHasOneReply = (h : History) (session : Option ℕ) (step : Step) → IsLawful h → MayBeTaken h session step
    → (r : Reply) × IsOneNextReply h session step r

-- what follows lawfully may be taken, stands under the number of its step, and has the one next reply
pub record FollowsLawfully (e : Entry) (h : History) : Type 0 where
  pub taken : MayBeTaken h e.session e.step
  pub number : entered_under h e.session e.step ≡ e.session
  pub told : next_reply h e.session e.step ≡ Some e.reply

abbrev pub EachEntryFollowsLawfully : Type 0
EachEntryFollowsLawfully = (h : History) (e : Entry) → IsLawful (e ∷ h) → FollowsLawfully e h
